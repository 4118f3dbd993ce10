-- The refusals that do not look at how much was added before, and those that do.
use Rattle.std.specs.Prelude.{ℕ, List, [], ◌∷◌, Option}
use Rattle.std.specs.List.{find}
use Rattle.policy_history.specs.declared.heads.Head.{Head}
use Rattle.policy_history.specs.declared.events.Refusal.{Refusal}
use Rattle.policy_history.specs.declared.events.Refusal.TheVariants.{NoSuchPrincipal, NotYourPrincipal, NoSuchLabel, NotHolder, NoSuchObject, NameTaken, NotOwner, NoGoal, NoSuchProof, NoBinding, BadPort, BadFormula, BadProof, Quota, JournalFull, ObjectsFull, CasesFull}
use Rattle.policy_history.specs.Events.{EventTree}
use Rattle.policy_history.specs.States.{State}
use Rattle.policy_history.specs.Machine.{applies}

abbrev pub early_refusals : List Refusal
early_refusals =
    NoSuchPrincipal ∷ NotYourPrincipal ∷ NoSuchLabel ∷ NotHolder ∷ NoSuchObject ∷ NameTaken ∷ NotOwner ∷ NoGoal
    ∷ NoSuchProof ∷ NoBinding ∷ BadPort ∷ BadFormula ∷ BadProof ∷ []

abbrev pub late_refusals : List Refusal
late_refusals = Quota ∷ JournalFull ∷ ObjectsFull ∷ CasesFull ∷ []

abbrev pub early_refusal : Head → State → ℕ → ℕ → EventTree → Option Refusal
early_refusal h s session p e = find (applies h s session p e) early_refusals

abbrev pub late_refusal : Head → State → ℕ → ℕ → EventTree → Option Refusal
late_refusal h s session p e = find (applies h s session p e) late_refusals
