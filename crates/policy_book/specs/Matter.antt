-- What the board of the policy is about: the verdicts that it keeps of cases.
use Rattle.std.specs.Prelude.{◌≡◌, ℕ, ◌≤◌, List}
use Rattle.nal_rules.specs.Faults.{fault_number}
use Rattle.nal_rules.specs.declared.verdicts.Cause.TheVariants.{GoalUnset, NoProof, Line, LabelMissing, NotBound, AuthorityNo}
use Rattle.nal_rules.specs.declared.verdicts.Verdict.{Verdict}
use Rattle.nal_rules.specs.declared.verdicts.Verdict.TheVariants.{Allowed, Denied}
use Rattle.policy_history.specs.declared.heads.Head.{Head}
use Rattle.policy_history.specs.Events.{EntryTree}
use Rattle.policy_history.specs.Judged.{IsRight}
use Rattle.verdict_words.specs.declared.places.Held.{Held}

-- a verdict as a board keeps it: its code, and the numbers of a wrong line and of its fault. Of the other verdicts nothing is kept
abbrev pub StandsFor : Verdict → Held → Type 0
StandsFor Allowed held = held ≡ record { code = 1; line = 0; fault = 0 }
StandsFor (Denied GoalUnset) held = held ≡ record { code = 2; line = 0; fault = 0 }
StandsFor (Denied NoProof) held = held ≡ record { code = 3; line = 0; fault = 0 }
StandsFor (Denied (Line k fault)) held = held ≡ record { code = 4; line = k; fault = fault_number fault }
StandsFor (Denied (LabelMissing k)) held = ⊥
StandsFor (Denied (NotBound k)) held = ⊥
StandsFor (Denied (AuthorityNo k)) held = ⊥

-- after these entries, the case with this number has the verdict that is kept so
abbrev pub IsHeldRight : Head → List EntryTree → ℕ → Held → Type 0
IsHeldRight h es case held = (verdict : Verdict) × StandsFor verdict held × IsRight h es case verdict

-- the line that a verdict names is one that a proof may have
abbrev pub IsOfProof : Verdict → Type 0
IsOfProof Allowed = Unit {0}
IsOfProof (Denied GoalUnset) = Unit {0}
IsOfProof (Denied NoProof) = Unit {0}
IsOfProof (Denied (Line k fault)) = k ≤ 256
IsOfProof (Denied (LabelMissing k)) = k ≤ 256
IsOfProof (Denied (NotBound k)) = k ≤ 256
IsOfProof (Denied (AuthorityNo k)) = k ≤ 256
