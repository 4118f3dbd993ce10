-- A session over a shared board, by one step of its pass, one request, and one call more.
use Rattle.std.proofs.Common.{◌≡◌, ℕ, Bool, true, false, true≢false, option_map, List, [], ◌∷◌, Option, Some, refl, sym, ap, ◌∙◌, codes}
use Rattle.std.proofs.lemmas.List.{append-nil}
use Rattle.nal_term.specs.TreeKeys.{same_bytes}
use Rattle.nal_rules.specs.Faults.{fault_number}
use Rattle.nal_rules.specs.Verdicts.{CaseTree}
use Rattle.nal_rules.specs.declared.verdicts.Cause.TheVariants.{GoalUnset, NoProof, Line, LabelMissing, NotBound, AuthorityNo}
use Rattle.nal_rules.specs.declared.verdicts.Verdict.{Verdict}
use Rattle.nal_rules.specs.declared.verdicts.Verdict.TheVariants.{Allowed, Denied}
use Rattle.policy_history.specs.declared.events.Entry.{Entry}
use Rattle.policy_history.specs.declared.heads.Head.{Head}
use Rattle.policy_history.specs.Judged.{IsLasting}
use Rattle.verdict_words.specs.Histories.{IsPrefix}
use Rattle.verdict_words.specs.Values.{PassValue}
use Rattle.verdict_words.proofs.ForCallers.{prefix_whole}
use Rattle.verdict_words.specs.declared.places.CasePlace.{CasePlace}
use Rattle.verdict_words.specs.declared.places.Held.{Held}
use Rattle.verdict_words.specs.declared.views.Item.TheVariants.{Filled, Ran}
use Rattle.verdict_words.specs.declared.views.RegisterStep.TheVariants.{Read, Write, Add}
use Rattle.policy_book.specs.Matter.{StandsFor}
use Rattle.session_core.specs.Calls as calling
use Rattle.session_core.specs.Inner.Boarding.{HasKept, HasRun, stepped_by}

-- ---- The step of an allowed call on a register

-- whether two texts are the same, by their bytes
pub same_of : (x y a b : List ℕ) (r s : Bool) → x ≡ a → y ≡ b → r ≡ same_bytes x y → r ≡ s → same_bytes a b ≡ s
same_of x y a b r s first second is result = ap (λ (z : List ℕ). same_bytes z b) (sym first) ∙ ap (same_bytes x) (sym second) ∙ sym is ∙ result

module _ (old new : PassValue Entry Head) (op : List ℕ) (arg object value : ℕ) where
  pub did_read : same_bytes op (codes "read") ≡ true → new ≡ stepped_by old (Ran object Read value ∷ []) new.known → IsPrefix old.known new.known → HasRun old new op arg object Allowed value
  did_read is made knows = record { steps = Ran object Read value ∷ []; runs = calling.ran Read refl (rw is refl) refl; pass_is = made; knows = knows }

  pub did_write : same_bytes op (codes "read") ≡ false → same_bytes op (codes "write") ≡ true → new ≡ stepped_by old (Ran object (Write arg) value ∷ []) new.known → IsPrefix old.known new.known → HasRun old new op arg object Allowed value
  did_write unread is made knows = record { steps = Ran object (Write arg) value ∷ []; runs = calling.ran (Write arg) refl (rw (unread, is) refl) refl; pass_is = made; knows = knows }

  pub did_add : same_bytes op (codes "read") ≡ false → same_bytes op (codes "write") ≡ false → same_bytes op (codes "add") ≡ true → new ≡ stepped_by old (Ran object (Add arg) value ∷ []) new.known → IsPrefix old.known new.known
      → HasRun old new op arg object Allowed value
  did_add unread unset is made knows = record { steps = Ran object (Add arg) value ∷ []; runs = calling.ran (Add arg) refl (rw (unread, unset, is) refl) refl; pass_is = made; knows = knows }

-- no step
pub still : (pass : PassValue Entry Head) → pass ≡ stepped_by pass [] pass.known
still pass = ap (λ xs. record pass { trail = xs }) (sym (append-nil pass.trail))

pub did_nothing : (pass : PassValue Entry Head) (op : List ℕ) (arg object : ℕ) → same_bytes op (codes "read") ≡ false → same_bytes op (codes "write") ≡ false → same_bytes op (codes "add") ≡ false
    → HasRun pass pass op arg object Allowed 0
did_nothing pass op arg object unread unset unadded =
    record { steps = []; runs = calling.no_step (λ both. both.1 (rw (unread, unset, unadded) refl)) refl refl; pass_is = still pass; knows = prefix_whole pass.known }

-- ---- A verdict that is kept

-- of a verdict that lasts something is kept
pub stands_where : (c : CaseTree) (verdict : Verdict) → IsLasting c verdict → (held : Held) × StandsFor verdict held
stands_where c Allowed lasts = (record { code = 1; line = 0; fault = 0 }, refl)
stands_where c (Denied GoalUnset) lasts = (record { code = 2; line = 0; fault = 0 }, refl)
stands_where c (Denied NoProof) lasts = (record { code = 3; line = 0; fault = 0 }, refl)
stands_where c (Denied (Line k fault)) lasts = (record { code = 4; line = k; fault = fault_number fault }, refl)
stands_where c (Denied (LabelMissing k)) lasts = absurd lasts
stands_where c (Denied (NotBound k)) lasts = absurd lasts
stands_where c (Denied (AuthorityNo k)) lasts = absurd lasts

module _ (pass new : PassValue Entry Head) (is_known : Bool) (at : ℕ) (place : Option CasePlace) (c : CaseTree) (verdict : Verdict) where
  pub unkept : ¬ ((is_known ≡ true) × IsLasting c verdict) → HasKept pass pass is_known at place c verdict
  unkept none = record { steps = []; keeps = calling.not_kept none refl; pass_is = still pass; knows = prefix_whole pass.known }

  pub unkept_unknown : is_known ≡ false → HasKept pass pass is_known at place c verdict
  unkept_unknown unknown = unkept (λ both. true≢false (sym both.0 ∙ unknown))

  pub unkept_asked : ¬ IsLasting c verdict → HasKept pass pass is_known at place c verdict
  unkept_asked none = unkept (λ both. none both.1)

  pub unkept_none : ((held : Held) → ¬ StandsFor verdict held) → HasKept pass pass is_known at place c verdict
  unkept_none none = unkept (λ both. let one = stands_where c verdict both.1 in none one.0 one.1)

  pub kept_so : (p : CasePlace) (held : Held) → is_known ≡ true → place ≡ Some p → IsLasting c verdict → StandsFor verdict held → new ≡ stepped_by pass (Filled p.case at held ∷ []) new.known → IsPrefix pass.known new.known
      → HasKept pass new is_known at place c verdict
  kept_so p held known place_is lasting stands made knows = record {
    steps = Filled p.case at held ∷ [];
    keeps = calling.kept p.case held known (ap (option_map (λ (q : CasePlace). q.case)) place_is) lasting stands refl;
    pass_is = made;
    knows = knows;
  }
