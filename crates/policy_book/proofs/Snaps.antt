-- What is copied of a case.
use Rattle.std.proofs.Common.{◌≡◌, ◌<◌, ℕ, List, length, Option, Some, None, option_map, sym, ap, ◌∙◌, subst}
use Rattle.std.specs.Option.{IfSome}
use Rattle.nal_rules.specs.declared.cases.Case.{Case as RawCase}
use Rattle.proof_store.specs.Cases.{number_of as case_number}
use Rattle.policy_history.specs.declared.heads.Head.{Head}
use Rattle.policy_history.specs.declared.events.Found.TheVariants.{Case}
use Rattle.policy_history.specs.Events.{EntryTree}
use Rattle.policy_history.specs.Found.{IsFound}
use Rattle.policy_history.specs.Judged.{IsHome}
use Rattle.policy_history.specs.Machine.{replay}
use Rattle.policy_history.proofs.ForCallers.{case_there, object_there}
use Rattle.verdict_words.specs.Words.{IsPlace}
use Rattle.verdict_words.specs.declared.places.CasePlace.{CasePlace}
use Rattle.policy_book.specs.Snaps.{IsSnapOf}

module _ (h : Head) (es : List EntryTree) (subject : ℕ) (op object : List ℕ) where
  -- the place of a case, if it has a number
  abbrev place_for : ℕ → Option ℕ → Option CasePlace
  place_for n = option_map (λ k. record { case = k; object = n; store = subject })

  at_home : (n : ℕ) (number : Option ℕ) → subject < 16384 → case_number (replay h es).cases subject op n ≡ number → IfSome (place_for n number) (λ p. IsPlace p × IsHome h es p.case p.object p.store)
  at_home n None few is = tt
  at_home n (Some k) few is =
      let there = case_there h es subject op n k is in
      ((there.5, few), record { row = there.0; stands = there.1; object_is = there.4; subject_is = there.2 })

  pub snap_of : (at : ℕ) (case : RawCase) (number : Option ℕ) (place : Option CasePlace) (n : ℕ) → subject < 16384 → at ≡ length es → IsFound h (replay h es) subject op object (Case case number n)
      → place ≡ option_map (λ k. record { case = k; object = n; store = subject }) number → IsSnapOf h es subject op object at case place n
  snap_of at case number place n few at_is found place_is =
      let same : place ≡ place_for n (case_number (replay h es).cases subject op n) = place_is ∙ ap (place_for n) found.2 in
      record {
        at_is = at_is;
        object_is = found.0;
        few = object_there h es object n found.0;
        case_is = found.1;
        place_is = same;
        home = subst (λ (p : Option CasePlace). IfSome p (λ p. IsPlace p × IsHome h es p.case p.object p.store)) (sym place_is) (at_home n number few (sym found.2));
      }
