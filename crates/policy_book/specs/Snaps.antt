-- What a book tells of a case.
use Rattle.std.specs.Prelude.{◌≡◌, ◌≢◌, ℕ, ◌<◌, List, length, Option, Some, None, option_map, IfSome}
use Rattle.nal_rules.specs.Asking.{case_tree}
use Rattle.nal_rules.specs.declared.cases.Case.{Case as RawCase}
use Rattle.object_table.specs.Objects.{number_of}
use Rattle.proof_store.specs.Cases.{number_of as case_number}
use Rattle.policy_history.specs.declared.heads.Head.{Head}
use Rattle.policy_history.specs.Events.{EntryTree}
use Rattle.policy_history.specs.Judged.{IsHome, case_at}
use Rattle.policy_history.specs.Machine.{replay}
use Rattle.verdict_words.specs.Words.{IsPlace}
use Rattle.verdict_words.specs.declared.places.CasePlace.{CasePlace}
use Rattle.policy_book.specs.declared.snapping.Snapped.{Snapped}
use Rattle.policy_book.specs.declared.snapping.Snapped.TheVariants.{Case, NoObject, NoMemory}

module _ (h : Head) (es : List EntryTree) (subject : ℕ) (op object : List ℕ) where
  -- the case of the subject and the operation on the object, whose number is n, at the end of the entries. The place tells its number, the object's and the subject's, where the case has a number; it stands in that place
  pub record IsSnapOf (at : ℕ) (case : RawCase) (place : Option CasePlace) (n : ℕ) : Type 0 where
    pub at_is : at ≡ length es
    pub object_is : number_of (replay h es).objects object ≡ Some n
    pub few : n < 65536
    pub case_is : case_tree case ≡ case_at h (replay h es) subject op n
    pub place_is : place ≡ option_map (λ k. record { case = k; object = n; store = subject }) (case_number (replay h es).cases subject op n)
    pub home : IfSome place (λ p. IsPlace p × IsHome h es p.case p.object p.store)

  -- no object has the name exactly where that is answered
  abbrev pub IsSnap : Snapped → Type 0
  IsSnap (Case at case place n) = IsSnapOf at case place n
  IsSnap (NoObject at) = (at ≡ length es) × (number_of (replay h es).objects object ≡ None)
  IsSnap NoMemory = number_of (replay h es).objects object ≢ None
