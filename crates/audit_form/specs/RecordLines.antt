-- The line of a record.
use Rattle.std.specs.Prelude.{◌≡◌, ◌≤◌, ℕ, List, [], ◌∷◌, Bool, true, false, Some, codes, length, map}
use Rattle.std.specs.Fmt.{decimal}
use Rattle.nal_term.specs.Names.{IsName}
use Rattle.policy_history.specs.declared.heads.Head.{Head}
use Rattle.policy_history.specs.Events.{EntryTree, numbered}
use Rattle.policy_history.specs.PolicyLines.{spaced}
use Rattle.audit_check.specs.declared.records.Answers.{Answers}
use Rattle.audit_check.specs.declared.records.Answers.TheVariants.{Known, Unknown}
use Rattle.audit_check.specs.declared.records.Record.{Record}
use Rattle.audit_check.specs.declared.records.Recorded.{Recorded}
use Rattle.audit_check.specs.Audits.{IsWithin}
use Rattle.audit_form.specs.VerdictTexts.{IsNumbered, verdict_text}
use Rattle.nal_rules.specs.Faults.{most_asks}

-- a letter for an answer: `y` for Yes, and `n` for No
abbrev pub answer_letter : Bool → ℕ
answer_letter true = 121
answer_letter false = 110

-- a letter for each answer, `-` where there is none, and `?` where they are not known
abbrev pub given_text : List Bool → List ℕ
given_text [] = codes "-"
given_text (b ∷ bs) = map answer_letter (b ∷ bs)

abbrev pub answers_text : Answers → List ℕ
answers_text (Known given) = given_text given
answers_text Unknown = codes "?"

-- at most 16 answers are given
abbrev pub AreFew : Answers → Type 0
AreFew (Known given) = length given ≤ most_asks
AreFew Unknown = Unit {0}

-- the line of a record: the point, the principal's name, the operation, the object, the answers, and what was answered
abbrev pub told_text : Answers → Recorded → List ℕ
told_text answers verdict = spaced (answers_text answers) (spaced (codes ":") (verdict_text verdict))

abbrev pub record_text : List ℕ → Record → List ℕ
record_text name r = spaced (decimal r.at) (spaced name (spaced r.op (spaced r.object (told_text r.answers r.verdict))))

-- the line is that of this record, whose point is one of the journal, and whose principal is one of the head's
pub record IsRecordLine (h : Head) (es : List EntryTree) (line : List ℕ) (r : Record) : Type 0 where
  pub name : List ℕ
  pub formed : line ≡ record_text name r
  pub principal : numbered h.principals name ≡ Some r.principal
  pub within : IsWithin h es r
  pub named : IsName name
  pub op : IsName r.op
  pub object : IsName r.object
  pub few : AreFew r.answers
  pub lines : IsNumbered r.verdict
