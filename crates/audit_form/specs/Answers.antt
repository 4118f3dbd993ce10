-- What is told of an input of `audit`.
use Rattle.std.specs.Prelude.{◌≡◌, ℕ, List, ◌++◌, codes, length}
use Rattle.std.specs.Fmt.{decimal}
use Rattle.audit_check.specs.Audits.{IsAudited}
use Rattle.audit_check.specs.declared.audits.Audited.{Audited}
use Rattle.audit_check.specs.declared.audits.Audited.TheVariants.{Right, Wrong}
use Rattle.audit_form.specs.AuditForm.{AuditTree, IsAuditForm}
use Rattle.audit_form.specs.declared.answers.Told.{Told}

-- the text has the form of an input, so many records stand in it, and this is told of them
pub record IsToldOf (text : List ℕ) (told : Told) : Type 0 where
  pub form : AuditTree
  pub formed : IsAuditForm text form
  pub count : told.count ≡ length form.records
  pub audited : IsAudited form.head form.entries form.records told.audited

-- the words of an answer: how many records were audited, where each is right, or the number of the lowest that is wrong
abbrev pub told_text : Told → List ℕ
told_text told = of told.audited
  where
    of : Audited → List ℕ
    of Right = codes "audited " ++ decimal told.count
    of (Wrong k) = codes "wrong record " ++ decimal k
