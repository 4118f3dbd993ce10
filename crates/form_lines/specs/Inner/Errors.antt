-- What the reader of an input's lines answers.
use Rattle.std.specs.Prelude.{ℕ, List}
use Rattle.form_lines.specs.Reading.{IsWrongAt}
use Rattle.form_lines.specs.declared.reading.FormError.{FormError}
use Rattle.form_lines.specs.declared.reading.FormError.TheVariants.{Wrong, Memory}

-- the line that is told is the lowest that is wrong
abbrev pub IsFormError : {Stage : Type 0} → (Stage → List ℕ → Stage → Type 0) → (Stage → Type 0) → Stage → List ℕ → FormError → Type 0
IsFormError Follows IsEnd first text (Wrong k) = IsWrongAt Follows IsEnd first text k
IsFormError Follows IsEnd first text Memory = Unit {0}
