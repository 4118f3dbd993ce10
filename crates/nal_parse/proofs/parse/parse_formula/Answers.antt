use Rattle.std.proofs.Common.{◌≡◌, ◌≢◌, ◌∙◌, ◌<◌, ◌≤◌, ◌^◌, ◌-◌, ℕ, List, inl, inr, length, min, ap, refl, subst, arith}
use Rattle.nal_term.specs.Trees.{FormulaTree}
use Rattle.nal_parse.specs.Tokens.{lexeme_of}
use Rattle.nal_parse.specs.declared.parse.ParseError.{ParseError}
use Rattle.nal_parse.specs.declared.parse.ParseError.TheVariants as parse
use Rattle.nal_parse.specs.declared.stops.Stop.{Stop}
use Rattle.nal_parse.specs.declared.stops.Stop.TheVariants.{Refused}
use Rattle.nal_parse.specs.Grammar.{ReadsFormula, IsFormulaText}
use Rattle.nal_parse.specs.Canonical.{formula_text, formula_levels}
use Rattle.nal_parse.specs.Errors.{IsFormulaError}
use Rattle.nal_parse.specs.Inner.Reading.{IsStopped, ends_formula, error_of}
use Rattle.nal_parse.proofs.Fronts.{first}
use Rattle.nal_parse.proofs.TokenLexemes.{no_end}
use Rattle.nal_parse.proofs.ErrorPlaces.{formula_more, refused_of, stop_error, stop_refuses, read_only, trailing_error, trailing_refuses}
use Rattle.nal_parse.proofs.parse.parse_formula.Goals as goal

more : (n m : ℕ) (bytes : List ℕ) (f : FormulaTree) (rest : List ℕ) → n ≤ m → ReadsFormula n bytes f rest → ReadsFormula m bytes f rest
more n m bytes f rest le r = formula_more le r

-- where the reader stopped, and not for want of memory
at_stop : (source : List ℕ) (stop : Stop) → IsStopped ends_formula ReadsFormula 64 source stop → (e : ParseError) → e ≡ error_of stop (length source) → e ≢ parse.Memory → length source ≤ 1024
    → IsFormulaError source e × ((f : FormulaTree) → ¬ IsFormulaText source f)
at_stop source stop r e is told short =
    let w = refused_of stop (length source) e is told in
    let h = subst (λ s. IsStopped ends_formula ReadsFormula 64 source s) w.2 r in
    let i : e ≡ error_of (Refused w.0 w.1) (length source) = subst (λ s. e ≡ error_of s (length source)) w.2 is in
    (inr (short, inl (stop_error ends_formula ReadsFormula refl more source w.0 w.1 h e i)), λ f t. stop_refuses ends_formula ReadsFormula refl more source w.0 w.1 h f t.spelled)

pub returns-in-Err-clause-error : goal.returns-in-Err-clause-error
returns-in-Err-clause-error c = λ told. (at_stop c.args.text.now c.in-Err.stop (rw c.of-reader.ensures.text at c.in-Err.ensures.reading) _ c.error_in.ensures told (omega arith)).0

pub returns-in-Err-clause-err : goal.returns-in-Err-clause-err
returns-in-Err-clause-err c = λ told. (at_stop c.args.text.now c.in-Err.stop (rw c.of-reader.ensures.text at c.in-Err.ensures.reading) _ c.error_in.ensures told (omega arith)).1

-- a canonical text that is told to be too long, or to open too many levels
beyond : (n limit told : ℕ) → told ≡ min n (2 ^ 64 - 1) → limit < told → n ≤ limit → ⊥
beyond n limit told e h le = omega arith

pub returns-in-End-clause-err : goal.returns-in-End-clause-err
returns-in-End-clause-err c = λ told g t.
    let end = first c.read_formula.new.reader.front ∙ ap lexeme_of c.in-End.is in
    let same = read_only ends_formula ReadsFormula refl more c.args.text.now _ _ (rw c.of-reader.ensures.text at c.in-Ok.ensures.reading) end g t.spelled in
    beyond _ 1024 c.in-Ok.part.bytes c.in-Ok.part.bytes_are (omega arith) (subst (λ f. length (formula_text f) ≤ 1024) same t.fits.length_limit)

pub returns-in-End-2-clause-err : goal.returns-in-End-2-clause-err
returns-in-End-2-clause-err c = λ told g t.
    let end = first c.read_formula.new.reader.front ∙ ap lexeme_of c.in-End.is in
    let same = read_only ends_formula ReadsFormula refl more c.args.text.now _ _ (rw c.of-reader.ensures.text at c.in-Ok.ensures.reading) end g t.spelled in
    beyond _ 64 c.in-Ok.part.levels c.in-Ok.part.levels_are (omega arith) (subst (λ f. formula_levels f ≤ 64) same t.fits.level_limit)

pub returns-in-End-3-clause-only : goal.returns-in-End-3-clause-only
returns-in-End-3-clause-only c = λ g t.
    let end = first c.read_formula.new.reader.front ∙ ap lexeme_of c.in-End.is in
    rw c.into_inner.ensures (read_only ends_formula ReadsFormula refl more c.args.text.now _ _ (rw c.of-reader.ensures.text at c.in-Ok.ensures.reading) end g t.spelled)

pub returns-in_default : goal.returns-in_default
returns-in_default c =
    let not_end = no_end _ c.in_default.not-End in
    let begins = first c.read_formula.new.reader.front in
    record {
      ok = tt;
      only = tt;
      err = λ told f t. trailing_refuses ends_formula ReadsFormula refl more c.args.text.now _ _ (rw c.of-reader.ensures.text at c.in-Ok.ensures.reading) _ begins not_end f t.spelled;
      long = λ h. absurd (omega arith);
      error = λ told. inr (omega arith, inl (trailing_error ends_formula ReadsFormula refl more c.args.text.now _ _ (rw c.of-reader.ensures.text at c.in-Ok.ensures.reading) _ begins not_end _ c.stop.ensures _ c.error_in-in_default.ensures));
    }
