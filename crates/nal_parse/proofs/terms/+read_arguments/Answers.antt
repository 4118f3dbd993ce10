use Rattle.std.proofs.Common.{List, [], ◌∷◌, ◌++◌, ap, length-append, ◌<◌, ◌≤◌, ◌+◌, ◌≡◌, ◌≢◌, length, arith, refl, sym, subst}
use Rattle.nal_term.specs.Trees.{TermTree, term_trees}
use Rattle.nal_parse.specs.Tokens as lexeme
use Rattle.nal_parse.specs.Tokens.{lexeme_of}
use Rattle.nal_parse.specs.Grammar.{ReadsTerm}
use Rattle.nal_parse.specs.Inner.Reading.{ends_term, anything, ReadsMore, ReadsHere}
use Rattle.nal_parse.proofs.Fronts.{cut_on, first}
use Rattle.nal_parse.proofs.Readings.{step_reading, handed_stop}
use Rattle.nal_parse.proofs.TermReadings.{term_trees-longer, length-term_trees}
use Rattle.nal_parse.proofs.TokenLexemes.{no_close, no_comma}
use Rattle.nal_parse.proofs.ListReadings.{item_handed, list_closed, list_step, list_stuck}
use Rattle.nal_parse.proofs.terms.+read_arguments.Goals.{in_default-via-in-Comma+else-count-lt8, in_default-via-in_default}
use Rattle.nal_parse.proofs.terms.+read_arguments.Goals as goal

-- a list of fewer than 8 items that has at least 8 with one more has 7
one_more : (ts : List TermTree) (t : TermTree) (longer : List TermTree) → longer ≡ ts ++ t ∷ [] → length ts < 8 → 8 ≤ length longer → length ts + 1 ≡ 8
one_more ts t longer e few many = omega (arith, ap length e, length-append ts (t ∷ []))

pub returns-in-Err-clause-reading : goal.returns-in-Err-clause-reading
returns-in-Err-clause-reading t c =
    let room : length (term_trees c.args.args) < 8 = omega (arith, length-term_trees c.args.args) in
    handed_stop c.args.reader.now.text.now (item_handed ReadsTerm ends_term refl refl (term_trees c.args.args) room) c.in-Err.stop c.in-Err.ensures.reading

pub returns-in-Close-clause-reading : goal.returns-in-Close-clause-reading
returns-in-Close-clause-reading t c =
    let room : length (term_trees c.args.args) < 8 = omega (arith, length-term_trees c.args.args) in
    let cut = cut_on c.read_term.new.reader.front (ap lexeme_of c.in-Close.is) c.advance.ensures.text in
    subst (λ ts. ReadsHere anything (ReadsMore ReadsTerm (term_trees c.args.args)) 0 c.args.reader.now.text.now ts c.advance.new.self.text.now) (sym (term_trees-longer _ _ _ c.in-Ok-with_argument.ensures))
    (list_closed ReadsTerm ends_term refl refl (term_trees c.args.args) room c.args.reader.now.text.now _ _ c.in-Ok.ensures.reading _ cut)

pub returns-in-Comma-clause-reading : goal.returns-in-Comma-clause-reading
returns-in-Comma-clause-reading t c =
    let room : length (term_trees c.args.args) < 8 = omega (arith, length-term_trees c.args.args) in
    let cut = cut_on c.read_term.new.reader.front (ap lexeme_of c.in-Comma.is) c.advance-in-Comma.ensures.text in
    step_reading (list_step ReadsTerm ends_term refl refl (term_trees c.args.args) room c.args.reader.now.text.now _ _ c.in-Ok.ensures.reading _ cut) term_trees c.read_arguments.new.reader.text.now c.read_arguments.result
    (rw (term_trees-longer _ _ _ c.in-Ok-with_argument.ensures) at c.read_arguments.ensures.reading)

pub returns-in_default-clause-reading : goal.returns-in_default-clause-reading
returns-in_default-clause-reading t c =
    let room : length (term_trees c.args.args) < 8 = omega (arith, length-term_trees c.args.args) in
    let longer = term_trees-longer _ _ _ c.in-Ok-with_argument.ensures in
    let other : (lexeme_of c.read_term.new.reader.token ≢ lexeme.closes) × (lexeme_of c.read_term.new.reader.token ≡ lexeme.comma → length (term_trees c.args.args) + 1 ≡ 8) =
    elim c.in_default.branch [
      | in_default-via-in-Comma+else-count-lt8 w ↦ (
        (λ e. let h = rw w.in-Comma.is at e in cc),
        λ e. one_more (term_trees c.args.args) _ _ longer (omega (arith, length-term_trees c.args.args)) (omega (arith, w.count.ensures.count, w.if-count-lt8.false, length-term_trees c.in-Ok-with_argument.args)),
      )
      | in_default-via-in_default w ↦ (no_close _ w.in_default.not-Close, λ e. absurd (no_comma _ w.in_default.not-Comma e))
    ] in
    list_stuck ReadsTerm ends_term refl refl (term_trees c.args.args) room c.args.reader.now.text.now _ _ c.in-Ok.ensures.reading _ (first c.read_term.new.reader.front) other.0 other.1 _ c.stop.ensures
