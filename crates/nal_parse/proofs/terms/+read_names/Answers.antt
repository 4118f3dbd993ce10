use Rattle.std.proofs.Common.{◌+◌, ◌≡◌, ◌≢◌, ◌∷◌, [], length, ap, arith, refl, sym, subst, length-append}
use Rattle.nal_parse.specs.Tokens as lexeme
use Rattle.nal_parse.specs.Tokens.{lexeme_of}
use Rattle.nal_parse.specs.Grammar.{ReadsName}
use Rattle.nal_parse.specs.Inner.Reading.{anything, ReadsMore, ReadsHere, names_so_far}
use Rattle.nal_parse.proofs.Fronts.{cut_on, first, well_formed}
use Rattle.nal_parse.proofs.Readings.{step_reading}
use Rattle.nal_parse.proofs.TokenLexemes.{no_close, no_comma, no_name}
use Rattle.nal_parse.proofs.ListReadings.{list_closed, list_step, list_stuck, name_here, names_stuck}
use Rattle.nal_parse.proofs.terms.+read_names.Goals.{in_default-token-via-in-Comma+else-count-lt8, in_default-token-via-in_default-token}
use Rattle.nal_parse.proofs.terms.+read_names.Goals as goal

pub returns-in-Close-clause-reading : goal.returns-in-Close-clause-reading
returns-in-Close-clause-reading t c =
    let front = c.args.reader.now.front in
    let name = cut_on front (ap lexeme_of c.in-Name.is) c.advance.ensures.text in
    let ok = well_formed front (ap lexeme_of c.in-Name.is) in
    let after = cut_on c.advance.new.self.front (ap lexeme_of c.in-Close.is) c.advance-in-Close.ensures.text in
    let item = name_here c.args.reader.now.text.now c.in-Name.name.now ok name in
    subst (λ ns. ReadsHere anything (ReadsMore ReadsName (names_so_far c.args.scope)) 0 c.args.reader.now.text.now ns c.advance-in-Close.new.self.text.now) (sym c.in-Ok.ensures)
    (list_closed ReadsName anything refl refl (names_so_far c.args.scope) c.requires c.args.reader.now.text.now _ _ item _ after)

pub returns-in-Comma-clause-reading : goal.returns-in-Comma-clause-reading
returns-in-Comma-clause-reading t c =
    let front = c.args.reader.now.front in
    let name = cut_on front (ap lexeme_of c.in-Name.is) c.advance.ensures.text in
    let ok = well_formed front (ap lexeme_of c.in-Name.is) in
    let after = cut_on c.advance.new.self.front (ap lexeme_of c.in-Comma.is) c.advance-in-Comma.ensures.text in
    let item = name_here c.args.reader.now.text.now c.in-Name.name.now ok name in
    step_reading (list_step ReadsName anything refl refl (names_so_far c.args.scope) c.requires c.args.reader.now.text.now _ _ item _ after) (λ s. s) c.read_names.new.reader.text.now c.read_names.result
    (rw c.in-Ok.ensures at c.read_names.ensures.reading)

pub returns-in_default-token-clause-reading : goal.returns-in_default-token-clause-reading
returns-in_default-token-clause-reading t c =
    let front = c.args.reader.now.front in
    let name = cut_on front (ap lexeme_of c.in-Name.is) c.advance.ensures.text in
    let ok = well_formed front (ap lexeme_of c.in-Name.is) in
    let item = name_here c.args.reader.now.text.now c.in-Name.name.now ok name in
    let other : (lexeme_of c.advance.new.self.token ≢ lexeme.closes) × (lexeme_of c.advance.new.self.token ≡ lexeme.comma → length (names_so_far c.args.scope) + 1 ≡ 8) =
    elim c.in_default-token.branch [
      | in_default-token-via-in-Comma+else-count-lt8 w ↦ (
        (λ e. let h = rw w.in-Comma.is at e in cc),
        λ e. omega (arith, c.requires, w.count.ensures.count, w.if-count-lt8.false, ap length c.in-Ok.ensures, length-append (names_so_far c.args.scope) (c.in-Name.name.now ∷ [])),
      )
      | in_default-token-via-in_default-token w ↦ (no_close _ w.in_default-token.not-Close, λ e. absurd (no_comma _ w.in_default-token.not-Comma e))
    ] in
    list_stuck ReadsName anything refl refl (names_so_far c.args.scope) c.requires c.args.reader.now.text.now _ _ item _ (first c.advance.new.self.front) other.0 other.1 _ c.stop-in_default-token.ensures

pub returns-in_default : goal.returns-in_default
returns-in_default t c = record {
  reading = names_stuck (names_so_far c.args.scope) c.requires c.args.reader.now.text.now _ (first c.args.reader.now.front) (no_name _ c.in_default.not-Name) _ c.stop.ensures;
  shorter = tt;
}
