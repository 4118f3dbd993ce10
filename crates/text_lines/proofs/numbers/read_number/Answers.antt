use Rattle.std.proofs.Common.{◌≡◌, Ok, sym, ap, ◌∙◌, subst}
use Rattle.std.specs.Fmt.{decimal}
use Rattle.std.specs.Str.{IsUtf8}
use Rattle.std.proofs.lemmas.Fmt.{IsAscii-decimal, parse-decimal}
use Rattle.std.proofs.lemmas.Str.{IsUtf8-from_ascii}
use Rattle.std.proofs.lemmas.Slice.Eq.{slice_eq-Decides}
use Rattle.std.proofs.lemmas.Bool.Decides.{Decides-eqb}
use Rattle.text_lines.proofs.numbers.read_number.Goals as goal

-- src/numbers.rt:12:5
pub returns-in_default-clause-none : goal.returns-in_default-clause-none
returns-in_default-clause-none c _ n below is =
    c.in_default.ensures.cases.0 (subst IsUtf8 (sym is) (IsUtf8-from_ascii (decimal n) (IsAscii-decimal n below)))

-- src/numbers.rt:15:5
pub returns-in_default-parse-clause-none : goal.returns-in_default-parse-clause-none
returns-in_default-parse-clause-none c _ n below is =
    c.in_default-parse.not-Ok n (parse-decimal 64 n c.in-Ok.text.now c.parse.result below below (c.in-Ok.ensures.cases.0 ∙ is) c.parse.ensures.value.0)

-- src/numbers.rt:18:5
pub returns-else-eq-clause-none : goal.returns-else-eq-clause-none
returns-else-eq-clause-none c _ n below is =
    let told = parse-decimal 64 n c.in-Ok.text.now c.parse.result below below (c.in-Ok.ensures.cases.0 ∙ is) c.parse.ensures.value.0 in
    let d = slice_eq-Decides Decides-eqb c.as_bytes.result.now c.args.bytes.now _ c.if-eq.ensures in
    let number : c.parse.result ≡ Ok c.in-Ok-parse.number = c.in-Ok-parse.is in
    let same : c.in-Ok-parse.number ≡ n = cc in
    let equal = d.1 (c.as_bytes.ensures.value ∙ c.format.ensures.text ∙ ap decimal same ∙ sym is) in
    cc
