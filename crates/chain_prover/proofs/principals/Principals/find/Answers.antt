use Rattle.std.proofs.Common.{◌%◌, ◌∙◌, length, refl, arith}
use Rattle.std.proofs.lemmas.Option.{slice_get_read}
use Rattle.chain_prover.proofs.Numbering.{found_told, nobody_told, other_told}
use Rattle.chain_prover.proofs.principals.Principals.find.Goals as goal

pub returns-in-Nobody : goal.returns-in-Nobody
returns-in-Nobody c =
    let all = c.args.self.now in
    let count = c.requires.numbered.count in
    let read = slice_get_read all.sizes.items (length all.sizes.items) (c.args.size % 512) c.index.result.now refl (omega (arith, count)) c.index.ensures in
    nobody_told all.terms.items all.numbers all.sizes.items c.requires.numbered c.args.size c.args.term c.requires.size (rw c.in-Nobody.is at read)

pub returns-in-One-2 : goal.returns-in-One-2
returns-in-One-2 c =
    let all = c.args.self.now in
    let count = c.requires.numbered.count in
    let read = slice_get_read all.sizes.items (length all.sizes.items) (c.args.size % 512) c.index.result.now refl (omega (arith, count)) c.index.ensures in
    other_told all.terms.items all.numbers all.sizes.items c.requires.numbered c.args.size c.args.term c.in-One.number c.requires.size (rw c.in-One.is at read)
    (λ n. let t = c.is_number.ensures.1 n in let e = c.if-is_number.false in absurd (cc (t, e)))

pub returns-in-Several : goal.returns-in-Several
returns-in-Several c =
    found_told c.args.self.now.terms.items c.args.self.now.numbers c.args.self.now.sizes.items c.requires.numbered c.copied.result c.args.term (c.copied.ensures ∙ c.get.ensures.value)
