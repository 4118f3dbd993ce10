use Rattle.std.proofs.Common.{◌%◌, length, refl, sym, arith}
use Rattle.std.proofs.lemmas.Option.{slice_get_read}
use Rattle.chain_prover.proofs.Numbering.{number_pushed, numbered_push}
use Rattle.chain_prover.proofs.principals.Principals.number.Goals as goal

pub returns-clause-numbered : goal.returns-clause-numbered
returns-clause-numbered c =
    let all = c.args.self.now in
    let count = c.requires.count in
    let read = slice_get_read all.sizes.items (length all.sizes.items) (c.term_size.result % 512) c.index.result.now refl (omega (arith, count)) c.index.ensures in
    rw (c.in_ok-push.ensures.items, c.with_one_more.ensures, c.count-number.ensures) (numbered_push all.terms.items all.numbers all.sizes.items c.requires c.insert.new.self c.args.term c.term_size.result
    (sym c.in_default.ensures.value) (λ q. rw c.count-number.ensures at (c.in_ok-insert.ensures.updates.0 q)) c.term_size.ensures c.index.result.now read)

pub returns-clause-number : goal.returns-clause-number
returns-clause-number c = rw (c.in_ok-push.ensures.items, c.count-number.ensures) (number_pushed c.args.self.now.terms.items c.args.term)
