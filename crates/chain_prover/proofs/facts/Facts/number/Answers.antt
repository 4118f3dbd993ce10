use Rattle.std.proofs.Common.{◌≡◌, [], ◌∷◌, false, length, refl, sym, append-nil, arith, length-append, ap, ◌∙◌}
use Rattle.chain_prover.proofs.Known.{keeps_numbering, no_mark, one_unmarked, right_numbering}
use Rattle.chain_prover.proofs.facts.Facts.number.Goals as goal

pub returns-in_ok-push-2-clause-right : goal.returns-in_ok-push-2-clause-right
returns-in_ok-push-2-clause-right c =
    let (more, grown) = c.in_ok-number.ensures.grows in
    let before = c.args.self.now in
    let s = c.requires.right.stating_count in
    let l = ap length grown ∙ length-append before.principals.terms.items more in
    let count : 1 ≡ length more = omega (arith, l, s, c.in_ok-number.ensures.one, c.if-len-count.true, c.len.ensures, c.count.ensures) in
    right_numbering before _ more (false ∷ []) (false ∷ []) refl refl grown c.in_ok-push.ensures.items c.in_ok-push-2.ensures.items refl c.requires.right c.in_ok-number.ensures.numbered one_unmarked count count

pub returns-in_ok-push-2-clause-keeps : goal.returns-in_ok-push-2-clause-keeps
returns-in_ok-push-2-clause-keeps c =
    let (more, grown) = c.in_ok-number.ensures.grows in
    keeps_numbering c.args.self.now _ more (false ∷ []) (false ∷ []) refl refl grown c.in_ok-push.ensures.items c.in_ok-push-2.ensures.items refl

pub returns-else-len-count-clause-right : goal.returns-else-len-count-clause-right
returns-else-len-count-clause-right c =
    let (more, grown) = c.in_ok-number.ensures.grows in
    let before = c.args.self.now in
    let s = c.requires.right.stating_count in
    let l = ap length grown ∙ length-append before.principals.terms.items more in
    let count : 0 ≡ length more = omega (arith, l, s, c.if-len-count.false, c.len.ensures, c.count.ensures) in
    right_numbering before _ more [] [] refl refl grown (sym (append-nil before.stating.items)) (sym (append-nil before.granting.items)) refl c.requires.right c.in_ok-number.ensures.numbered no_mark count count
