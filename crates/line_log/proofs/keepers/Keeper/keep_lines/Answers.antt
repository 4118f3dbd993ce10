use Rattle.std.proofs.Common.{rules, ◌≡◌, ◌++◌, ◌+◌, ◌-◌, ℕ, List, take, drop, sym, ap, subst, ◌∙◌, length-drop, length, arith}
use Rattle.std.proofs.Math.Seq.{take-add}
use Rattle.std.proofs.lemmas.List.{take_rest}
use Rattle.line_log.specs.LineLogs.{AreKept, none, one_more}
use Rattle.line_log.proofs.keepers.Keeper.keep_lines.Goals as goal

pub loop-kept-init : goal.loop-kept-init
loop-kept-init g c = (search rules, none)

-- What is kept before, and then the line, is a longer front of the piece.
pub loop-kept-preserved : goal.loop-kept-preserved
loop-kept-preserved g c =
    let before = c.loop-kept.invariant in
    let kept = c.loop-kept.kept in
    let count = c.in-Some.length in
    let piece = c.args.piece.now in
    let e = c.in-Some.ensures in
    let rest = take_rest piece kept in
    let line = take count (take (length piece - kept) (drop kept piece)) in
    let front : take kept piece ++ line ≡ take (kept + count) piece =
    ap (λ (xs : List ℕ). take kept piece ++ take count xs) rest ∙ sym (take-add kept count piece) in (
      omega (arith, e.1, ap length rest, length-drop kept piece, before.0),
      subst (λ (bytes : List ℕ). AreKept c.args.is_change c.args.self.now bytes c.keep_first.new.self) front (one_more (take kept piece) line before.1 e.2 e.3),
    )
