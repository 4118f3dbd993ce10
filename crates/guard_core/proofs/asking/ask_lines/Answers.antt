use Rattle.std.proofs.Common.{◌≡◌, ◌<◌, ◌+◌, ℕ, suc, length, map, arith}
use Rattle.std.proofs.lemmas.List.{length-map}
use Rattle.proof_lines.specs.Lines.{line_tree, line_trees}
use Rattle.nal_rules.specs.Asking.{binding_tree}
use Rattle.guard_core.proofs.Asks.{asked_nothing, asked_yes}
use Rattle.guard_core.proofs.asking.ask_lines.Goals.{in-None, in-Some-Yes}
use Rattle.guard_core.proofs.asking.ask_lines.Goals as goal

next : (n : ℕ) → n + 1 ≡ suc n
next n = omega arith

pub loop-index-preserved : goal.loop-index-preserved
loop-index-preserved g c =
    let ls = line_trees c.args.proof.now in
    let bound = map binding_tree c.args.bound.now in
    let i = c.loop-index.index in
    let so_far = c.loop-index.invariant in
    let only = c.ask_line.ensures.asked in
    let lines = length-map c.args.proof.now line_tree in
    let within : i < length ls = omega (arith, lines, c.loop-index-test.true, c.count-index-end.ensures.count) in
    elim c.match-ask_line.branch [
      | in-None w ↦ rw w.asks-is (asked_nothing ls bound i (i + 1) (next i) so_far c.requires.askable w.in-None.ensures.none within only w.in-None.ensures.silent)
      | in-Some-Yes w ↦ rw w.asks-is (asked_yes ls bound i (i + 1) (next i) so_far only (rw w.in-Some-Yes.field-0-is at w.in-Some-Yes.ensures.told))
    ]
