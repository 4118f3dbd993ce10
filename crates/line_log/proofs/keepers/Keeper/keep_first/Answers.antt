use Rattle.std.proofs.Common.{List, ℕ, take, drop, subst, refl}
use Rattle.std.proofs.lemmas.List.{take-append-drop}
use Rattle.line_log.specs.LineLogs.{AreCut, lost, unfed}
use Rattle.line_log.proofs.Handled.{not_empty}
use Rattle.line_log.proofs.keepers.Keeper.keep_first.Goals as goal

pub returns-in_err-length : goal.returns-in_err-length
returns-in_err-length g c = rw c.from_residual.ensures (unfed (not_empty c.args.piece.now c.requires) c.in_err-length.ensures)

pub returns-else-keep : goal.returns-else-keep
returns-else-keep g c =
    let piece = c.args.piece.now in
    let n = c.in_ok-length.length in
    subst (λ (bytes : List ℕ). AreCut c.args.is_change c.args.self.now bytes c.keep.new.self) (take-append-drop n piece)
    (lost (take n piece) (drop n piece) c.in_ok-length.ensures.2 (c.if-keep.ensures.lost refl))
