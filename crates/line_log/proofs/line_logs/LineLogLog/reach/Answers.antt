use Rattle.std.proofs.Common.{◌≡◌, ◌≢◌, ap, refl}
use Rattle.nx_io.specs.declared.streams.Reach.TheVariants.{Ready as ReachReady, Failed as ReachFailed}
use Rattle.line_log.specs.declared.standings.Standing.{Standing}
use Rattle.line_log.specs.declared.standings.Standing.TheVariants.{New, Reached, Failed}
use Rattle.line_log.specs.LineLogs.{reached, standing_after}
use Rattle.line_log.proofs.line_logs.LineLogLog.reach.Goals as goal

-- a log that is not new stands as before
same_standing : (standing : Standing) → standing ≢ New → standing_after ReachReady standing ≡ standing
same_standing New other = absurd (other refl)
same_standing Reached other = refl
same_standing Failed other = refl

pub invariant_of-self : goal.invariant_of-self
invariant_of-self g c =
    let now : standing_after ReachReady c.self.inside.standing ≡ Reached = ap (λ (s : Standing). standing_after ReachReady s) c.in-New.is in
    rw (c.in-Ready.ensures, ← now) (reached c.self.invariant c.args.address.now ReachReady)

pub invariant_of-self-in-Ready : goal.invariant_of-self-in-Ready
invariant_of-self-in-Ready g c =
    let same = same_standing c.self.inside.standing c.in_default.not-New in
    rw (c.in-Ready.ensures, ← same) (reached c.self.invariant c.args.address.now ReachReady)

pub invariant_of-self-in-Failed : goal.invariant_of-self-in-Failed
invariant_of-self-in-Failed g c = rw (c.in-Failed.ensures, c.saturating_add-self-inside.ensures) (reached c.self.invariant c.args.address.now ReachFailed)
