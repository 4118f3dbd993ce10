use Rattle.std.proofs.Common.{◌≡◌, length, ◌∙◌, arith}
use Rattle.policy_history.specs.Machine.{replay}
use Rattle.policy_history.specs.Values.{entry_trees}
use Rattle.policy_history.proofs.Keeping.{kept_accepted, kept_sound, kept_length}
use Rattle.policy_history.proofs.journal.Journal.count.Goals as goal

pub returns-clause-bound : goal.returns-clause-bound
returns-clause-bound c =
    let most = (kept_sound c.self.inside.head c.self.inside.entries.items c.self.inside.policy c.self.inside.greatest_session c.self.invariant).entries_bound in
    let long = kept_length c.self.inside.head c.self.inside.entries.items c.self.inside.policy c.self.inside.greatest_session c.self.invariant in
    let size = c.self.inside.entries.ok.0 in
    omega (arith, most, long, c.len.ensures, size)

pub returns-clause-accepted : goal.returns-clause-accepted
returns-clause-accepted c =
    let h = c.self.inside.head in
    let es = c.self.inside.entries.items in
    let each : (replay h (entry_trees es)).entries ≡ length es = kept_accepted h es c.self.inside.policy c.self.inside.greatest_session c.self.invariant in
    let told : length es ≡ c.len.result = omega (arith, c.len.ensures, c.self.inside.entries.ok.0) in
    rw (← c.self.view_is) (each ∙ told)
