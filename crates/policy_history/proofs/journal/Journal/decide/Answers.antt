use Rattle.policy_history.proofs.Keeping.{kept_sound, kept_length}
use Rattle.policy_history.proofs.journal.Journal.decide.Goals as goal

pub decide-requires-clause-sound : goal.decide-requires-clause-sound
decide-requires-clause-sound c = kept_sound c.self.inside.head c.self.inside.entries.items c.self.inside.policy c.self.inside.greatest_session c.self.invariant

pub returns-clause-fewer : goal.returns-clause-fewer
returns-clause-fewer c =
    let long = kept_length c.self.inside.head c.self.inside.entries.items c.self.inside.policy c.self.inside.greatest_session c.self.invariant in
    rw (← c.self.view_is, ← long) c.decide.ensures.fewer
