use Rattle.std.proofs.Common.{arith}
use Rattle.policy_history.specs.Events.{event_tree}
use Rattle.policy_history.specs.Machine.{replay}
use Rattle.policy_history.specs.Tables.{state_of}
use Rattle.policy_history.specs.Values.{entry_trees}
use Rattle.policy_history.proofs.Acceptance.{none_applies}
use Rattle.policy_history.proofs.Keeping.{accepted_where, decided, kept_sound, kept_more}
use Rattle.policy_history.proofs.journal.Journal.append.Goals as goal

pub apply-due-requires-clause-accepted : goal.apply-due-requires-clause-accepted
apply-due-requires-clause-accepted c =
    let free = accepted_where c.self.inside.head (replay c.self.inside.head (entry_trees c.self.inside.entries.items)) c.args.session c.args.principal (event_tree c.args.event) (rw (← c.self.view_is) at c.requires.accepted) in
    none_applies c.self.inside.head (state_of c.self.inside.policy) c.args.session c.args.principal (event_tree c.args.event) (rw c.self.invariant.state free)

pub apply-due-requires-clause-sound : goal.apply-due-requires-clause-sound
apply-due-requires-clause-sound c = kept_sound c.self.inside.head c.self.inside.entries.items c.self.inside.policy c.self.inside.greatest_session c.self.invariant

pub apply-due-requires-clause-entries : goal.apply-due-requires-clause-entries
apply-due-requires-clause-entries c =
    let most = (kept_sound c.self.inside.head c.self.inside.entries.items c.self.inside.policy c.self.inside.greatest_session c.self.invariant).entries_bound in
    omega (arith, most)

pub invariant_of-self : goal.invariant_of-self
invariant_of-self c =
    let items = rw c.unwrap.ensures at c.push.ensures.items in
    let below = rw (← c.self.view_is) at c.requires.principal in
    let free = accepted_where c.self.inside.head (replay c.self.inside.head (entry_trees c.self.inside.entries.items)) c.args.session c.args.principal (event_tree c.args.event) (rw (← c.self.view_is) at c.requires.accepted) in
    rw items (kept_more c.self.inside.head c.self.inside.entries.items c.self.inside.policy c.self.inside.greatest_session c.self.invariant _ c.apply-due.new.self c.max-self-inside.result below (rw c.self.invariant.state free) c.apply-due.ensures.state c.max-self-inside.ensures)

pub returns-clause-decision : goal.returns-clause-decision
returns-clause-decision c =
    let h = c.self.inside.head in
    let s = replay h (entry_trees c.self.inside.entries.items) in
    let free = accepted_where h s c.args.session c.args.principal (event_tree c.args.event) (rw (← c.self.view_is) at c.requires.accepted) in
    let due = c.apply-due.result in
    rw (← c.self.view_is) (decided h s c.args.session c.args.principal (event_tree c.args.event) due.number due.bytes free (rw (← c.self.invariant.state) c.apply-due.ensures.number) c.apply-due.ensures.bytes)
