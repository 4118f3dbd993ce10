use Rattle.std.proofs.Common.{◌≡◌, None, sym, arith}
use Rattle.policy_history.specs.declared.events.Refusal.TheVariants.{JournalFull}
use Rattle.policy_history.specs.Events.{event_tree}
use Rattle.policy_history.specs.Machine.{refusal_of}
use Rattle.policy_history.specs.Tables.{state_of}
use Rattle.policy_history.proofs.Acceptance.{line_fits, none_applies}
use Rattle.policy_history.proofs.tables.Policy.decide.Goals as goal

pub reply_number-requires : goal.reply_number-requires
reply_number-requires c = let most = c.requires.sound.entries_bound in omega (arith, most)

pub returns-clause-fewer : goal.returns-clause-fewer
returns-clause-fewer c =
    let h = c.args.head.now in
    let s = state_of c.args.self.now in
    let e = event_tree c.args.event.now in
    let free : refusal_of h s c.args.session c.args.caller e ≡ None = sym c.in_default.ensures in
    (line_fits h s c.args.session c.args.caller e (none_applies h s c.args.session c.args.caller e free JournalFull)).0
