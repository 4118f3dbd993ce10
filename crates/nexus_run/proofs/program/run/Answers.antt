use Rattle.std.proofs.Common.{◌≡◌, ap, subst, sym, ◌∙◌}
use Rattle.service_commands.specs.Services.{HandsBack}
use Rattle.nexus_run.proofs.program.run.Goals as goal

pub returns-clause-other_words : goal.returns-clause-other_words
returns-clause-other_words g c = λ none.
    let rest = c.with_note.ensures.rest in
    let other = c.run_command-ended.ensures.other_words none in
    (ap (λ e. e.status) rest ∙ other.0, other.1, subst (λ o. HandsBack o (λ k. k ≡ c.args.sinks.output)) (sym (ap (λ e. e.output) rest)) other.2)

pub returns-clause-runs : goal.returns-clause-runs
returns-clause-runs g c = record {
  unnoted = c.run_command-ended.result.ended;
  runs = c.run_command-ended.ensures.runs;
  hands = c.run_command-ended.ensures.handed;
  rest = c.with_note.ensures.rest;
  noted = c.with_note.ensures.noted;
}

pub returns-clause-earned : goal.returns-clause-earned
returns-clause-earned g c = λ h es is.
    let rest = c.with_note.ensures.rest in
    rw (ap (λ e. e.means) rest, ap (λ e. e.reports) rest) (c.run_command-ended.ensures.earned h es (rw (ap (λ e. e.journal) rest) at is))
