use Rattle.std.proofs.Common.{rules, sym, ap, ◌∙◌, length}
use Rattle.verdict_words.specs.Rule.{last_met}
use Rattle.verdict_words.proofs.ForCallers.{last_met_now}
use Rattle.board_rows.proofs.two_threads.Desk.raise.Goals as goal

pub returns-then-at-ge-MOST-clause-pass : goal.returns-then-at-ge-MOST-clause-pass
returns-then-at-ge-MOST-clause-pass g c =
    let entries = ap (λ s. s.entries) c.meet-pass.ensures.seat in
    (search rules, search rules, search rules, ap (λ p. last_met p.trail) c.meet-pass.ensures.pass ∙ (last_met_now c.args.pass.trail _ ∙ sym (ap length entries)))

pub returns-clause-pass : goal.returns-clause-pass
returns-clause-pass g c =
    let entries = ap (λ s. s.entries) c.meet.ensures.seat in
    (search rules, search rules, search rules, ap (λ p. last_met p.trail) c.meet.ensures.pass ∙ (last_met_now c.meet-pass.result.trail _ ∙ sym (ap length entries)))
