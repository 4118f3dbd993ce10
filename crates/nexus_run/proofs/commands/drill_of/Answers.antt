use Rattle.std.proofs.Common.{◌∷◌, map, sym, ◌∙◌, ap}
use Rattle.nexus_run.proofs.Words.{drill_told, not_so}
use Rattle.nexus_run.proofs.commands.drill_of.Goals as goal

pub returns-then-not-is_drill : goal.returns-then-not-is_drill
returns-then-not-is_drill c = λ number workers calls within words.
    let are = ap (map (λ w. w.now)) c.in_ok-word.ensures.cases.0 ∙ ap (λ l. c.in_ok-word.word.now.now ∷ l) c.in_ok-number_text.ensures in
    let same = drill_told number workers calls c.in_ok-workers.workers c.in_ok-calls.calls _ _ _ _ _ are words (sym c.as_bytes-2.ensures.value ∙ c.in_ok-workers.ensures.value)
    (sym c.as_bytes-3.ensures.value ∙ c.in_ok-calls.ensures.value) c.is_drill.ensures.small.0 c.is_drill.ensures.small.1 within in
    let yes = c.is_drill.ensures.value.1 (rw (same.0, same.1) (within.workers_are.0, within.workers_are.1, within.calls_are.0, within.calls_are.1)) in
    not_so c.is_drill.result c.if-not-is_drill.true yes
