use Rattle.std.proofs.Common.{◌∷◌, map, sym, ◌∙◌, ap}
use Rattle.nexus_run.proofs.Words.{service_told}
use Rattle.nexus_run.proofs.commands.service_of.Goals as goal

pub returns-else-is_service : goal.returns-else-is_service
returns-else-is_service c = λ address workers sessions patience records within words.
    let are = ap (map (λ w. w.now)) c.in_ok-first.ensures.cases.0 ∙ ap (λ l. c.in_ok-first.first.now.now ∷ l) c.in_ok-address.ensures in
    let told = service_told address _ _ _ _ _ workers sessions c.in_ok-workers.workers c.in_ok-sessions.sessions patience records _ are words
    (sym c.as_bytes.ensures.value ∙ c.in_ok-workers.ensures.value) (sym c.as_bytes-2.ensures.value ∙ c.in_ok-sessions.ensures.value) c.is_service.ensures.small.0 c.is_service.ensures.small.1 within in
    let yes = c.is_service.ensures.value.1 (rw (c.as_bytes-address.ensures.value) told) in
    cc (yes, c.if-is_service.false)
