use Rattle.nexus_run.specs.Commands.{serve_words}
use Rattle.nexus_run.proofs.Words.{no_logged}
use Rattle.nexus_run.proofs.commands.logged_of.Goals as goal

pub returns-in_err-front : goal.returns-in_err-front
returns-in_err-front c = rw c.from_residual.ensures (λ l. c.in_err-front.ensures (serve_words l.0 l.1 l.2 l.3 l.4) l.5 l.7 l.8)

pub returns-in_err-service : goal.returns-in_err-service
returns-in_err-service c = rw c.from_residual-in_err-service.ensures (no_logged _ _ c.in_ok-front.log.now c.in_ok-front.ensures.1 c.in_err-service.ensures)
