use Rattle.std.proofs.Common.{refl, sym, subst, ◌∙◌}
use Rattle.nal_term.specs.Names.{IsName}
use Rattle.nal_term.specs.Secrets.{IsSecret}
use Rattle.nexus_client.proofs.Peers.{peer_parts}
use Rattle.nexus_client.proofs.imports.read_peer.Goals as goal

pub returns-in-Err-Bad-clause-bad : goal.returns-in-Err-Bad-clause-bad
returns-in-Err-Bad-clause-bad c = λ n name secret is.
    let parts = peer_parts c.args.line.now c.in-Some.peer.now c.in-Some-split_word.name.now c.in-Some-split_word.secret.now c.in-Some.ensures c.in-Some-split_word.ensures.0 c.in-Some-split_word.ensures.1 name secret is in
    ((rw c.in-Err-Bad.field-0-is at c.in-Err-Bad.ensures.bad).0 refl) (subst IsName (sym parts.0) is.name_is)

pub returns-in-Ok-of-clause-only : goal.returns-in-Ok-of-clause-only
returns-in-Ok-of-clause-only c = λ name secret is.
    let parts = peer_parts c.args.line.now c.in-Some.peer.now c.in-Some-split_word.name.now c.in-Some-split_word.secret.now c.in-Some.ensures c.in-Some-split_word.ensures.0 c.in-Some-split_word.ensures.1 name secret is in
    (sym parts.0 ∙ sym c.in-Ok.ensures.made, sym parts.1 ∙ sym c.in-Ok-of.ensures.made)

pub returns-in-Err-Bad-of-clause-bad : goal.returns-in-Err-Bad-of-clause-bad
returns-in-Err-Bad-of-clause-bad c = λ n name secret is.
    let parts = peer_parts c.args.line.now c.in-Some.peer.now c.in-Some-split_word.name.now c.in-Some-split_word.secret.now c.in-Some.ensures c.in-Some-split_word.ensures.0 c.in-Some-split_word.ensures.1 name secret is in
    ((rw c.in-Err-Bad-of.field-0-is at c.in-Err-Bad-of.ensures.bad).0 refl) (subst IsSecret (sym parts.1) is.secret_is)
