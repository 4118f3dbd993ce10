use Rattle.std.proofs.Common.{List, ℕ, Bool, [], ◌∷◌, ◌++◌, sym, ap, ◌∙◌, subst}
use Rattle.nx_io.specs.Streams.{gained}
use Rattle.nexus_client.specs.declared.ends.TalkEnd.TheVariants as end
use Rattle.nexus_client.specs.Talks.{Talks}
use Rattle.nexus_client.specs.Talks as talk
use Rattle.nexus_client.proofs.Talking.{answering, not_over, nothing_is_part, sending_failed, taking_ended}
use Rattle.nexus_client.proofs.talks.exchange.Goals as goal

pub returns-in-Failed-clause-passes : goal.returns-in-Failed-clause-passes
returns-in-Failed-clause-passes g c =
    sending_failed c.args.request.now _ _ _ _ _ _ c.in-Failed.ensures.bytes c.in-Failed.ensures.coming.taken_is (c.in-Failed.ensures.coming.over_is ∙ c.requires.over)

pub returns-in-Reply-clause-passes : goal.returns-in-Reply-clause-passes
returns-in-Reply-clause-passes g c =
    let was = c.in-Ready.ensures in
    let e = c.in-Reply.ensures in
    let gain = gained (g.L.Link.taken c.send_whole.new.link) (g.L.Link.taken c.read_reply.new.link) in
    answering c.args.request.now _ _ _ _ _ _ _ gain c.write_line.result c.in-Reply.reply (e.going.sent_is ∙ was.bytes)
    (e.bytes.grows ∙ ap (λ (xs : List ℕ). xs ++ gain) was.coming.taken_is) e.front (e.over ∙ not_over gain _ (was.coming.over_is ∙ c.requires.over)) c.write_line.ensures.bytes

pub returns-in-End-clause-passes : goal.returns-in-End-clause-passes
returns-in-End-clause-passes g c =
    let was = c.in-Ready.ensures in
    let e = c.in-End.ensures in
    let request = c.args.request.now in
    let gain = gained (g.L.Link.taken c.send_whole.new.link) (g.L.Link.taken c.read_reply.new.link) in
    taking_ended request _ _ _ _ _ _ gain end.Ended (e.going.sent_is ∙ was.bytes) (e.bytes.grows ∙ ap (λ (xs : List ℕ). xs ++ gain) was.coming.taken_is)
    (λ requests. subst (λ (over : Bool). Talks (request ∷ requests) request gain [] over end.Ended) (sym e.over) (talk.cut_off request gain (nothing_is_part gain e.front)))

pub returns-in-Torn-clause-passes : goal.returns-in-Torn-clause-passes
returns-in-Torn-clause-passes g c =
    let was = c.in-Ready.ensures in
    let e = c.in-Torn.ensures in
    let request = c.args.request.now in
    let gain = gained (g.L.Link.taken c.send_whole.new.link) (g.L.Link.taken c.read_reply.new.link) in
    taking_ended request _ _ _ _ _ _ gain end.Ended (e.going.sent_is ∙ was.bytes) (e.bytes.grows ∙ ap (λ (xs : List ℕ). xs ++ gain) was.coming.taken_is)
    (λ requests. subst (λ (over : Bool). Talks (request ∷ requests) request gain [] over end.Ended) (sym e.over) (talk.cut_off request gain e.front.1))

pub returns-in-Bad-clause-passes : goal.returns-in-Bad-clause-passes
returns-in-Bad-clause-passes g c =
    let was = c.in-Ready.ensures in
    let e = c.in-Bad.ensures in
    let request = c.args.request.now in
    let gain = gained (g.L.Link.taken c.send_whole.new.link) (g.L.Link.taken c.read_reply.new.link) in
    let over_is = e.over ∙ not_over gain _ (was.coming.over_is ∙ c.requires.over) in
    taking_ended request _ _ _ _ _ _ gain end.Ended (e.going.sent_is ∙ was.bytes) (e.bytes.grows ∙ ap (λ (xs : List ℕ). xs ++ gain) was.coming.taken_is)
    (λ requests. subst (λ (over : Bool). Talks (request ∷ requests) request gain [] over end.Ended) (sym over_is) (talk.no_reply request gain e.front))

pub returns-in-ReadFault-clause-passes : goal.returns-in-ReadFault-clause-passes
returns-in-ReadFault-clause-passes g c =
    let was = c.in-Ready.ensures in
    let e = c.in-ReadFault.ensures in
    let request = c.args.request.now in
    let gain = gained (g.L.Link.taken c.send_whole.new.link) (g.L.Link.taken c.read_reply.new.link) in
    let over_is = e.over ∙ not_over gain _ (was.coming.over_is ∙ c.requires.over) in
    taking_ended request _ _ _ _ _ _ gain end.Broken (e.going.sent_is ∙ was.bytes) (e.bytes.grows ∙ ap (λ (xs : List ℕ). xs ++ gain) was.coming.taken_is)
    (λ requests. subst (λ (over : Bool). Talks (request ∷ requests) request gain [] over end.Broken) (sym over_is) (talk.untaken request gain e.front))
