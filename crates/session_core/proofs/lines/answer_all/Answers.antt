use Rattle.std.proofs.Common.{◌≡◌, ◌+◌, ◌<◌, ◌∷◌, [], length, take, refl, ap, subst, ◌∙◌, arith, None, Option, ℕ, List, IfSome}
use Rattle.std.proofs.lemmas.List.{length-append, length-set, take_all}
use Rattle.std.proofs.lemmas.List.Elements.{All-replicate, All-set}
use Rattle.authority_ask.specs.PanelCalls.{asked_since}
use Rattle.authority_ask.proofs.ForCallers.{only_nothing, only_through, since_nothing, since_through}
use Rattle.policy_history.specs.Values.{entry_trees}
use Rattle.session_core.specs.declared.lines.Asking.{Asking}
use Rattle.session_core.specs.Sessions.{Told1, at_start}
use Rattle.session_core.proofs.Turns.{told_more}
use Rattle.session_core.proofs.lines.answer_all.Goals as goal

pub loop-asking-init : goal.loop-asking-init
loop-asking-init g c = record {
  told = rw c.in_ok-replies.ensures.items (since_nothing (g.P.Panel.history c.args.panel.now), refl);
  head = refl;
  asked = only_nothing _;
  within = All-replicate (λ (w : Option ℕ). IfSome w (λ p. p < length c.args.journal.now.head.principals)) 64 None tt;
  sessions = refl;
  many = ap length c.in_ok-replies.ensures.items;
  room = c.in_ok-replies.ensures.capacity;
}

pub loop-asking-preserved : goal.loop-asking-preserved
loop-asking-preserved g c =
    let inv = c.loop-asking.invariant in
    let outcome = rw inv.head at c.answer-reply.ensures.outcome in
    let all = since_through (g.P.Panel.history c.args.panel.now) (g.P.Panel.history c.loop-asking.panel) (g.P.Panel.history c.answer-reply.new.panel) inv.asked c.answer-reply.ensures.asked in
    record {
      told = rw (c.push_reserved.ensures.items, all)
          (told_more c.args.journal.now.head c.args.first (at_start (entry_trees c.args.journal.now.entries)) c.args.askings.now c.loop-asking.asking-index c.asking-item.result
          c.loop-asking.replies.items c.answer-reply.result _ c.answer-reply.new.self.principal (asked_since (g.P.Panel.history c.args.panel.now) (g.P.Panel.history c.loop-asking.panel))
          (asked_since (g.P.Panel.history c.loop-asking.panel) (g.P.Panel.history c.answer-reply.new.panel))
          (entry_trees c.loop-asking.journal.entries) (entry_trees c.answer-reply.new.journal.entries) c.loop-asking.admitted (omega arith) c.asking-item.is refl inv.told outcome
          c.answer-reply.ensures.grows);
      head = c.answer-reply.ensures.head ∙ inv.head;
      asked = only_through _ _ _ inv.asked c.answer-reply.ensures.asked;
      within = rw c.answer-reply.ensures.head (All-set (λ (w : Option ℕ). IfSome w (λ p. p < length c.loop-asking.journal.head.principals)) c.loop-asking.admitted c.asking-item.result.place c.answer-reply.new.self.principal
          (rw c.answer-reply.ensures.head at c.answer-reply.ensures.principal) inv.within);
      sessions = length-set c.loop-asking.admitted c.asking-item.result.place c.answer-reply.new.self.principal ∙ inv.sessions;
      many = ap length c.push_reserved.ensures.items ∙ length-append c.loop-asking.replies.items (c.answer-reply.result ∷ []) ∙ ap (λ (n : ℕ). n + 1) inv.many;
      room = (let before = inv.room in let after = c.push_reserved.ensures.capacity in omega (arith, before, after));
    }

pub returns-clause-told : goal.returns-clause-told
returns-clause-told g c =
    let all : take c.loop-asking.asking-index c.args.askings.now ≡ c.args.askings.now = take_all c.loop-asking.asking-index c.args.askings.now (omega arith) in (
      record { entries = entry_trees c.loop-asking.journal.entries; admitted = c.loop-asking.admitted },
      subst (λ (xs : List Asking). Told1 c.args.journal.now.head c.args.first (at_start (entry_trees c.args.journal.now.entries)) xs c.loop-asking.replies.items
          (asked_since (g.P.Panel.history c.args.panel.now) (g.P.Panel.history c.loop-asking.panel)) (record { entries = entry_trees c.loop-asking.journal.entries; admitted = c.loop-asking.admitted }))
          all c.loop-asking.invariant.told,
      refl,
    )
