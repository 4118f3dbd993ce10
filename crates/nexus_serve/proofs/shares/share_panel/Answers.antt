use Rattle.std.proofs.Common.{rules, ◌≡◌, ◌<◌, ◌∷◌, [], ◌++◌, sym, subst, ◌∙◌, arith, refl, replicate, length, length-append}
use Rattle.std.proofs.lemmas.List.Elements.{All-append, All-cons, All-nil}
use Rattle.authority_ask.specs.PanelCalls.{no_room_to_share, not_shared, shared}
use Rattle.nexus_serve.specs.Hosting.{HasCalledPanel, IsPanelShare}
use Rattle.nexus_serve.specs.declared.means.Means.{Means}
use Rattle.nexus_serve.proofs.Recorders.{nobody_more}
use Rattle.nexus_serve.proofs.Readiness.{called_then, panel_shared_more, same_places, shares_stay}
use Rattle.nexus_serve.proofs.shares.share_panel.Goals as goal

pub loop-preserved : goal.loop-preserved
loop-preserved g c =
    let i = c.loop.invariant in
    let e = c.in-Made.ensures in
    let items = c.push_reserved.ensures.items in
    let own : Means g.row.P.Denot g.row.C.Denot = record { panel = c.in-Made.share; records = c.nobody.result } in
    let before = c.loop.means.items in
    let long = length-append before (own ∷ []) in
    let count = i.count in
    let history = g.P.Panel.history in
    let Shares = λ (own : Means g.row.P.Denot g.row.C.Denot). IsPanelShare (history c.share.new.self) (history own.panel) in
    let one : Shares own = e.fresh ∙ same_places (history c.loop.panel) (history c.share.new.self) shared refl e.history in
    record {
      count = rw (items) (omega (arith, long, count));
      capacity = c.push_reserved.ensures.capacity ∙ i.capacity;
      are_shares = rw (items) (All-append Shares before (own ∷ []) (shares_stay (λ (own : Means g.row.P.Denot g.row.C.Denot). history own.panel) (history c.loop.panel) (history c.share.new.self) shared refl e.history before i.are_shares)
          (All-cons Shares own [] one (All-nil Shares)));
      calls = panel_shared_more (history c.args.panel.now) (history c.loop.panel) (history c.share.new.self) c.loop.counter i.calls e.history;
      keepers = nobody_more before c.push_reserved.new.self.items own c.loop.counter i.keepers c.nobody.ensures items;
    }

pub returns-clause-calls : goal.returns-clause-calls
returns-clause-calls g c =
    let i = c.loop.invariant in
    let all : length c.loop.means.items ≡ c.args.count = search rules in
    (replicate (length c.loop.means.items) shared, subst (λ n. HasCalledPanel (replicate n shared) (g.P.Panel.history c.args.panel.now) (g.P.Panel.history c.loop.panel)) (sym i.count) i.calls, (all, refl))

pub returns-in-Failed-clause-shared : goal.returns-in-Failed-clause-shared
returns-in-Failed-clause-shared g c = shares_stay (λ (own : Means g.row.P.Denot g.row.C.Denot). g.P.Panel.history own.panel) (g.P.Panel.history c.loop.panel) (g.P.Panel.history c.share.new.self) not_shared refl c.in-Failed.ensures.history c.loop.means.items c.loop.invariant.are_shares

pub returns-in-NoMemory-clause-shared : goal.returns-in-NoMemory-clause-shared
returns-in-NoMemory-clause-shared g c = shares_stay (λ (own : Means g.row.P.Denot g.row.C.Denot). g.P.Panel.history own.panel) (g.P.Panel.history c.loop.panel) (g.P.Panel.history c.share.new.self) no_room_to_share refl c.in-NoMemory.ensures.history c.loop.means.items c.loop.invariant.are_shares

pub returns-in-Failed-clause-calls : goal.returns-in-Failed-clause-calls
returns-in-Failed-clause-calls g c =
    let i = c.loop.invariant in
    let history = g.P.Panel.history in (
      replicate (length c.loop.means.items) shared ++ not_shared ∷ [],
      subst (λ n. HasCalledPanel (replicate n shared ++ not_shared ∷ []) (history c.args.panel.now) (history c.share.new.self)) (sym i.count)
          (called_then (history c.args.panel.now) (history c.loop.panel) (history c.share.new.self) (replicate c.loop.counter shared) (not_shared ∷ []) i.calls c.in-Failed.ensures.history),
      (subst (λ n. n < c.args.count) (sym i.count) c.loop-test.true, refl),
    )

pub returns-in-NoMemory-clause-calls : goal.returns-in-NoMemory-clause-calls
returns-in-NoMemory-clause-calls g c =
    let i = c.loop.invariant in
    let history = g.P.Panel.history in (
      replicate (length c.loop.means.items) shared ++ no_room_to_share ∷ [],
      subst (λ n. HasCalledPanel (replicate n shared ++ no_room_to_share ∷ []) (history c.args.panel.now) (history c.share.new.self)) (sym i.count)
          (called_then (history c.args.panel.now) (history c.loop.panel) (history c.share.new.self) (replicate c.loop.counter shared) (no_room_to_share ∷ []) i.calls c.in-NoMemory.ensures.history),
      (subst (λ n. n < c.args.count) (sym i.count) c.loop-test.true, refl),
    )
