use Rattle.std.proofs.Common.{rules, ◌≡◌, ◌<◌, ◌∷◌, [], ◌++◌, ap, sym, subst, ◌∙◌, arith, refl, replicate, append_assoc, length, length-append}
use Rattle.std.proofs.lemmas.List.Elements.{All-append, All-cons, All-nil}
use Rattle.nx_io.specs.DoorCalls.{no_room_to_share, not_shared, shared}
use Rattle.nexus_serve.specs.Inner.Sharing.{IsShareOf}
use Rattle.nexus_serve.proofs.Readiness.{is_share, shared_more}
use Rattle.nexus_serve.proofs.shares.share_door.Goals as goal

pub loop-preserved : goal.loop-preserved
loop-preserved g c =
    let i = c.loop.invariant in
    let e = c.in-Made.ensures in
    let items = c.push_reserved.ensures.items in
    let long = length-append c.loop.shares.items (c.in-Made.share ∷ []) in
    let count = i.count in
    let Shares = IsShareOf g.D.Door.origin g.D.Door.calls c.args.door.now in
    let one : Shares c.in-Made.share = is_share g.D.Door.origin g.D.Door.calls c.args.door.now c.loop.door c.in-Made.share c.loop.counter i.origin i.calls e.shared e.fresh in
    record {
      count = rw (items) (omega (arith, long, count));
      capacity = c.push_reserved.ensures.capacity ∙ i.capacity;
      are_shares = rw (items) (All-append Shares c.loop.shares.items (c.in-Made.share ∷ []) i.are_shares (All-cons Shares c.in-Made.share [] one (All-nil Shares)));
      calls = e.calls ∙ shared_more (g.D.Door.calls c.args.door.now) (g.D.Door.calls c.loop.door) c.loop.counter i.calls;
      links = e.links ∙ i.links;
      origin = e.origin ∙ i.origin;
    }

pub returns-clause-calls : goal.returns-clause-calls
returns-clause-calls g c =
    let i = c.loop.invariant in
    let all : length c.loop.shares.items ≡ c.args.count = search rules in
    (replicate (length c.loop.shares.items) shared, i.calls ∙ ap (λ n. g.D.Door.calls c.args.door.now ++ replicate n shared) (sym i.count), (all, refl))

pub returns-in-Failed-clause-calls : goal.returns-in-Failed-clause-calls
returns-in-Failed-clause-calls g c =
    let i = c.loop.invariant in (
      replicate (length c.loop.shares.items) shared ++ not_shared ∷ [],
      c.in-Failed.ensures.calls ∙ ap (λ cs. cs ++ not_shared ∷ []) (i.calls ∙ ap (λ n. g.D.Door.calls c.args.door.now ++ replicate n shared) (sym i.count))
          ∙ append_assoc (g.D.Door.calls c.args.door.now) (replicate (length c.loop.shares.items) shared) (not_shared ∷ []),
      (subst (λ n. n < c.args.count) (sym i.count) c.loop-test.true, refl),
    )

pub returns-in-NoMemory-clause-calls : goal.returns-in-NoMemory-clause-calls
returns-in-NoMemory-clause-calls g c =
    let i = c.loop.invariant in (
      replicate (length c.loop.shares.items) shared ++ no_room_to_share ∷ [],
      c.in-NoMemory.ensures.calls ∙ ap (λ cs. cs ++ no_room_to_share ∷ []) (i.calls ∙ ap (λ n. g.D.Door.calls c.args.door.now ++ replicate n shared) (sym i.count))
          ∙ append_assoc (g.D.Door.calls c.args.door.now) (replicate (length c.loop.shares.items) shared) (no_room_to_share ∷ []),
      (subst (λ n. n < c.args.count) (sym i.count) c.loop-test.true, refl),
    )
