use Rattle.std.proofs.Common.{◌≡◌, ◌≤◌, All, length, sym, ap, ◌∙◌, subst, arith}
use Rattle.std.proofs.lemmas.List.Elements.{All-cons}
use Rattle.nexus_serve.specs.declared.means.Means.{Means}
use Rattle.nexus_serve.specs.Inner.Gathering.{GatheredValue, gathered_all}
use Rattle.nexus_serve.specs.Inner.Working.{WorkerValue}
use Rattle.nexus_serve.proofs.gathered.Gathered.gather.Goals as goal

pub loop-worker-init : goal.loop-worker-init
loop-worker-init g c =
    let items = c.from-left.ensures.0 in
    let Bounded = λ (worker : WorkerValue (Means g.row.P.Denot g.row.C.Denot)). worker.unrecorded ≤ c.args.total.now.amount in
    record {
      same = ap (gathered_all c.args.self) items;
      places = subst (λ l. length l ≤ c.args.self.places) (sym items) c.requires.places;
      counted = subst (All Bounded) items;
    }

pub loop-worker-preserved : goal.loop-worker-preserved
loop-worker-preserved g c =
    let i = c.loop-worker.invariant in
    let items = c.in-Some.ensures.items in
    let left = c.pop_front.new.self.items in
    let taken = c.take_in.ensures.gathered in
    let long = ap length items in
    let places = ap (λ v. v.places) taken in
    let fewer = i.places in
    let Bounded = λ (worker : WorkerValue (Means g.row.P.Denot g.row.C.Denot)). worker.unrecorded ≤ c.args.total.now.amount in
    record {
      same = ap (λ v. gathered_all v left) taken ∙ sym {A = GatheredValue (Means g.row.P.Denot g.row.C.Denot)} (ap (gathered_all c.loop-worker.gathered) items) ∙ i.same;
      places = omega (arith, long, places, fewer);
      counted = λ rest. i.counted (subst (All Bounded) (sym items) (All-cons Bounded c.in-Some.worker left c.take_in.ensures.counted rest));
    }

pub returns-clause-counted : goal.returns-clause-counted
returns-clause-counted g c =
    let gone = c.in_default.ensures.cases.0 in
    let long = c.loop-worker.left.ok.0 in
    let none : length c.loop-worker.left.items ≡ 0 = omega (arith, gone, long) in
    c.loop-worker.invariant.counted (λ k d within. absurd (omega (arith, none, within)))
