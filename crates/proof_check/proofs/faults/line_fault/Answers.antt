use Rattle.std.proofs.Common.{length, ◌≡◌, ◌+◌, ◌<◌, ◌≤◌, ⊎_elim, ap, sym, ◌∙◌, subst, arith}
use Rattle.std.proofs.lemmas.List.{length-map}
use Rattle.proof_lines.specs.Lines.{line_tree, line_trees}
use Rattle.nal_term.specs.Trees.{formula_tree}
use Rattle.nal_rules.specs.Faults.{fault_number}
use Rattle.std.proofs.lemmas.Bool.{cases_lt}
use Rattle.proof_check.specs.Inner.Numbered.{fault_at}
use Rattle.proof_check.specs.Inner.Sound.{IsMet}
use Rattle.proof_check.specs.Sizes.{greatest_in}
use Rattle.proof_check.proofs.Costs.{next_before}
use Rattle.proof_check.proofs.Found.{at_within}
use Rattle.proof_check.proofs.Refuted.{fault_back, few_faults, some_fault, fault_numbered, first_fault}
use Rattle.proof_check.proofs.faults.line_fault.Goals as goal

pub is_met-requires-clause-within : goal.is_met-requires-clause-within
is_met-requires-clause-within g c =
    let within = at_within (line_trees c.args.proof.now) c.args.number (line_tree c.in_ok-line.line.now) (sym c.in_ok-line.ensures.line) in
    let same = length-map c.args.proof.now line_tree in
    omega (arith, within, same)

pub loop-place-init : goal.loop-place-init
loop-place-init g c = record {
  met = λ fault low. let some = some_fault fault in absurd (omega (arith, low, some));
  least = omega arith;
  most = omega arith;
  goal = λ past. absurd (omega (arith, past));
}

pub loop-place-preserved : goal.loop-place-preserved
loop-place-preserved g c =
    let place = c.loop-place.place in
    let i = c.loop-place.invariant in
    let e = c.is_met.ensures in
    let least = i.least in
    let most = i.most in
    let more = e.least in
    let next = rw c.fault_at-fault.ensures at e.most in record {
      met = λ fault low. ⊎_elim (λ (below : fault_number fault < place + 1). i.met fault (omega (arith, below))) (λ (above : place + 1 ≤ fault_number fault). let back = fault_back fault place (omega (arith, low, above)) in
          subst (λ f. IsMet (line_trees c.args.proof.now) (formula_tree c.args.goal.now) c.args.number (line_tree c.in_ok-line.line.now) f) (c.fault_at-fault.ensures ∙ back) (e.met c.if-not-is_met.false)) (cases_lt (fault_number fault) (place + 1));
      least = omega (arith, least, more);
      most = let step = next_before (length c.args.proof.now) (greatest_in (line_trees c.args.proof.now)) place in
          omega (arith, most, next, step);
      goal = λ past last. let test = c.loop-place-test.true in
          let eleven : place ≡ 11 = omega (arith, past, test) in
          let told = e.goal c.if-not-is_met.false (c.fault_at-fault.ensures ∙ ap fault_at eleven) last in
          omega (arith, least, told);
    }

pub returns-then-not-is_met-clause-fault : goal.returns-then-not-is_met-clause-fault
returns-then-not-is_met-clause-fault g c =
    let place = c.loop-place.place in
    let number : fault_number c.fault_at-fault.result ≡ place + 1 = ap fault_number c.fault_at-fault.ensures ∙ fault_numbered place c.loop-place-test.true in
    first_fault (line_trees c.args.proof.now) (formula_tree c.args.goal.now) c.args.number (line_tree c.in_ok-line.line.now) (sym c.in_ok-line.ensures.line) place c.fault_at-fault.result number c.loop-place.invariant.met (c.is_met.ensures.unmet c.if-not-is_met.true)

pub returns-clause-fault : goal.returns-clause-fault
returns-clause-fault g c =
    λ l e fault. let stands = c.in_ok-line.ensures.line in
    let same : line_tree c.in_ok-line.line.now ≡ l = cc (stands, e) in
    let few = few_faults fault in
    let past = c.loop-place-test.false in
    subst (λ x. IsMet (line_trees c.args.proof.now) (formula_tree c.args.goal.now) c.args.number x fault) same (c.loop-place.invariant.met fault (omega (arith, few, past)))
