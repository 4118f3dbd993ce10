use Rattle.std.proofs.Common.{◌≡◌, ℕ, List, [], Option, Some, ap}
use Rattle.std.specs.Option.{option_map}
use Rattle.nal_term.specs.declared.formulas.Formula.{Formula}
use Rattle.nal_term.specs.Trees.{formula_tree}
use Rattle.proof_lines.specs.declared.lines.Line.{Line}
use Rattle.proof_lines.specs.Lines.{line_trees}
use Rattle.nal_rules.specs.Asking.{case_tree}
use Rattle.nal_rules.specs.Verdicts.{IsMissingLabel, IsUnbound}
use Rattle.authority_ask.proofs.ForCallers.{since_nothing}
use Rattle.guard_core.proofs.Judged.{askable, broken_result, faulty, judged_result, missing, no_lines, not_bound}
use Rattle.guard_core.proofs.guard.judge.Goals as goal

pub returns-in-Err-Line-clause-judged : goal.returns-in-Err-Line-clause-judged
returns-in-Err-Line-clause-judged g c =
    let tree = case_tree c.args.case.now in
    let goal = formula_tree c.in-Some.goal in
    let ls = line_trees c.in-Some-proof.proof in
    let goal_is : tree.goal ≡ Some goal = ap (λ (o : Option Formula). option_map formula_tree o) c.in-Some.is in
    let proof_is : tree.proof ≡ Some ls = ap (λ (o : Option (List Line)). option_map line_trees o) c.in-Some-proof.is in
    rw (since_nothing, c.in-Err-Line.line-is, c.in-Err-Line.fault-is) (faulty tree goal ls goal_is proof_is c.in-Err-Line.line c.in-Err-Line.fault (rw c.in-Err-Line.field-0-is at c.in-Err-Line.ensures.line))

pub returns-in-Some-missing_label-clause-judged : goal.returns-in-Some-missing_label-clause-judged
returns-in-Some-missing_label-clause-judged g c =
    let tree = case_tree c.args.case.now in
    let goal = formula_tree c.in-Some.goal in
    let ls = line_trees c.in-Some-proof.proof in
    let goal_is : tree.goal ≡ Some goal = ap (λ (o : Option Formula). option_map formula_tree o) c.in-Some.is in
    let proof_is : tree.proof ≡ Some ls = ap (λ (o : Option (List Line)). option_map line_trees o) c.in-Some-proof.is in
    let some : ls ≡ [] → ⊥ = λ none. let e = c.check.ensures.empty.1 (no_lines c.in-Some-proof.proof none) in let k = c.in-Ok.is in absurd (cc (e, k)) in
    rw since_nothing (missing tree goal ls goal_is proof_is some c.in-Ok.ensures.faultless c.in-Some-missing_label.line (rw c.as_slice.ensures at c.in-Some-missing_label.ensures))

pub returns-in-Some-unbound_line-clause-judged : goal.returns-in-Some-unbound_line-clause-judged
returns-in-Some-unbound_line-clause-judged g c =
    let tree = case_tree c.args.case.now in
    let goal = formula_tree c.in-Some.goal in
    let ls = line_trees c.in-Some-proof.proof in
    let goal_is : tree.goal ≡ Some goal = ap (λ (o : Option Formula). option_map formula_tree o) c.in-Some.is in
    let proof_is : tree.proof ≡ Some ls = ap (λ (o : Option (List Line)). option_map line_trees o) c.in-Some-proof.is in
    let some : ls ≡ [] → ⊥ = λ none. let e = c.check.ensures.empty.1 (no_lines c.in-Some-proof.proof none) in let k = c.in-Ok.is in absurd (cc (e, k)) in
    let held : (k : ℕ) → ¬ IsMissingLabel ls tree.labels k = rw c.as_slice.ensures at c.in_default-missing_label.ensures in
    rw since_nothing (not_bound tree goal ls goal_is proof_is some c.in-Ok.ensures.faultless held c.in-Some-unbound_line.line (rw c.as_slice-2.ensures at c.in-Some-unbound_line.ensures))

pub ask_lines-requires : goal.ask_lines-requires
ask_lines-requires g c =
    let tree = case_tree c.args.case.now in
    let goal = formula_tree c.in-Some.goal in
    let ls = line_trees c.in-Some-proof.proof in
    let goal_is : tree.goal ≡ Some goal = ap (λ (o : Option Formula). option_map formula_tree o) c.in-Some.is in
    let proof_is : tree.proof ≡ Some ls = ap (λ (o : Option (List Line)). option_map line_trees o) c.in-Some-proof.is in
    let some : ls ≡ [] → ⊥ = λ none. let e = c.check.ensures.empty.1 (no_lines c.in-Some-proof.proof none) in let k = c.in-Ok.is in absurd (cc (e, k)) in
    let held : (k : ℕ) → ¬ IsMissingLabel ls tree.labels k = rw c.as_slice.ensures at c.in_default-missing_label.ensures in
    let bound : (k : ℕ) → ¬ IsUnbound ls tree.bound k = rw c.as_slice-2.ensures at c.in_default-unbound_line.ensures in
    record { askable = rw c.as_slice-3.ensures (askable tree goal ls goal_is proof_is some c.in-Ok.ensures.faultless held bound) }

pub returns-clause-judged : goal.returns-clause-judged
returns-clause-judged g c =
    let tree = case_tree c.args.case.now in
    let goal = formula_tree c.in-Some.goal in
    let ls = line_trees c.in-Some-proof.proof in
    let goal_is : tree.goal ≡ Some goal = ap (λ (o : Option Formula). option_map formula_tree o) c.in-Some.is in
    let proof_is : tree.proof ≡ Some ls = ap (λ (o : Option (List Line)). option_map line_trees o) c.in-Some-proof.is in
    let some : ls ≡ [] → ⊥ = λ none. let e = c.check.ensures.empty.1 (no_lines c.in-Some-proof.proof none) in let k = c.in-Ok.is in absurd (cc (e, k)) in
    let held : (k : ℕ) → ¬ IsMissingLabel ls tree.labels k = rw c.as_slice.ensures at c.in_default-missing_label.ensures in
    let bound : (k : ℕ) → ¬ IsUnbound ls tree.bound k = rw c.as_slice-2.ensures at c.in_default-unbound_line.ensures in
    judged_result tree goal ls goal_is proof_is some c.in-Ok.ensures.faultless held bound _ c.ask_lines.result (rw c.as_slice-3.ensures at c.ask_lines.ensures.answered)

pub returns-clause-broken_off : goal.returns-clause-broken_off
returns-clause-broken_off g c =
    let tree = case_tree c.args.case.now in
    let goal = formula_tree c.in-Some.goal in
    let ls = line_trees c.in-Some-proof.proof in
    let goal_is : tree.goal ≡ Some goal = ap (λ (o : Option Formula). option_map formula_tree o) c.in-Some.is in
    let proof_is : tree.proof ≡ Some ls = ap (λ (o : Option (List Line)). option_map line_trees o) c.in-Some-proof.is in
    let some : ls ≡ [] → ⊥ = λ none. let e = c.check.ensures.empty.1 (no_lines c.in-Some-proof.proof none) in let k = c.in-Ok.is in absurd (cc (e, k)) in
    let held : (k : ℕ) → ¬ IsMissingLabel ls tree.labels k = rw c.as_slice.ensures at c.in_default-missing_label.ensures in
    let bound : (k : ℕ) → ¬ IsUnbound ls tree.bound k = rw c.as_slice-2.ensures at c.in_default-unbound_line.ensures in
    broken_result tree goal ls goal_is proof_is some c.in-Ok.ensures.faultless held bound _ c.ask_lines.result (rw c.as_slice-3.ensures at c.ask_lines.ensures.answered)
