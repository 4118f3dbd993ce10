use Rattle.std.proofs.Common.{◌≡◌, ◌≤◌, ◌+◌, [], ℕ, List, length, ap, subst, sym, ◌∙◌, arith}
use Rattle.std.proofs.lemmas.List.{length_push}
use Rattle.std.specs.Option.{option_copied}
use Rattle.proof_lines.specs.declared.lines.Line.{Line}
use Rattle.proof_lines.specs.Lines.{line_tree, line_trees}
use Rattle.proof_text.specs.Inner.Reading.{segments_after}
use Rattle.proof_text.specs.Inner.Lines.{ReadsLine}
use Rattle.proof_text.proofs.LineParts.{line_form}
use Rattle.proof_text.proofs.Texts.{refutes}
use Rattle.proof_text.proofs.Walk as walk
use Rattle.proof_text.proofs.Walk.{Carries}
use Rattle.proof_text.proofs.read.read_lines.Goals as goal

started : (all : List (List ℕ)) (ps : List Line) → ps ≡ [] → Carries all (line_trees ps) (length ps + 1) all × (length ps ≤ 256)
started all ps e =
    subst (λ x. Carries all (line_trees x) (length x + 1) all × (length x ≤ 256)) (sym e) (walk.carries_all all, omega arith)

at_due : (all : List (List ℕ)) (ps : List Line) (n : ℕ) (rest : List (List ℕ)) → n ≡ length ps → Carries all (line_trees ps) (length ps + 1) rest → Carries all (line_trees ps) (n + 1) rest
at_due all ps n rest e c = subst (λ x. Carries all (line_trees ps) (x + 1) rest) (sym e) c

pub loop-rest-init : goal.loop-rest-init
loop-rest-init c = started (segments_after (option_copied c.args.first)) c.new-proof.result c.new-proof.ensures

pub returns-then-is_tail-clause-ok : goal.returns-then-is_tail-clause-ok
returns-then-is_tail-clause-ok c =
    let all = segments_after (option_copied c.args.first) in
    let rest = segments_after (option_copied c.loop-rest.rest) in
    let others = segments_after (option_copied c.next_segment.result.1) in
    let k = c.count-due.result + 1 in
    let carries = at_due all c.loop-rest.proof c.count-due.result rest c.count-due.ensures.count c.loop-rest.invariant.0 in
    let cut = ap (λ x. segments_after (option_copied x)) c.in-Some.is ∙ c.next_segment.ensures.segments in
    let ends = c.is_end.ensures.0 c.if-is_end.true in
    walk.body_reads all (line_trees c.loop-rest.proof) k rest carries c.next_segment.result.0.now others cut ends.0 ends.1 (c.is_tail.ensures.0 c.if-is_tail.true)

pub returns-then-is_tail-clause-only : goal.returns-then-is_tail-clause-only
returns-then-is_tail-clause-only c =
    let all = segments_after (option_copied c.args.first) in
    let rest = segments_after (option_copied c.loop-rest.rest) in
    let others = segments_after (option_copied c.next_segment.result.1) in
    let k = c.count-due.result + 1 in
    let carries = at_due all c.loop-rest.proof c.count-due.result rest c.count-due.ensures.count c.loop-rest.invariant.0 in
    let cut = ap (λ x. segments_after (option_copied x)) c.in-Some.is ∙ c.next_segment.ensures.segments in
    let ends = c.is_end.ensures.0 c.if-is_end.true in
    walk.body_only all (line_trees c.loop-rest.proof) k rest carries c.next_segment.result.0.now others cut ends.1

pub returns-then-is_end-clause-err : goal.returns-then-is_end-clause-err
returns-then-is_end-clause-err c =
    let all = segments_after (option_copied c.args.first) in
    let rest = segments_after (option_copied c.loop-rest.rest) in
    let others = segments_after (option_copied c.next_segment.result.1) in
    let k = c.count-due.result + 1 in
    let carries = at_due all c.loop-rest.proof c.count-due.result rest c.count-due.ensures.count c.loop-rest.invariant.0 in
    let cut = ap (λ x. segments_after (option_copied x)) c.in-Some.is ∙ c.next_segment.ensures.segments in
    let ends = c.is_end.ensures.0 c.if-is_end.true in
    λ _. walk.wrong_after all (line_trees c.loop-rest.proof) k rest carries c.next_segment.result.0.now others cut ends.0 ends.1
    (refutes c.is_tail.result _ c.is_tail.ensures.1 c.if-is_tail.false)

pub returns-then-is_cut_off-clause-err : goal.returns-then-is_cut_off-clause-err
returns-then-is_cut_off-clause-err c =
    let all = segments_after (option_copied c.args.first) in
    let rest = segments_after (option_copied c.loop-rest.rest) in
    let others = segments_after (option_copied c.next_segment.result.1) in
    let k = c.count-due.result + 1 in
    let carries = at_due all c.loop-rest.proof c.count-due.result rest c.count-due.ensures.count c.loop-rest.invariant.0 in
    let cut = ap (λ x. segments_after (option_copied x)) c.in-Some.is ∙ c.next_segment.ensures.segments in
    let ends = c.is_cut_off.ensures.0 c.if-is_cut_off.true in
    λ _. walk.wrong_blank all (line_trees c.loop-rest.proof) k rest carries c.next_segment.result.0.now others cut ends.0 ends.1

pub add-requires-clause-form : goal.add-requires-clause-form
add-requires-clause-form c =
    line_form (c.count-due.result + 1) c.next_segment.result.0.now (line_tree c.in_ok-line.line) c.in_ok-line.ensures.ok.text

pub loop-rest-preserved : goal.loop-rest-preserved
loop-rest-preserved c =
    let all = segments_after (option_copied c.args.first) in
    let rest = segments_after (option_copied c.loop-rest.rest) in
    let others = segments_after (option_copied c.next_segment.result.1) in
    let seg = c.next_segment.result.0.now in
    let ps = c.loop-rest.proof in
    let cut = ap (λ x. segments_after (option_copied x)) c.in-Some.is ∙ c.next_segment.ensures.segments in
    let reads = subst (λ x. ReadsLine (x + 1) seg (line_tree c.in_ok-line.line)) c.count-due.ensures.count c.in_ok-line.ensures.ok in
    let carries = walk.carries_push all ps rest seg others c.in_ok-line.line c.add.new.proof c.loop-rest.invariant.0 cut reads c.in_ok-add.ensures.ok in
    let count = ap length c.in_ok-add.ensures.ok ∙ length_push ps c.in_ok-line.line in
    (carries, omega (arith, reads.within, count))
