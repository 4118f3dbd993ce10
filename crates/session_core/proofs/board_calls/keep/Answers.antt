use Rattle.std.proofs.Common.{sym, subst}
use Rattle.nal_rules.specs.Asking.{case_tree}
use Rattle.nal_rules.specs.declared.verdicts.Verdict.{Verdict}
use Rattle.policy_history.specs.Values.{entry_trees}
use Rattle.guard_core.specs.Judging.{verdict_of}
use Rattle.verdict_words.proofs.ForCallers.{step_grows, take_whole}
use Rattle.policy_book.proofs.ForCallers.{lasts_where}
use Rattle.policy_book.specs.Matter.{IsHeldRight, StandsFor}
use Rattle.session_core.proofs.Boarding.{kept_so, unkept_asked, unkept_none, unkept_unknown}
use Rattle.session_core.proofs.board_calls.keep.Goals as goal

pub returns-then-not-is_known : goal.returns-then-not-is_known
returns-then-not-is_known c = unkept_unknown _ c.args.pass.now _ _ _ _ _ c.if-not-is_known.true

pub returns-then-has_asked : goal.returns-then-has_asked
returns-then-has_asked c = unkept_asked _ c.args.pass.now _ _ _ _ _ (c.has_asked.ensures.asked (case_tree c.args.taken.now.case) c.requires.count c.if-has_asked.true)

pub fill-requires-clause-right : goal.fill-requires-clause-right
fill-requires-clause-right c =
    let stands : StandsFor (verdict_of c.args.finding.now) c.in-Some-held_of.held = subst (λ (v : Verdict). StandsFor v c.in-Some-held_of.held) c.verdict_of.ensures c.in-Some-held_of.ensures.held.0 in
    let lasting = lasts_where (case_tree c.args.taken.now.case) (verdict_of c.args.finding.now) c.in-Some-held_of.held stands (c.has_asked.ensures.unasked (case_tree c.args.taken.now.case) c.requires.count c.if-has_asked.false) in
    subst (λ es. IsHeldRight c.args.board.now.origin.setting (entry_trees es) c.in-Some.place.case c.in-Some-held_of.held)
    (sym (take_whole c.args.pass.now.seen c.args.taken.now.at c.requires.at))
    (c.requires.right c.in-Some.place c.in-Some-held_of.held c.in-Some.is stands lasting)

pub returns-in-Some-held_of : goal.returns-in-Some-held_of
returns-in-Some-held_of c =
    let stands : StandsFor (verdict_of c.args.finding.now) c.in-Some-held_of.held = subst (λ (v : Verdict). StandsFor v c.in-Some-held_of.held) c.verdict_of.ensures c.in-Some-held_of.ensures.held.0 in
    let lasting = lasts_where (case_tree c.args.taken.now.case) (verdict_of c.args.finding.now) c.in-Some-held_of.held stands (c.has_asked.ensures.unasked (case_tree c.args.taken.now.case) c.requires.count c.if-has_asked.false) in
    kept_so _ _ _ _ _ _ _ c.in-Some.place c.in-Some-held_of.held c.if-not-is_known.false c.in-Some.is lasting stands c.fill.ensures.pass (step_grows _ _ _ c.fill.ensures.step.1)

pub returns-in_default-held_of : goal.returns-in_default-held_of
returns-in_default-held_of c =
    unkept_none _ c.args.pass.now _ _ _ _ _ (λ held. subst (λ (v : Verdict). ¬ StandsFor v held) c.verdict_of.ensures (c.in_default-held_of.ensures.none held))
