use Rattle.std.proofs.Common.{◌≡◌, List, take, sym, ◌∙◌, subst}
use Rattle.std.proofs.lemmas.List.{length-map}
use Rattle.nal_rules.specs.Asking.{case_tree}
use Rattle.nal_rules.specs.Verdicts.{IsVerdict}
use Rattle.policy_history.specs.declared.events.Entry.{Entry}
use Rattle.policy_history.specs.Events.{entry_tree}
use Rattle.policy_history.specs.Judged.{IsLasting}
use Rattle.policy_history.specs.Values.{entry_trees}
use Rattle.verdict_words.proofs.ForCallers.{take_whole}
use Rattle.policy_book.specs.Matter.{IsHeldRight}
use Rattle.policy_book.proofs.ForCallers.{held_right, lasts_where}
use Rattle.book_rows.proofs.Findings.{nothing_asked}
use Rattle.book_rows.proofs.calls.keep.Goals as goal

pub fill-requires-clause-right : goal.fill-requires-clause-right
fill-requires-clause-right c =
    let snap = c.requires.snapped in
    let told = c.requires.judged in
    let seen = c.args.pass.now.seen in
    let setting = c.args.board.now.origin.setting in
    let verdict = c.in-Some.verdict in
    let held = c.in-Some-held_of.held in
    let stands = c.in-Some-held_of.ensures.held.0 in
    let lasting : IsLasting (case_tree c.args.case.now) verdict = lasts_where (case_tree c.args.case.now) verdict held stands
    (nothing_asked (case_tree c.args.case.now) c.args.finding.now verdict c.in-Some.ensures.0 c.in-Some.ensures.1 c.requires.count) in
    let is : IsVerdict (case_tree c.args.case.now) told.0 verdict = rw c.in-Some.ensures.0 told.1 in
    let right = held_right setting (entry_trees seen) snap.0 snap.2 snap.3 c.args.at c.args.case.now c.args.place.now snap.1 snap.4 told.0 verdict held is lasting stands in
    let whole : take c.args.at seen ≡ seen = take_whole seen c.args.at (snap.4.at_is ∙ length-map seen entry_tree) in
    subst (λ (es : List Entry). IsHeldRight setting (entry_trees es) c.args.place.now.case held) (sym whole) right
