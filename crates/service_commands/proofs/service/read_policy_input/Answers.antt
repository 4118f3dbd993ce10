use Rattle.service_commands.specs.Services.{IsPolicy, policy_form}
use Rattle.policy_history.specs.Values.{entry_trees}
use Rattle.run_streams.proofs.ForCallers.{too_large, wrong_given}
use Rattle.service_commands.proofs.ServiceEnds.{no_policy, policy_given, wrong_told}
use Rattle.service_commands.proofs.service.read_policy_input.Goals as goal

pub returns-in-Ok-read_policy_text-clause-ok : goal.returns-in-Ok-read_policy_text-clause-ok
returns-in-Ok-read_policy_text-clause-ok g c =
    let read = c.in-Ok.ensures.whole in
    let form : IsPolicy c.args.most c.in-Ok.text.items c.in-Ok-read_policy_text.journal.head (entry_trees c.in-Ok-read_policy_text.journal.entries) = rw c.as_slice.ensures.value at c.in-Ok-read_policy_text.ensures.ok in
    policy_given _ (g.S.Source.left c.read_whole.new.source) c.args.most _ _ c.in-Ok.text.items c.read_whole.ensures.gave.taken read.1 read.2 read.3 form

pub returns-in-Err-Wrong-clause-err : goal.returns-in-Err-Wrong-clause-err
returns-in-Err-Wrong-clause-err g c =
    let read = c.in-Ok.ensures.whole in
    let told = c.text_flaw-flaw.result in
    let is = c.in-Err-Wrong.field-0-is in
    let wrong = rw c.as_slice.ensures.value at c.in-Err-Wrong.ensures.wrong in
    let refused = rw c.as_slice.ensures.value at c.in-Err-Wrong.ensures.refused in
    let flaw = rw c.as_slice-in-Err-Wrong.ensures.value at c.text_flaw-flaw.ensures in
    rw c.wrong.ensures
    (wrong_given (policy_form c.args.most) _ (g.S.Source.left c.read_whole.new.source) c.in-Err-Wrong.line told c.in-Ok.text.items c.read_whole.ensures.gave.taken read.1 read.2 read.3 read.0
    (wrong_told c.args.most c.in-Ok.text.items _ c.in-Err-Wrong.line told is wrong flaw) (no_policy c.args.most c.in-Ok.text.items _ c.in-Err-Wrong.line is refused))

pub returns-in-Err-TooLarge-clause-err : goal.returns-in-Err-TooLarge-clause-err
returns-in-Err-TooLarge-clause-err g c = too_large _ (g.S.Source.left c.read_whole.new.source) c.read_whole.ensures.gave.taken (c.read_whole.ensures.large (rw c.in-Err-TooLarge.field-0-is at c.in-Err-TooLarge.is))
