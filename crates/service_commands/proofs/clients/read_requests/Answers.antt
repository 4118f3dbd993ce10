use Rattle.nexus_client.specs.TalkInputs.{AreFramesOf}
use Rattle.service_commands.specs.Clients.{requests_form}
use Rattle.service_commands.proofs.ClientEnds.{no_requests, requests_given, wrong_told}
use Rattle.run_streams.proofs.ForCallers.{too_large, wrong_given}
use Rattle.service_commands.proofs.clients.read_requests.Goals as goal

pub returns-in-Ok-read_input-clause-ok : goal.returns-in-Ok-read_input-clause-ok
returns-in-Ok-read_input-clause-ok g c =
    let read = c.in-Ok.ensures.whole in
    let form : AreFramesOf c.args.form c.in-Ok.text.items c.in-Ok-read_input.requests = rw c.as_slice.ensures.value at c.in-Ok-read_input.ensures.ok in
    requests_given c.args.form _ (g.S.Source.left c.read_whole.new.source) _ c.in-Ok.text.items c.read_whole.ensures.gave.taken read.1 read.2 read.3 read.0 form

pub returns-in-Err-Wrong-clause-err : goal.returns-in-Err-Wrong-clause-err
returns-in-Err-Wrong-clause-err g c =
    let read = c.in-Ok.ensures.whole in
    let told = c.requests_flaw-flaw.result in
    let is = c.in-Err-Wrong.field-0-is in
    let wrong = rw c.as_slice.ensures.value at c.in-Err-Wrong.ensures.wrong in
    let refused = rw c.as_slice.ensures.value at c.in-Err-Wrong.ensures.refused in
    let flaw = rw c.as_slice-in-Err-Wrong.ensures.value at c.requests_flaw-flaw.ensures in
    rw c.wrong.ensures
    (wrong_given (requests_form c.args.form) _ (g.S.Source.left c.read_whole.new.source) c.in-Err-Wrong.line told c.in-Ok.text.items c.read_whole.ensures.gave.taken read.1 read.2 read.3 read.0
    (wrong_told c.args.form c.in-Ok.text.items _ c.in-Err-Wrong.line told is wrong flaw) (no_requests c.args.form c.in-Ok.text.items _ c.in-Err-Wrong.line is refused))

pub returns-in-Err-TooLarge-clause-err : goal.returns-in-Err-TooLarge-clause-err
returns-in-Err-TooLarge-clause-err g c = too_large _ (g.S.Source.left c.read_whole.new.source) c.read_whole.ensures.gave.taken (c.read_whole.ensures.large (rw c.in-Err-TooLarge.field-0-is at c.in-Err-TooLarge.is))
