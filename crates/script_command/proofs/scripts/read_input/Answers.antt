use Rattle.policy_script.specs.ScriptForm.{IsScript, ScriptTree, most_session}
use Rattle.policy_script.specs.Inner.Reading.{IsWrongInput, script_tree}
use Rattle.policy_script.specs.declared.input.ScriptError.TheVariants.{Memory}
use Rattle.std.proofs.Common.{◌≢◌, IfOk}
use Rattle.input_flaws.specs.PolicyFlaws.{IsFrontFlaw}
use Rattle.run_streams.specs.Flaws.{flaw_tree}
use Rattle.run_streams.proofs.ForCallers.{too_large, wrong_given}
use Rattle.script_command.specs.Scripts.{script_form}
use Rattle.script_command.proofs.ScriptEnds.{not_formed, places, script_given, wrong_told}
use Rattle.script_command.proofs.scripts.read_input.Goals as goal

pub returns-in-Ok-read_script-clause-ok : goal.returns-in-Ok-read_script-clause-ok
returns-in-Ok-read_script-clause-ok g c =
    let read = c.in-Ok.ensures.whole in
    let form : IsScript c.in-Ok.text.items (script_tree c.in-Ok-read_script.script) = rw c.as_slice.ensures.value at c.in-Ok-read_script.ensures.ok in
    script_given _ (g.S.Source.left c.read_whole.new.source) _ c.in-Ok.text.items c.read_whole.ensures.gave.taken read.1 read.2 read.3 form

pub returns-in-Ok-read_script-clause-places : goal.returns-in-Ok-read_script-clause-places
returns-in-Ok-read_script-clause-places g c = places c.in-Ok-read_script.ensures.ok.1.4

pub returns-in-Err-Wrong-clause-err : goal.returns-in-Err-Wrong-clause-err
returns-in-Err-Wrong-clause-err g c =
    let read = c.in-Ok.ensures.whole in
    let text = c.in-Ok.text.items in
    let line = c.in-Err-Wrong.line in
    let error = c.in-Err-Wrong.field-0 in
    let told = c.script_flaw-flaw.result in
    let wrong : IsWrongInput text error = rw c.as_slice.ensures.value at c.in-Err-Wrong.ensures.wrong in
    let refused : error ≢ Memory → (script : ScriptTree) → ¬ IsScript text script = rw c.as_slice.ensures.value at c.in-Err-Wrong.ensures.refused in
    let flaw : IfOk told (λ flaw. IsFrontFlaw most_session text text line (flaw_tree flaw)) = rw c.as_slice-in-Err-Wrong.ensures.value at c.script_flaw-flaw.ensures in
    rw c.wrong.ensures
    (wrong_given script_form _ (g.S.Source.left c.read_whole.new.source) line told text c.read_whole.ensures.gave.taken read.1 read.2 read.3 read.0
    (wrong_told text error line told c.in-Err-Wrong.field-0-is wrong flaw) (not_formed text error line c.in-Err-Wrong.field-0-is refused))

pub returns-in-Err-TooLarge-clause-err : goal.returns-in-Err-TooLarge-clause-err
returns-in-Err-TooLarge-clause-err g c = too_large _ (g.S.Source.left c.read_whole.new.source) c.read_whole.ensures.gave.taken (c.read_whole.ensures.large (rw c.in-Err-TooLarge.field-0-is at c.in-Err-TooLarge.is))
