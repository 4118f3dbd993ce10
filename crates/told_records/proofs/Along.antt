-- What all requests of a session record.
use Rattle.std.proofs.Common.{ℕ, List, [], ◌∷◌}
use Rattle.policy_history.specs.declared.heads.Head.{Head}
use Rattle.policy_history.specs.Events.{EntryTree}
use Rattle.authority_ask.specs.Panels.{Told as Ask}
use Rattle.session_wire.specs.declared.requests.Request.{Request}
use Rattle.session_wire.specs.declared.replies.Reply.{Reply}
use Rattle.verdict_words.specs.declared.views.Item.{Item}
use Rattle.session_core.specs.Standing.{Standing, beginning}
use Rattle.session_core.specs.Told.{Leads}
use Rattle.told_records.specs.ToldRecords.{AreRightTurns, ToldIsRight}
use Rattle.told_records.proofs.Turns.{replies_are_right}

each_right : (h : Head) (es : List EntryTree) (s : ℕ) (before : Standing) (requests : List Request) (replies : List Reply) (asks : List Ask) (steps : List Item) (added : List EntryTree) (last : Standing)
    (led : Leads h es s before requests replies asks steps added last) → AreRightTurns h es s before requests replies asks steps added last led
each_right h es s before [] [] asks steps added last led = tt
each_right h es s before (q ∷ qs) (r ∷ rs) asks steps added last led = (replies_are_right h es s before q led.0 led.4, each_right h es s led.0.after qs rs led.1 led.2 led.3 last led.9)
each_right h es s before [] (r ∷ rs) asks steps added last led = tt
each_right h es s before (q ∷ qs) [] asks steps added last led = tt

pub told_is_right : ToldIsRight
told_is_right h es s low requests replies asks trail last told = each_right h es s (beginning told.first) requests replies asks told.steps told.added last told.leads
