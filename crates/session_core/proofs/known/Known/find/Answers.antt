use Rattle.std.proofs.Common.{sym, ◌∙◌}
use Rattle.session_core.proofs.Knowing.{place_of_key, unknown_object, unknown_op}
use Rattle.session_core.proofs.known.Known.find.Goals as goal

pub returns-in_err-op : goal.returns-in_err-op
returns-in_err-op c =
    let held = c.self.invariant.0 in
    let none = sym c.get_index_of.ensures.index ∙ c.in_err-op.was in
    rw (← c.self.view_is) (c.from_residual.ensures ∙ sym (unknown_op c.self.inside.ops.keys c.self.inside.objects.keys c.self.inside.places.entries held c.args.op.now c.args.object.now none))

pub returns-in_err-object : goal.returns-in_err-object
returns-in_err-object c =
    let held = c.self.invariant.0 in
    let none = sym c.get_index_of-2.ensures.index ∙ c.in_err-object.was in
    rw (← c.self.view_is) (c.from_residual-in_err-object.ensures ∙ sym (unknown_object c.self.inside.ops.keys c.self.inside.objects.keys c.self.inside.places.entries held c.args.op.now c.args.object.now none))

pub returns : goal.returns
returns c =
    let held = c.self.invariant.0 in
    let op_at = sym c.get_index_of.ensures.index ∙ c.in_ok-op.was in
    let object_at = sym c.get_index_of-2.ensures.index ∙ c.in_ok-object.was in
    let found = place_of_key c.self.inside.ops.keys c.self.inside.objects.keys c.self.inside.places.entries held c.args.op.now c.args.object.now c.in_ok-op.op c.in_ok-object.object op_at object_at in
    rw (← c.self.view_is) (c.copied.ensures ∙ c.get.ensures.value ∙ sym found)
