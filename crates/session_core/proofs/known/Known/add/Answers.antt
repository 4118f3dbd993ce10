use Rattle.std.proofs.Common.{◌≡◌, ◌<◌, None, arith, length}
use Rattle.std.specs.List.{list_any}
use Rattle.std.proofs.lemmas.List.{length-map}
use Rattle.indexmap.specs.IndexMap.{insert_entry}
use Rattle.nal_term.specs.TreeKeys.{same_bytes}
use Rattle.session_core.specs.Standing.{most_known}
use Rattle.session_core.specs.Inner.Knowing.{place_among, row_of}
use Rattle.session_core.proofs.Knowing.{IsPut, few_more, held_more, is_put, rows_in, rows_more, same_key}
use Rattle.session_core.proofs.known.Known.add.Goals as goal
use Rattle.session_core.proofs.known.Known.add.Goals.{After-unwrap}

op_put : (c : After-unwrap) → IsPut c.self.inside.ops.keys c.insert_full.new.self.keys c.args.room.op c.unwrap-op.result.0
op_put c =
    let placed = c.unwrap-op.ensures in
    let put = c.insert_full.ensures in
    let keys = rw placed at put.keys in
    let stored = rw placed at put.stored in
    is_put c.self.inside.ops.keys c.insert_full.new.self.keys (list_any (same_bytes c.args.room.op) c.self.inside.ops.keys) c.args.room.op c.unwrap-op.result.0 keys put.unique stored

object_put : (c : After-unwrap) → IsPut c.self.inside.objects.keys c.insert_full-2.new.self.keys c.args.room.object c.unwrap-object.result.0
object_put c =
    let placed = c.unwrap-object.ensures in
    let put = c.insert_full-2.ensures in
    let keys = rw placed at put.keys in
    let stored = rw placed at put.stored in
    is_put c.self.inside.objects.keys c.insert_full-2.new.self.keys (list_any (same_bytes c.args.room.object) c.self.inside.objects.keys) c.args.room.object c.unwrap-object.result.0 keys put.unique stored

entries_are : (c : After-unwrap) → c.insert.new.self.entries ≡ insert_entry same_key c.self.inside.places.entries (c.unwrap-op.result.0, c.unwrap-object.result.0) c.args.place
entries_are c =
    let added = c.unwrap.ensures in
    let entries = c.insert.ensures.entries in
    rw added at entries

unknown : (c : After-unwrap) → place_among (rows_in c.self.inside.ops.keys c.self.inside.objects.keys c.self.inside.places.entries) c.args.room.op c.args.room.object ≡ None
unknown c = rw (← c.self.view_is) at c.requires.unknown

few : (c : After-unwrap) → length c.self.inside.places.entries < most_known
few c =
    let fewer = rw (← c.self.view_is) at c.requires.few in
    omega (arith, fewer, length-map c.self.inside.places.entries (row_of c.self.inside.ops.keys c.self.inside.objects.keys))

pub returns : goal.returns
returns c =
    rw (← c.self.view_is)
    (rows_more c.self.inside.ops.keys c.self.inside.objects.keys c.insert_full.new.self.keys c.insert_full-2.new.self.keys c.args.room.op c.args.room.object c.unwrap-op.result.0 c.unwrap-object.result.0 (op_put c) (object_put c)
    c.self.inside.places.entries c.self.invariant.0 c.args.place (unknown c) c.insert.new.self.entries (entries_are c))

pub invariant_of-self : goal.invariant_of-self
invariant_of-self c = (
  held_more c.self.inside.ops.keys c.self.inside.objects.keys c.insert_full.new.self.keys c.insert_full-2.new.self.keys c.args.room.op c.args.room.object c.unwrap-op.result.0 c.unwrap-object.result.0 (op_put c) (object_put c)
      c.self.inside.places.entries c.self.invariant.0 c.args.place (unknown c) c.insert.new.self.entries (entries_are c),
  few_more c.self.inside.ops.keys c.self.inside.objects.keys c.insert_full.new.self.keys c.insert_full-2.new.self.keys c.args.room.op c.args.room.object c.unwrap-op.result.0 c.unwrap-object.result.0 (op_put c) (object_put c)
      c.self.inside.places.entries c.self.invariant.0 c.args.place (unknown c) c.insert.new.self.entries (entries_are c) (few c),
)
