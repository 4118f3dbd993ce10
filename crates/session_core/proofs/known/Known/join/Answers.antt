use Rattle.std.proofs.Common.{◌≡◌, ◌<◌, ap, arith, length, lt-ltb, sym, ◌∙◌}
use Rattle.std.proofs.lemmas.List.{length-map}
use Rattle.session_core.specs.Inner.Knowing.{joined_rows, knows_row, row_of}
use Rattle.session_core.proofs.Knowing.{joined_known, joined_more, known_where, knows_more, unknown_where}
use Rattle.session_core.proofs.known.Known.join.Goals as goal

pub returns-then-is_some-clause-known : goal.returns-then-is_some-clause-known
returns-then-is_some-clause-known c =
    sym (joined_known c.args.room.op c.args.room.object c.args.self.now.rows c.args.place (known_where c.args.room.op c.args.room.object c.args.self.now.rows (rw (← c.find.ensures, ← c.is_some.ensures) c.if-is_some.true)))

pub returns-then-is_some-clause-is_known : goal.returns-then-is_some-clause-is_known
returns-then-is_some-clause-is_known c =
    sym (known_where c.args.room.op c.args.room.object c.args.self.now.rows (rw (← c.find.ensures, ← c.is_some.ensures) c.if-is_some.true))

pub returns-in_default-clause-is_known : goal.returns-in_default-clause-is_known
returns-in_default-clause-is_known c =
    sym (unknown_where c.args.room.op c.args.room.object c.args.self.now.rows (rw (← c.find.ensures, ← c.is_some.ensures) c.if-is_some.false))

pub returns-then-len-ge-MOST_KNOWN-clause-is_known : goal.returns-then-len-ge-MOST_KNOWN-clause-is_known
returns-then-len-ge-MOST_KNOWN-clause-is_known c =
    sym (unknown_where c.args.room.op c.args.room.object c.args.self.now.rows (rw (← c.find.ensures, ← c.is_some.ensures) c.if-is_some.false))

pub returns-clause-known : goal.returns-clause-known
returns-clause-known c =
    let rows = c.args.self.now.rows in
    let unknown = unknown_where c.args.room.op c.args.room.object rows (rw (← c.find.ensures, ← c.is_some.ensures) c.if-is_some.false) in
    let count : length rows ≡ length c.self.inside.places.entries = sym (ap (λ v. length v.rows) c.self.view_is) ∙ length-map c.self.inside.places.entries (row_of c.self.inside.ops.keys c.self.inside.objects.keys) in
    let few : length rows < 4096 = omega (arith, count, c.len.ensures.len, c.if-len-ge-MOST_KNOWN.false) in
    c.add.ensures ∙ sym (joined_more c.args.room.op c.args.room.object rows c.in-Some.place unknown (lt-ltb (length rows) 4096 few)) ∙ ap (joined_rows rows c.args.room.op c.args.room.object) (sym c.in-Some.is)

pub returns-clause-is_known : goal.returns-clause-is_known
returns-clause-is_known c =
    sym (ap (λ rows. knows_row rows c.args.room.op c.args.room.object) c.add.ensures ∙ knows_more c.args.room.op c.args.room.object c.args.self.now.rows c.in-Some.place)
