use Rattle.std.proofs.Common.{◌+◌, List, [], Some, None, length, refl, sym, ap, subst, ◌∙◌, arith, ℕ}
use Rattle.std.proofs.lemmas.List.{length-append}
use Rattle.nx_io.specs.Streams.{gained}
use Rattle.nx_io.proofs.ForCallers.{gave-nothing}
use Rattle.session_wire.specs.Beginnings.{Spells}
use Rattle.session_wire.proofs.ForCallers.{spells_none}
use Rattle.session_core.proofs.ForCallers.{gave-on}
use Rattle.session_core.proofs.Sittings.{last_sat, no_last_sat, sat}
use Rattle.session_core.proofs.sitting.serve_sitting.Goals as goal

pub loop-init : goal.loop-init
loop-init g c = record {
  ready = c.requires.ready;
  serving = record {
    requests = [];
    replies = [];
    spelled = subst (λ (xs : List ℕ). Spells xs [] []) (sym c.requires.taken) (spells_none []);
    many = refl;
    sent_is = c.requires.sent;
    told = c.requires.told;
  };
  reader = rw c.requires.taken c.requires.reader;
  few = omega (arith, c.requires.reader);
  bytes = gave-nothing _ _;
  over = c.requires.over;
  is_open = c.requires.is_open;
  origin = record { place_is = refl; toward_is = refl };
  admitted = c.requires.admitted;
  link = refl;
}

pub serve_framed-next-requires-clause-is_open : goal.serve_framed-next-requires-clause-is_open
serve_framed-next-requires-clause-is_open g c = c.next-framed.ensures.going.closed_is ∙ c.loop.invariant.is_open

pub serve_framed-next-requires-clause-admitted : goal.serve_framed-next-requires-clause-admitted
serve_framed-next-requires-clause-admitted g c = c.next-framed.ensures.admitted ∙ c.loop.invariant.admitted

pub returns-in-Some-clause-served : goal.returns-in-Some-clause-served
returns-in-Some-clause-served g c =
    let inv = c.loop.invariant in
    let turn = rw (c.in-Some.is, c.next-framed.ensures.going.sent_is) at c.serve_framed-next.ensures.turn c.args.sitting c.args.book.now c.args.panel.now in
    let frame = rw inv.reader at c.next-framed.ensures.front in
    rw c.serve_framed-next.ensures.coming.taken_is
    (sat c.next-framed.result (g.S.Sitting.told c.args.sitting c.args.book.now c.args.panel.now c.loop.sitting c.loop.book c.loop.panel) (g.S.Sitting.told c.args.sitting c.args.book.now c.args.panel.now c.serve_framed-next.result.0 c.serve_framed-next.new.book c.serve_framed-next.new.panel) c.loop.counter
    (g.L.Link.taken c.loop.link) (g.L.Link.taken c.next-framed.new.link) (g.L.Link.sent c.loop.link) (g.L.Link.sent c.serve_framed-next.new.link) (Some c.in-Some.end)
    inv.serving (omega arith) turn c.next-framed.ensures.bytes.grows frame)

pub returns-in-Some-clause-bytes : goal.returns-in-Some-clause-bytes
returns-in-Some-clause-bytes g c =
    rw (c.serve_framed-next.ensures.coming.left_is, c.serve_framed-next.ensures.coming.taken_is) (gave-on _ _ _ _ _ _ c.loop.invariant.bytes c.next-framed.ensures.bytes)

pub returns-in-Some-clause-over : goal.returns-in-Some-clause-over
returns-in-Some-clause-over g c =
    let over = rw c.loop.invariant.over at c.next-framed.ensures.over in
    let turn = rw c.in-Some.is at c.serve_framed-next.ensures.turn c.args.sitting c.args.book.now c.args.panel.now in
    c.serve_framed-next.ensures.coming.over_is ∙ over
    ∙ (last_sat c.next-framed.result (g.S.Sitting.told c.args.sitting c.args.book.now c.args.panel.now c.loop.sitting c.loop.book c.loop.panel) (g.S.Sitting.told c.args.sitting c.args.book.now c.args.panel.now c.serve_framed-next.result.0 c.serve_framed-next.new.book c.serve_framed-next.new.panel) c.in-Some.end _ _
    (g.L.Link.sent c.next-framed.new.link) (g.L.Link.sent c.serve_framed-next.new.link) 0 turn c.next-framed.ensures.front).0

pub returns-in-Some-clause-link_count : goal.returns-in-Some-clause-link_count
returns-in-Some-clause-link_count g c =
    let count = rw (c.in-Some.is, c.next-framed.ensures.count, c.loop.invariant.link) at c.serve_framed-next.ensures.link_count in
    let turn = rw c.in-Some.is at c.serve_framed-next.ensures.turn c.args.sitting c.args.book.now c.args.panel.now in
    count
    ∙ (last_sat c.next-framed.result (g.S.Sitting.told c.args.sitting c.args.book.now c.args.panel.now c.loop.sitting c.loop.book c.loop.panel) (g.S.Sitting.told c.args.sitting c.args.book.now c.args.panel.now c.serve_framed-next.result.0 c.serve_framed-next.new.book c.serve_framed-next.new.panel) c.in-Some.end _ _
    (g.L.Link.sent c.next-framed.new.link) (g.L.Link.sent c.serve_framed-next.new.link) (g.L.Link.faults c.args.link.now) turn c.next-framed.ensures.front).1

pub loop-preserved : goal.loop-preserved
loop-preserved g c =
    let inv = c.loop.invariant in
    let turn = rw (c.in-None.is, c.next-framed.ensures.going.sent_is) at c.serve_framed-next.ensures.turn c.args.sitting c.args.book.now c.args.panel.now in
    let frame = rw inv.reader at c.next-framed.ensures.front in
    let over = rw inv.over at c.next-framed.ensures.over in
    let count = rw (c.in-None.is, c.next-framed.ensures.count, inv.link) at c.serve_framed-next.ensures.link_count in
    let Told = g.S.Sitting.told c.args.sitting c.args.book.now c.args.panel.now c.loop.sitting c.loop.book c.loop.panel in
    let Now = g.S.Sitting.told c.args.sitting c.args.book.now c.args.panel.now c.serve_framed-next.result.0 c.serve_framed-next.new.book c.serve_framed-next.new.panel in
    let kept = no_last_sat c.next-framed.result Told Now (gained (g.L.Link.taken c.loop.link) (g.L.Link.taken c.next-framed.new.link)) _ _ (g.L.Link.faults c.args.link.now) turn in
    record {
      ready = c.serve_framed-next.ensures.ready;
      serving = rw c.serve_framed-next.ensures.coming.taken_is
          (sat c.next-framed.result Told Now c.loop.counter (g.L.Link.taken c.loop.link) (g.L.Link.taken c.next-framed.new.link) (g.L.Link.sent c.loop.link)
          (g.L.Link.sent c.serve_framed-next.new.link) None inv.serving (omega arith) turn c.next-framed.ensures.bytes.grows frame);
      reader = rw c.serve_framed-next.ensures.coming.taken_is (c.next-framed.ensures.size ∙ ap (λ (n : ℕ). n + length (gained (g.L.Link.taken c.loop.link) (g.L.Link.taken c.next-framed.new.link))) inv.reader
          ∙ sym (length-append (g.L.Link.taken c.loop.link) (gained (g.L.Link.taken c.loop.link) (g.L.Link.taken c.next-framed.new.link))) ∙ ap (λ (xs : List ℕ). length xs) (sym c.next-framed.ensures.bytes.grows));
      few = omega (arith, inv.few, c.next-framed.ensures.few);
      bytes = rw (c.serve_framed-next.ensures.coming.left_is, c.serve_framed-next.ensures.coming.taken_is) (gave-on _ _ _ _ _ _ inv.bytes c.next-framed.ensures.bytes);
      over = c.serve_framed-next.ensures.coming.over_is ∙ over ∙ kept.0;
      is_open = c.serve_framed-next.ensures.is_open;
      origin = record {
        place_is = c.serve_framed-next.ensures.origin.place_is ∙ c.next-framed.ensures.origin.place_is ∙ inv.origin.place_is;
        toward_is = c.serve_framed-next.ensures.origin.toward_is ∙ c.next-framed.ensures.origin.toward_is ∙ inv.origin.toward_is;
      };
      admitted = c.serve_framed-next.ensures.admitted;
      link = count ∙ kept.1;
    }
