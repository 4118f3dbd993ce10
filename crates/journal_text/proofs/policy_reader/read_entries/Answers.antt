use Rattle.std.proofs.Common.{◌≡◌, ◌+◌, ◌≤◌, ◌<◌, ◌∙◌, codes, refl, sym, inl, inr, arith}
use Rattle.std.proofs.lemmas.List.Elements.{All-nil}
use Rattle.policy_history.specs.Events.{EntryTree}
use Rattle.policy_history.specs.Values.{entry_trees, greatest_of}
use Rattle.text_lines.specs.Lines.{first_line}
use Rattle.journal_text.specs.PolicyText.{here}
use Rattle.journal_text.proofs.PolicyReading.{above_entry, added_here, all_read, bad_here, below_entry, empty_of, entry_bad, entry_leads, entry_past, last_read, refused_here, some_length, some_of, wrong_entry, wrong_line}
use Rattle.journal_text.proofs.policy_reader.read_entries.Goals as goal

pub loop-alloc-init : goal.loop-alloc-init
loop-alloc-init c = record {
  head = refl;
  led = (0, omega arith, rw c.requires.empty here);
  below = rw c.requires.empty (All-nil (λ (e : EntryTree). e.session ≤ c.args.most_session));
  past = λ none. c.requires.past;
  fewer = omega arith;
}

pub returns-clause-ok : goal.returns-clause-ok
returns-clause-ok c =
    let inv = c.loop-alloc.invariant in
    all_read c.args.most_session c.args.before _ c.loop-alloc.journal.head inv.head inv.led.1 inv.led.2 inv.below (empty_of c.loop-alloc.rest.now (sym c.loop-alloc-test.ensures))

pub returns-then-is_end-clause-ok : goal.returns-then-is_end-clause-ok
returns-then-is_end-clause-ok c =
    let inv = c.loop-alloc.invariant in
    let is = (rw c.first_line.ensures.line at c.if-is_end.ensures).0 refl in
    last_read c.args.most_session c.args.before _ c.loop-alloc.journal.head c.first_line.result.1.now inv.head inv.led.1 inv.led.2 inv.below (some_of c.loop-alloc.rest.now (sym c.loop-alloc-test.ensures)) is
    c.first_line.ensures.rest

pub returns-then-greatest_session-most_session-clause-err : goal.returns-then-greatest_session-most_session-clause-err
returns-then-greatest_session-most_session-clause-err c =
    let inv = c.loop-alloc.invariant in
    let some = some_of c.loop-alloc.rest.now (sym c.loop-alloc-test.ensures) in
    let added = added_here c.args.journal.now.head c.loop-alloc.journal c.add_entry.new.journal c.first_line.result.0.now (first_line c.loop-alloc.rest.now) inv.head c.first_line.ensures.line
    (c.in-Ok.ensures.ok refl) in
    let above : c.args.most_session < greatest_of (entry_trees c.add_entry.new.journal.entries) = omega (arith, c.greatest_session.ensures) in
    (inv.led.0 + 1, omega (arith, inv.led.1), inr (above_entry c.args.most_session inv.led.2 inv.below some added above))

pub loop-alloc-preserved : goal.loop-alloc-preserved
loop-alloc-preserved c =
    let inv = c.loop-alloc.invariant in
    let some = some_of c.loop-alloc.rest.now (sym c.loop-alloc-test.ensures) in
    let shorter = c.first_line.ensures.shorter (some_length c.loop-alloc.rest.now some) in
    let added = added_here c.args.journal.now.head c.loop-alloc.journal c.add_entry.new.journal c.first_line.result.0.now (first_line c.loop-alloc.rest.now) inv.head c.first_line.ensures.line
    (c.in-Ok.ensures.ok refl) in
    let bound : greatest_of (entry_trees c.add_entry.new.journal.entries) ≤ c.args.most_session = omega (arith, c.greatest_session.ensures) in
    record {
      head = c.in-Ok.ensures.head ∙ inv.head;
      led = (inv.led.0 + 1, omega (arith, inv.led.1), entry_leads (entry_trees c.add_entry.new.journal.entries) c.first_line.result.1.now inv.led.2 some added c.first_line.ensures.rest);
      below = below_entry c.args.most_session added bound;
      past = entry_past (first_line c.first_line.result.1.now) added;
      fewer = omega (arith, shorter, inv.fewer);
    }

pub returns-in-Err-Bad-clause-err : goal.returns-in-Err-Bad-clause-err
returns-in-Err-Bad-clause-err c =
    let inv = c.loop-alloc.invariant in
    let end_test = rw c.first_line.ensures.line at c.if-is_end.ensures in
    let not_end : first_line c.loop-alloc.rest.now ≡ codes "end" → ⊥ = λ e. let t = end_test.1 e in absurd (cc) in
    let some = some_of c.loop-alloc.rest.now (sym c.loop-alloc-test.ensures) in
    let none = bad_here c.args.journal.now.head c.loop-alloc.journal.head c.first_line.result.0.now (first_line c.loop-alloc.rest.now) inv.head c.first_line.ensures.line
    ((rw c.in-Err-Bad.field-0-is at c.in-Err-Bad.ensures.bad) refl) in
    (inv.led.0 + 1, omega (arith, inv.led.1), inl (wrong_line c.args.most_session inv.led.2 inv.below some (entry_bad inv.past none not_end) none))

pub returns-in-Err-Refused-clause-err : goal.returns-in-Err-Refused-clause-err
returns-in-Err-Refused-clause-err c =
    let inv = c.loop-alloc.invariant in
    let r = c.in-Err-Refused.refusal in
    let some = some_of c.loop-alloc.rest.now (sym c.loop-alloc-test.ensures) in
    let not_accepted = refused_here c.args.journal.now.head c.loop-alloc.journal c.first_line.result.0.now (first_line c.loop-alloc.rest.now) r inv.head c.first_line.ensures.line
    ((rw c.in-Err-Refused.field-0-is at c.in-Err-Refused.ensures.refused) r refl) in (
      r,
      rw c.in-Err-Refused.field-0-is at c.refusal_number.ensures,
      inv.led.0 + 1,
      omega (arith, inv.led.1),
      wrong_entry c.args.most_session not_accepted.entry_is r inv.led.2 inv.below some not_accepted.read not_accepted.refused,
    )
