use Rattle.std.proofs.Common.{◌≡◌, ◌≤◌, ◌+◌, ◌-◌, ◌^◌, ℕ, length, min, ap, ◌∙◌, arith}
use Rattle.policy_history.specs.declared.events.Refusal.TheVariants.{Quota, JournalFull}
use Rattle.policy_history.specs.Events.{event_tree, name_of}
use Rattle.policy_history.specs.PolicyLines.{entry_line}
use Rattle.policy_history.specs.States.{State, tally_of}
use Rattle.policy_history.specs.Machine.{changed, counted}
use Rattle.policy_history.specs.Tables.{state_of}
use Rattle.policy_history.proofs.Acceptance.{changed_bytes, changed_tallies, line_fits, line_unspent}
use Rattle.policy_history.proofs.tables.Policy.apply.Goals as goal

-- a short line's length is told as it is
told : (n m b : ℕ) → m ≡ min n (2 ^ 64 - 1) → b + n ≤ 524288 → m ≡ n
told n m b e short = omega (arith, e, short)

pub returns-clause-bytes : goal.returns-clause-bytes
returns-clause-bytes c =
    let s = state_of c.args.self.now in
    let e = event_tree c.args.event.now in
    let free = line_unspent c.args.head.now s c.args.session c.args.caller e (c.requires.accepted Quota) in
    told (length (entry_line c.args.session (name_of c.args.head.now.principals c.args.caller) e)) c.line_length-bytes.result (tally_of s c.args.caller).bytes (rw c.name.ensures at c.line_length-bytes.ensures) free.1

pub count-requires-clause-within : goal.count-requires-clause-within
count-requires-clause-within c =
    let s = state_of c.args.self.now in
    let e = event_tree c.args.event.now in
    let same = ap (λ (t : State). t.tallies) c.change.ensures.state ∙ changed_tallies c.args.head.now s c.args.caller e in
    let free = line_unspent c.args.head.now s c.args.session c.args.caller e (c.requires.accepted Quota) in
    rw same free.0

pub count-requires-clause-bytes : goal.count-requires-clause-bytes
count-requires-clause-bytes c =
    let s = state_of c.args.self.now in
    let e = event_tree c.args.event.now in
    let same = ap (λ (t : State). t.tallies) c.change.ensures.state ∙ changed_tallies c.args.head.now s c.args.caller e in
    let free = line_unspent c.args.head.now s c.args.session c.args.caller e (c.requires.accepted Quota) in
    let length_is = told (length (entry_line c.args.session (name_of c.args.head.now.principals c.args.caller) e)) c.line_length-bytes.result (tally_of s c.args.caller).bytes (rw c.name.ensures at c.line_length-bytes.ensures) free.1 in
    rw (same, length_is) free.1

pub count-requires-clause-whole : goal.count-requires-clause-whole
count-requires-clause-whole c =
    let s = state_of c.args.self.now in
    let e = event_tree c.args.event.now in
    let same = ap (λ (t : State). t.bytes) c.change.ensures.state ∙ changed_bytes c.args.head.now s c.args.caller e in
    let fits = line_fits c.args.head.now s c.args.session c.args.caller e (c.requires.accepted JournalFull) in
    let free = line_unspent c.args.head.now s c.args.session c.args.caller e (c.requires.accepted Quota) in
    let length_is = told (length (entry_line c.args.session (name_of c.args.head.now.principals c.args.caller) e)) c.line_length-bytes.result (tally_of s c.args.caller).bytes (rw c.name.ensures at c.line_length-bytes.ensures) free.1 in
    rw (same, length_is) fits.1

pub returns-clause-state : goal.returns-clause-state
returns-clause-state c =
    let s = state_of c.args.self.now in
    let e = event_tree c.args.event.now in
    let free = line_unspent c.args.head.now s c.args.session c.args.caller e (c.requires.accepted Quota) in
    let length_is = told (length (entry_line c.args.session (name_of c.args.head.now.principals c.args.caller) e)) c.line_length-bytes.result (tally_of s c.args.caller).bytes (rw c.name.ensures at c.line_length-bytes.ensures) free.1 in
    c.count.ensures.state ∙ ap (λ (t : State). counted t c.args.caller c.line_length-bytes.result) c.change.ensures.state ∙ ap (λ n. counted (changed c.args.head.now s c.args.caller e) c.args.caller n) length_is
