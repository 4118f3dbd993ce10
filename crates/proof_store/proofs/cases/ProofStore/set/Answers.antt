use Rattle.std.proofs.Common.{◌≡◌, sym, None, subst, ◌<◌, length}
use Rattle.std.specs.List.{list_any}
use Rattle.nal_term.specs.TreeKeys.{same_bytes}
use Rattle.proof_store.specs.Cases.{rows, number_of}
use Rattle.proof_store.proofs.HeldCases.{set_known, set_fresh, set_held}
use Rattle.proof_store.proofs.cases.ProofStore.set.Goals as goal

pub invariant_of-self : goal.invariant_of-self
invariant_of-self c =
    let placed = c.unwrap-place.ensures in
    let ops = c.insert_full.ensures in
    let keys = rw placed at ops.keys in
    let stored = rw placed at ops.stored in
    let number = c.unwrap-number.ensures in
    let cases = c.insert_full-2.ensures in
    let entries = rw number at cases.entries in
    let index = rw number at cases.index in
    let room = subst (λ s. number_of (rows s) c.args.subject c.args.op c.args.object ≡ None → length (rows s) < 262144) (sym c.self.view_is) c.requires.bound in
    set_held c.self.inside.ops.keys c.insert_full.new.self.keys (list_any (same_bytes c.args.op) c.self.inside.ops.keys) c.args.op keys ops.unique
    c.self.inside.cases.entries c.self.invariant.places c.args.subject c.args.object c.unwrap-place.result.0 stored c.args.proof
    c.insert_full-2.new.self.entries c.unwrap-number.result.0 entries index room c.self.invariant.bound

pub returns-clause-known : goal.returns-clause-known
returns-clause-known c =
    let placed = c.unwrap-place.ensures in
    let ops = c.insert_full.ensures in
    let keys = rw placed at ops.keys in
    let stored = rw placed at ops.stored in
    let number = c.unwrap-number.ensures in
    let cases = c.insert_full-2.ensures in
    let entries = rw number at cases.entries in
    let index = rw number at cases.index in
    rw (← c.self.view_is)
    (set_known c.self.inside.ops.keys c.insert_full.new.self.keys (list_any (same_bytes c.args.op) c.self.inside.ops.keys) c.args.op keys ops.unique
    c.self.inside.cases.entries c.self.invariant.places c.args.subject c.args.object c.unwrap-place.result.0 stored c.args.proof
    c.insert_full-2.new.self.entries c.unwrap-number.result.0 entries index)

pub returns-clause-fresh : goal.returns-clause-fresh
returns-clause-fresh c =
    let placed = c.unwrap-place.ensures in
    let ops = c.insert_full.ensures in
    let keys = rw placed at ops.keys in
    let stored = rw placed at ops.stored in
    let number = c.unwrap-number.ensures in
    let cases = c.insert_full-2.ensures in
    let entries = rw number at cases.entries in
    let index = rw number at cases.index in
    rw (← c.self.view_is)
    (set_fresh c.self.inside.ops.keys c.insert_full.new.self.keys (list_any (same_bytes c.args.op) c.self.inside.ops.keys) c.args.op keys ops.unique
    c.self.inside.cases.entries c.self.invariant.places c.args.subject c.args.object c.unwrap-place.result.0 stored c.args.proof
    c.insert_full-2.new.self.entries c.unwrap-number.result.0 entries index)
