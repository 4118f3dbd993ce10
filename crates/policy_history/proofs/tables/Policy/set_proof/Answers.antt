use Rattle.std.proofs.Common.{Some, refl, length}
use Rattle.proof_lines.specs.Lines.{line_trees}
use Rattle.proof_store.specs.Cases.{rows as case_rows, number_of as case_number, is_case}
use Rattle.object_table.specs.Objects.{number_of}
use Rattle.policy_history.specs.declared.events.Refusal.TheVariants.{NoSuchObject, CasesFull}
use Rattle.policy_history.specs.Tables.{state_of}
use Rattle.policy_history.proofs.Changed.{cases_room, put_either}
use Rattle.policy_history.proofs.tables.Policy.set_proof.Goals as goal

pub set-requires-clause-bound : goal.set-requires-clause-bound
set-requires-clause-bound c =
    let s = state_of c.args.self.now in
    let k = rw c.in-Proof.is at c.requires.copies in
    rw (k.0, c.object_or_0-number.ensures) (cases_room (number_of s.objects c.args.object.now) (case_number s.cases c.args.caller c.args.op.now) (length s.cases) (c.requires.accepted NoSuchObject) (c.requires.accepted CasesFull))

pub returns-in-Proof-clause-state : goal.returns-in-Proof-clause-state
returns-in-Proof-clause-state c =
    let before = case_rows c.args.self.now.cases in
    let p = c.args.caller in
    let n = c.object_or_0-number.result in
    let k = rw c.in-Proof.is at c.requires.copies in
    let e = put_either (is_case p c.in-Proof.op n) (p, c.in-Proof.op, n, Some (line_trees c.in-Proof.proof)) before (case_rows c.set.new.self) (λ j at. (c.set.ensures.known j at).1) (λ none. (c.set.ensures.fresh none).1) in
    rw (k.1, e, k.0, c.object_or_0-number.ensures) refl
