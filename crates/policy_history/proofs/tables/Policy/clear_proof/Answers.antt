use Rattle.std.proofs.Common.{refl}
use Rattle.proof_store.specs.Cases.{rows as case_rows, number_of as case_number, proof_of}
use Rattle.object_table.specs.Objects.{number_of}
use Rattle.policy_history.specs.declared.events.Refusal.TheVariants.{NoSuchProof}
use Rattle.policy_history.specs.States.{object_or_0}
use Rattle.policy_history.specs.Tables.{state_of}
use Rattle.policy_history.proofs.Changed.{named_twice, without_proof}
use Rattle.std.specs.Option.{option_and_then}
use Rattle.policy_history.proofs.tables.Policy.clear_proof.Goals as goal

pub returns-clause-state : goal.returns-clause-state
returns-clause-state c =
    let before = case_rows c.args.self.now.cases in
    let s = state_of c.args.self.now in
    let p = c.args.caller in
    let op = c.args.op.now in
    let n = object_or_0 s c.args.object.now in
    let there = named_twice (number_of s.objects c.args.object.now) (case_number before p op) (proof_of before) (c.requires NoSuchProof) in
    let h = rw c.object_or_0-number.ensures at c.clear-had.ensures.had in
    let r = rw c.object_or_0-number.ensures at c.clear-had.ensures.cleared in
    let e = without_proof p op n c.clear-had.result before (case_rows c.clear-had.new.self) (option_and_then (proof_of before) (case_number before p op n)) h there r in
    rw e refl
