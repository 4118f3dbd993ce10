use Rattle.policy_history.proofs.tables.Policy.early_refusal.Goals as goal

pub returns-in-Say : goal.returns-in-Say
returns-in-Say c = λ n. rw c.in-Say.is (c.say_refusal.ensures n)

pub returns-in-Transfer : goal.returns-in-Transfer
returns-in-Transfer c = λ n. rw c.in-Transfer.is (c.transfer_refusal.ensures n)

pub returns-in-Delete : goal.returns-in-Delete
returns-in-Delete c = λ n. rw c.in-Delete.is (c.delete_refusal.ensures n)

pub returns-in-NewObject : goal.returns-in-NewObject
returns-in-NewObject c = λ n. rw c.in-NewObject.is (c.new_object_refusal.ensures n)

pub returns-in-SetGoal : goal.returns-in-SetGoal
returns-in-SetGoal c = λ n. rw c.in-SetGoal.is (c.set_goal_refusal.ensures n)

pub returns-in-ClearGoal : goal.returns-in-ClearGoal
returns-in-ClearGoal c = λ n. rw c.in-ClearGoal.is (c.clear_goal_refusal.ensures n)

pub returns-in-SetProof : goal.returns-in-SetProof
returns-in-SetProof c = λ n. rw c.in-SetProof.is (c.set_proof_refusal.ensures n)

pub returns-in-ClearProof : goal.returns-in-ClearProof
returns-in-ClearProof c = λ n. rw c.in-ClearProof.is (c.clear_proof_refusal.ensures n)

pub returns-in-Bind : goal.returns-in-Bind
returns-in-Bind c = λ n. rw c.in-Bind.is (c.bind_refusal.ensures n)

pub returns-in-Unbind : goal.returns-in-Unbind
returns-in-Unbind c = λ n. rw c.in-Unbind.is (c.unbind_refusal.ensures n)
