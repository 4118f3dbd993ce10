use Rattle.policy_history.proofs.tables.Policy.change.Goals as goal

pub transfer-requires : goal.transfer-requires
transfer-requires c = λ r. let h = c.requires.accepted r in rw c.in-Transfer.is at h

pub delete-requires : goal.delete-requires
delete-requires c = λ r. let h = c.requires.accepted r in rw c.in-Delete.is at h

pub new_object-requires-clause-accepted : goal.new_object-requires-clause-accepted
new_object-requires-clause-accepted c = λ r. let h = c.requires.accepted r in rw c.in-NewObject.is at h

pub clear_goal-requires : goal.clear_goal-requires
clear_goal-requires c = λ r. let h = c.requires.accepted r in rw c.in-ClearGoal.is at h

pub set_proof-requires-clause-accepted : goal.set_proof-requires-clause-accepted
set_proof-requires-clause-accepted c = λ r. let h = c.requires.accepted r in rw c.in-SetProof.is at h

pub clear_proof-requires : goal.clear_proof-requires
clear_proof-requires c = λ r. let h = c.requires.accepted r in rw c.in-ClearProof.is at h

pub unbind-requires : goal.unbind-requires
unbind-requires c = λ r. let h = c.requires.accepted r in rw c.in-Unbind.is at h

pub returns-in-ClearGoal-clause-state : goal.returns-in-ClearGoal-clause-state
returns-in-ClearGoal-clause-state c = rw c.in-ClearGoal.is c.clear_goal.ensures.state

pub returns-in-ClearProof-clause-state : goal.returns-in-ClearProof-clause-state
returns-in-ClearProof-clause-state c = rw c.in-ClearProof.is c.clear_proof.ensures.state
