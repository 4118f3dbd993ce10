-- How an input of `script` comes from its policy and the lines behind it.
use Rattle.std.proofs.Common.{◌≡◌, ◌+◌, ℕ, List, inl, inr}
use Rattle.policy_history.specs.declared.heads.Head.{Head}
use Rattle.policy_history.specs.Events.{EntryTree}
use Rattle.journal_text.specs.PolicyFronts.{IsFront, IsFrontError, wrong, above}
use Rattle.journal_text.specs.PolicyText.{formless, refusal}
use Rattle.journal_text.specs.declared.policy_reader.PolicyError.TheVariants.{Bad, Refused}
use Rattle.policy_script.specs.declared.input.ScriptError.{ScriptError}
use Rattle.policy_script.specs.declared.input.ScriptError.TheVariants.{Wrong, Memory}
use Rattle.policy_script.specs.Inner.Reading.{IsWrongAfter, IsWrongInput}
use Rattle.policy_script.specs.ScriptForm.{IsWrongAsking, IsWrongScript, in_policy, in_requests, most_session}

pub bad_policy : (text : List ℕ) (k : ℕ) → IsFrontError most_session text (Bad k) → IsWrongScript text k
bad_policy text k (inl w) = in_policy (wrong formless w)
bad_policy text k (inr w) = in_policy (above w)

pub refused_policy : (text : List ℕ) (k number : ℕ) → IsFrontError most_session text (Refused k number) → IsWrongScript text k
refused_policy text k number w = in_policy (wrong (refusal w.0) w.2)

bad_asking : (text : List ℕ) (h : Head) (es : List EntryTree) (n : ℕ) (rest : List ℕ) (k : ℕ) → IsFront most_session text h es n rest
    → (j : ℕ) → k ≡ n + j → IsWrongAsking rest j → IsWrongScript text k
bad_asking text h es n rest k front j number w = in_requests front.led front.below w number

pub asking_error : (text : List ℕ) (h : Head) (es : List EntryTree) (n : ℕ) (rest : List ℕ) (e : ScriptError) → IsFront most_session text h es n rest → IsWrongAfter n rest e → IsWrongInput text e
asking_error text h es n rest (Wrong k) front w = bad_asking text h es n rest k front w.0 w.1 w.2
asking_error text h es n rest Memory front w = tt
