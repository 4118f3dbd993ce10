-- What a reader of `script` answers.
use Rattle.std.specs.Prelude.{◌≡◌, ◌+◌, ◌∷◌, ◌++◌, [], ℕ, List}
use Rattle.policy_history.specs.Values.{entry_trees}
use Rattle.session_core.specs.declared.lines.Asking.{Asking}
use Rattle.policy_script.specs.declared.input.Script.{Script}
use Rattle.policy_script.specs.declared.input.ScriptError.{ScriptError}
use Rattle.policy_script.specs.declared.input.ScriptError.TheVariants.{Wrong, Memory}
use Rattle.policy_script.specs.ScriptForm.{ScriptTree, IsAskingLine, IsWrongAsking, IsWrongScript}

-- the plain value of what was read
abbrev pub script_tree : Script → ScriptTree
script_tree script = record { head = script.journal.head; entries = entry_trees script.journal.entries; askings = script.askings.items }

-- the line that is told is the lowest that is wrong
abbrev pub IsWrongInput : List ℕ → ScriptError → Type 0
IsWrongInput text (Wrong k) = IsWrongScript text k
IsWrongInput text Memory = Unit {0}

-- the line that is told is the lowest that is wrong of lines behind so many
abbrev pub IsWrongAfter : ℕ → List ℕ → ScriptError → Type 0
IsWrongAfter before text (Wrong k) = (j : ℕ) × (k ≡ before + j) × IsWrongAsking text j
IsWrongAfter before text Memory = Unit {0}

-- `Follows askings line next`: behind the lines of these requests the line may stand, and the requests are then the next ones
pub record Follows (askings : List Asking) (line : List ℕ) (next : List Asking) : Type 0 where
  pub asking : Asking
  pub is_line : IsAskingLine line asking
  pub next_is : next ≡ askings ++ asking ∷ []

-- the text may end behind the lines of these requests, whichever they are
abbrev pub MayEnd : List Asking → Type 0
MayEnd askings = Unit {0}
