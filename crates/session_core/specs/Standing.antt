-- How far a session over a shared board is, and what it knows of cases.
use Rattle.std.specs.Prelude.{ℕ, List, [], ◌∷◌, ◌++◌, length, Bool, ◌&&◌, nat_lt, if◌then◌else◌, Option, Some, None, codes}
use Rattle.std.specs.List.{list_any}
use Rattle.nal_term.specs.TreeKeys.{same_bytes}
use Rattle.verdict_words.specs.declared.views.RegisterStep.{RegisterStep}
use Rattle.verdict_words.specs.declared.views.RegisterStep.TheVariants.{Read, Write, Add}

-- an operation and the name of an object
abbrev pub Triple : Type 0
Triple = List ℕ × List ℕ

-- how far a session is: the principal that is admitted in it, or none; how much of the history it has seen; and for which
-- operations and objects it knows the case of that principal
pub record Standing : Type 0 where
  pub who : Option ℕ
  pub low : ℕ
  pub known : List Triple

-- a session that has just begun, and has seen so much
abbrev pub beginning : ℕ → Standing
beginning low = record { who = None; low = low; known = [] }

-- how many cases a session knows at most
abbrev pub most_known : ℕ
most_known = 4096

-- whether the case is known
abbrev pub knows : List Triple → List ℕ → List ℕ → Bool
knows known op object = list_any (λ (pair : Triple). same_bytes pair.0 op && same_bytes pair.1 object) known

-- what is known after a call whose case has this number, or none: the case too, where it has a number and there is room
abbrev pub joined : List Triple → List ℕ → List ℕ → Option ℕ → List Triple
joined known op object None = known
joined known op object (Some k) =
    if knows known op object then known else (if nat_lt (length known) most_known then known ++ (op, object) ∷ [] else known)

-- the step that an allowed call makes on its object's register: `read`, `write` and `add` make one
abbrev pub step_of : List ℕ → ℕ → Option RegisterStep
step_of op arg =
    if same_bytes op (codes "read") then Some Read
    else (if same_bytes op (codes "write") then Some (Write arg) else (if same_bytes op (codes "add") then Some (Add arg) else None))
