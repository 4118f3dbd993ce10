-- The arguments of the program's call, as contracts see them.
use Rattle.std.specs.Prelude.{ℕ, List, [], ◌∷◌, ◌++◌, drop}
use Rattle.nexus_run.specs.declared.arguments.ArgumentHistory.{ArgumentHistory}
use Rattle.nexus_run.specs.declared.arguments.ArgumentHistory.TheVariants.{Start, Then'}

-- the arguments that were told, in order
abbrev pub arguments_of : ArgumentHistory → List (List ℕ)
arguments_of Start = []
arguments_of (Then' shape before argument) = arguments_of before ++ argument.value.items ∷ []

-- the words of the call: its arguments but for the first, which is the program's name
abbrev pub words_of_call : List (List ℕ) → List (List ℕ)
words_of_call arguments = drop 1 arguments
