-- What is wrong with a line of an input, and what is told of it.
use Rattle.std.specs.Prelude.{◌++◌, ◌∷◌, ℕ, List, [], codes}
use Rattle.std.specs.Fmt.{decimal}
use Rattle.run_streams.specs.declared.flaws.Flaw.{Flaw}

-- what is wrong: its name, and the byte of the line at which it stands, counted from 1
pub record FlawTree : Type 0 where
  pub byte : ℕ
  pub name : List ℕ

abbrev pub flaw_named : ℕ → List ℕ → FlawTree
flaw_named byte name = record { byte = byte; name = name }

-- the plain value of a flaw
abbrev pub flaw_tree : Flaw → FlawTree
flaw_tree flaw = flaw_named flaw.byte flaw.name.now

-- where a flaw of line k stands
abbrev pub flaw_place : ℕ → ℕ → List ℕ
flaw_place k byte = codes "line " ++ decimal k ++ codes ", byte " ++ decimal byte ++ codes ": "

-- what is told of the flaw of line k
abbrev pub flaw_text : ℕ → FlawTree → List ℕ
flaw_text k flaw = flaw_place k flaw.byte ++ flaw.name ++ 10 ∷ []
