-- The lines that go to a keeper, and what comes back for each.
use Rattle.std.specs.Prelude.{◌∷◌, ◌++◌, [], ℕ, List, Bool, true, false, codes}
use Rattle.std.specs.Fmt.{decimal}

-- the word of a line of the opening text, and that of a change's
abbrev pub verb : Bool → List ℕ
verb false = codes "have "
verb true = codes "put "

-- a line with its line feed is handed on as the one of this number
abbrev pub request_text : Bool → ℕ → List ℕ → List ℕ
request_text is_change number line = verb is_change ++ decimal number ++ codes " " ++ line

-- the line by which a keeper answers that it keeps the one of this number
abbrev pub kept_text : ℕ → List ℕ
kept_text number = codes "kept " ++ decimal number ++ 10 ∷ []
