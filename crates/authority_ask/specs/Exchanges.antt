-- What goes over the wires of a panel: the line that asks whether a statement holds, the line that answers it, and what an ask comes to.
use Rattle.std.specs.Prelude.{◌≡◌, ℕ, List, [], ◌∷◌, ◌++◌, Bool, true, false, codes}
use Rattle.nal_term.specs.Trees.{FormulaTree}
use Rattle.nal_parse.specs.Canonical.{formula_text}
use Rattle.authority_ask.specs.WireCalls.{WireCall, exchange_call}
use Rattle.authority_ask.specs.declared.panels.Ask.{Ask}
use Rattle.authority_ask.specs.declared.panels.Ask.TheVariants.{Yes, No, Down, NoMemory}

-- the line that asks whether a statement holds
abbrev pub question_line : FormulaTree → List ℕ
question_line f = codes "ask " ++ formula_text f ++ 10 ∷ []

-- the line that answers it
abbrev pub answer_line : Bool → List ℕ
answer_line true = codes "yes" ++ 10 ∷ []
answer_line false = codes "no" ++ 10 ∷ []

-- what came back begins with this answer's line
abbrev pub Answers : Bool → List ℕ → Type 0
Answers affirmed given = (more : List ℕ) × (given ≡ answer_line affirmed ++ more)

-- what the bytes that came back are answered as: Yes or No where they begin with the line that says so, and Down where they begin with neither
abbrev pub IsAnswerTo : List ℕ → Ask → Type 0
IsAnswerTo given Yes = Answers true given
IsAnswerTo given No = Answers false given
IsAnswerTo given Down = (affirmed : Bool) → ¬ Answers affirmed given
IsAnswerTo given NoMemory = ⊥

-- An ask over wires: exactly one call more, the exchange of the statement's line at this port and address, and the answer is that of the bytes that came back in it. Without memory for the line no call was made
abbrev pub IsAskedOver : ℕ → List ℕ → FormulaTree → List WireCall → List WireCall → Ask → Type 0
IsAskedOver port address f before now NoMemory = now ≡ before
IsAskedOver port address f before now answer = (given : List ℕ) × (now ≡ before ++ exchange_call port address (question_line f) given ∷ []) × IsAnswerTo given answer
