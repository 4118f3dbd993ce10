-- The parts of a request's line: words that only private functions use.
use Rattle.std.specs.Prelude.{◌≡◌, ◌≢◌, ℕ, List, [], ◌∷◌, ◌++◌, codes, Option}
use Rattle.std.specs.List.{All, find}
use Rattle.std.specs.Fmt.{decimal}
use Rattle.std.specs.Str.{bytes_eq}
use Rattle.session_wire.specs.declared.requests.Request.{Request}
use Rattle.session_wire.specs.declared.requests.Request.TheVariants.{Hello, Say, Transfer, Delete, NewObject, SetGoal, ClearGoal, SetProof, ClearProof, Bind, Unbind, Call, See}
use Rattle.journal_text.specs.declared.request_lines.Form.{Form}
use Rattle.journal_text.specs.declared.request_lines.Form.TheVariants as form
use Rattle.journal_text.specs.RequestLines.{IsWritable}

-- the word that the lines of a form begin with
abbrev pub word_of : Form → List ℕ
word_of form.Hello = codes "hello"
word_of form.Say = codes "say"
word_of form.Transfer = codes "transfer"
word_of form.Delete = codes "delete"
word_of form.NewObject = codes "object"
word_of form.SetGoal = codes "goal"
word_of form.ClearGoal = codes "nogoal"
word_of form.SetProof = codes "proof"
word_of form.ClearProof = codes "noproof"
word_of form.Bind = codes "bind"
word_of form.Unbind = codes "unbind"
word_of form.Call = codes "call"
word_of form.See = codes "see"

-- the forms
abbrev pub all_forms : List Form
all_forms =
    form.Hello ∷ form.Say ∷ form.Transfer ∷ form.Delete ∷ form.NewObject ∷ form.SetGoal ∷ form.ClearGoal ∷ form.SetProof
    ∷ form.ClearProof ∷ form.Bind ∷ form.Unbind ∷ form.Call ∷ form.See ∷ []

-- the form with this word
unfoldable pub form_named : List ℕ → Option Form
form_named word = find (λ f. bytes_eq (word_of f) word) all_forms

-- the form of a request
abbrev pub form_of : Request → Form
form_of (Hello name secret) = form.Hello
form_of (Say principal formula) = form.Say
form_of (Transfer number to) = form.Transfer
form_of (Delete number) = form.Delete
form_of (NewObject name) = form.NewObject
form_of (SetGoal op object formula) = form.SetGoal
form_of (ClearGoal op object) = form.ClearGoal
form_of (SetProof op object proof) = form.SetProof
form_of (ClearProof op object) = form.ClearProof
form_of (Bind principal port) = form.Bind
form_of (Unbind principal) = form.Unbind
form_of (Call op object arg) = form.Call
form_of (See number) = form.See

-- a word, a space and what follows
abbrev pub cut : List ℕ → List ℕ → List ℕ
cut word rest = word ++ 32 ∷ rest

-- what stands in a request's line after the first word and its space
abbrev pub parts_of : Request → List ℕ
parts_of (Hello name secret) = cut name secret
parts_of (Say principal formula) = cut principal (58 ∷ 32 ∷ formula)
parts_of (Transfer number to) = cut (decimal number) to
parts_of (Delete number) = decimal number
parts_of (NewObject name) = name
parts_of (SetGoal op object formula) = cut op (cut object (58 ∷ 32 ∷ formula))
parts_of (ClearGoal op object) = cut op object
parts_of (SetProof op object proof) = cut op (cut object (58 ∷ 32 ∷ proof))
parts_of (ClearProof op object) = cut op object
parts_of (Bind principal port) = cut principal (decimal port)
parts_of (Unbind principal) = principal
parts_of (Call op object arg) = cut op (cut object (decimal arg))
parts_of (See number) = decimal number

-- no byte is a space
abbrev pub HasNoSpace : List ℕ → Type 0
HasNoSpace bytes = All (λ b. b ≢ 32) bytes

-- the request has this form and these parts
pub record HasParts (f : Form) (text : List ℕ) (request : Request) : Type 0 where
  pub of_form : form_of request ≡ f
  pub writable : IsWritable request
  pub parts : text ≡ parts_of request
