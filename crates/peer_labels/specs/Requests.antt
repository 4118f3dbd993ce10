-- The requests by which a peer says the labels of a bundle at another service.
use Rattle.std.specs.Prelude.{ℕ, List, ◌∷◌, map}
use Rattle.nal_term.specs.Trees.{FormulaTree}
use Rattle.nal_parse.specs.Canonical.{formula_text}
use Rattle.session_wire.specs.declared.requests.Request.{Request}
use Rattle.session_wire.specs.declared.requests.Request.TheVariants.{Hello, Say}

-- the peer of this name says a label: the formula's canonical text is sent
abbrev pub label_request : List ℕ → FormulaTree → Request
label_request name f = Say name (formula_text f)

-- the peer opens a session with its secret, and then says each label in order
abbrev pub bundle_requests : List ℕ → List ℕ → List FormulaTree → List Request
bundle_requests name secret labels = Hello name secret ∷ map (label_request name) labels
