-- The line of a peer, and the requests of an import.
use Rattle.std.proofs.Common.{◌≡◌, ◌<◌, ◌≤◌, ◌+◌, ℕ, List, [], ◌∷◌, ◌++◌, length, get_or, map, take, codes, sym, ap, subst, ◌∙◌, arith}
use Rattle.std.proofs.lemmas.List.{get_or-map, length-drop, length-map, map-append, take_more}
use Rattle.std.proofs.lemmas.List.Elements.{All-get_or}
use Rattle.std.specs.List.{All}
use Rattle.text_lines.specs.Lines.{after_line, line_length}
use Rattle.form_lines.specs.Reading.{IsWrongAt, Leads, here, on}
use Rattle.form_lines.proofs.ForCallers.{long_left}
use Rattle.nal_term.specs.Trees.{formula_tree}
use Rattle.nal_term.specs.declared.formulas.Formula.{Formula}
use Rattle.nal_parse.specs.Canonical.{FormulaFits}
use Rattle.session_wire.specs.Frames.{request_frame}
use Rattle.peer_labels.specs.Bundles.{IsLabel}
use Rattle.peer_labels.specs.Requests.{bundle_requests, label_request}
use Rattle.policy_history.specs.PolicyLines.{spaced}
use Rattle.journal_text.specs.Inner.PolicyReading.{IsUnspaced}
use Rattle.journal_text.proofs.WordsForCallers.{cut_same, name_unspaced}
use Rattle.nexus_client.specs.Imports.{IsPeerLine}

behind : (x y : List ℕ) → codes "peer " ++ x ≡ codes "peer " ++ y → x ≡ y
behind x y e = cc

-- the two words behind the first of a line are those of a peer's line
pub peer_parts : (line peer word rest : List ℕ) → line ≡ codes "peer " ++ peer → peer ≡ spaced word rest → IsUnspaced word → (name secret : List ℕ) → IsPeerLine line name secret
    → (word ≡ name) × (rest ≡ secret)
peer_parts line peer word rest formed parts plain name secret is =
    cut_same word rest name secret (sym parts ∙ behind peer (spaced name secret) (sym formed ∙ is.formed)) plain (name_unspaced name is.name_is)

-- ---- How many lines there are

shorter : (text : List ℕ) → (text ≡ [] → ⊥) → length (after_line text) + 1 ≤ length text
shorter text some = let long = long_left text some in let same = length-drop (line_length text + 1) text in omega (arith, long, same)

few_led : {Stage : Type 0} {Follows : Stage → List ℕ → Stage → Type 0} {stage last : Stage} {text rest : List ℕ} {n : ℕ} → Leads Follows stage text n last rest → n + length rest ≤ length text
few_led here = omega arith
few_led (on {text = text} some f l) = let later = few_led l in let less = shorter text some in omega (arith, later, less)

-- a line that is told is hardly more than the text has bytes
pub few_lines : {Stage : Type 0} {Follows : Stage → List ℕ → Stage → Type 0} {IsEnd : Stage → Type 0} {first : Stage} {text : List ℕ} {k : ℕ} → IsWrongAt Follows IsEnd first text k → k ≤ length text + 1
few_lines w = let led = few_led w.led in let number = w.number in omega (arith, led, number)

-- ---- The requests of a bundle

-- each label keeps the limits of a text
pub label_fits : (labels : List Formula) (label : Formula) (k : ℕ) → k < length labels → label ≡ get_or labels k label → All IsLabel (map formula_tree labels) → FormulaFits (formula_tree label)
label_fits labels label k room at all =
    let within : k < length (map formula_tree labels) = omega (arith, length-map labels formula_tree, room) in
    let item : get_or (map formula_tree labels) k (formula_tree label) ≡ formula_tree label = get_or-map formula_tree labels k label (formula_tree label) room ∙ ap formula_tree (sym at) in
    (subst IsLabel item (All-get_or IsLabel (map formula_tree labels) k (formula_tree label) within all)).fits

-- one label more, one request more
pub one_request_more : (name secret : List ℕ) (labels : List Formula) (label : Formula) (k : ℕ) → k < length labels → label ≡ get_or labels k label
    → map request_frame (bundle_requests name secret (map formula_tree (take (k + 1) labels)))
    ≡ map request_frame (bundle_requests name secret (map formula_tree (take k labels))) ++ request_frame (label_request name (formula_tree label)) ∷ []
one_request_more name secret labels label k room at =
    let more : take (k + 1) labels ≡ take k labels ++ label ∷ [] = take_more labels k label room ∙ ap (λ (x : Formula). take k labels ++ x ∷ []) (sym at) in
    let trees = ap (map formula_tree) more ∙ map-append formula_tree (take k labels) (label ∷ []) in
    let requests = ap (map (label_request name)) trees ∙ map-append (label_request name) (map formula_tree (take k labels)) (formula_tree label ∷ []) in
    let frames = ap (map request_frame) requests ∙ map-append request_frame (map (label_request name) (map formula_tree (take k labels))) (label_request name (formula_tree label) ∷ []) in
    ap (λ (xs : List (List ℕ)). map request_frame (bundle_requests name secret []) ++ xs) frames
