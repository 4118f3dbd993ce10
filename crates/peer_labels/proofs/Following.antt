-- Which line may follow at a stage, from what stands in it, and what the labels of a bundle are.
use Rattle.std.proofs.Common.{◌≡◌, ◌<◌, ◌≤◌, ◌++◌, ◌∷◌, [], ℕ, List, get_or, length, arith, codes, refl, sym, subst, ap, ◌∙◌}
use Rattle.std.proofs.lemmas.List.{length-append}
use Rattle.std.proofs.lemmas.List.Elements.{All-nil, All-push}
use Rattle.std.specs.List.{All}
use Rattle.nal_term.specs.Trees.{FormulaTree}
use Rattle.form_lines.specs.Reading.{Leads, here, on}
use Rattle.form_lines.specs.Statements.{IsStatement}
use Rattle.peer_labels.specs.Bundles.{Follows, IsLabel, Stage, complete, end, header, header_due, header_line, label, label_due, label_word, most_labels}

same_text : {x y : List ℕ} → label_word ++ x ≡ label_word ++ y → x ≡ y
same_text e = cc

-- the line of a label is not the last one
not_last : {line x : List ℕ} → line ≡ codes "end" → line ≡ label_word ++ x → ⊥
not_last {line = line} e f =
    let last : get_or line 0 0 ≡ 101 = ap (λ l. get_or l 0 0) e in
    let word : get_or line 0 0 ≡ 108 = ap (λ l. get_or l 0 0) f in
    absurd (omega (arith, last, word))

pub after_header : (line : List ℕ) (next : Stage) → Follows header_due line next → (line ≡ header_line) × (next ≡ label_due [])
after_header line next (header e) = (e, refl)

pub after_end : (line : List ℕ) (labels : List FormulaTree) (next : Stage) → line ≡ codes "end" → Follows (label_due labels) line next → next ≡ complete labels
after_end line labels next e (label is room s) = absurd (not_last e is)
after_end line labels next e (end is) = refl

-- what a label's line leads to
pub after_label : (line text : List ℕ) (labels : List FormulaTree) (next : Stage) → line ≡ label_word ++ text → Follows (label_due labels) line next
    → (length labels < most_labels) × (f : FormulaTree) × IsStatement text f × (next ≡ label_due (labels ++ f ∷ []))
after_label line text labels next d (label {f = f} e room s) = (room, f, subst (λ (u : List ℕ). IsStatement u f) (same_text (sym e ∙ d)) s, refl)
after_label line text labels next d (end e) = absurd (not_last e d)

-- a line that is neither leads nowhere
pub wordless : (line : List ℕ) (labels : List FormulaTree) (next : Stage) → (line ≡ codes "end" → ⊥) → ((x : List ℕ) → line ≡ label_word ++ x → ⊥) → Follows (label_due labels) line next → ⊥
wordless line labels next no_end no_label (label e room s) = no_label _ e
wordless line labels next no_end no_label (end e) = no_end e

pub after_complete : (line : List ℕ) (labels : List FormulaTree) (next : Stage) → Follows (complete labels) line next → ⊥
after_complete line labels next f = elim f [ ]

pub same_labels : {a b : List FormulaTree} → complete a ≡ complete b → a ≡ b
same_labels e = cc

-- ---- What was read

-- such labels, and not too many
abbrev pub AreLabels : List FormulaTree → Type 0
AreLabels labels = All IsLabel labels × (length labels ≤ most_labels)

abbrev IsSound : Stage → Type 0
IsSound header_due = Unit {0}
IsSound (label_due labels) = AreLabels labels
IsSound (complete labels) = AreLabels labels

one_more : (text : List ℕ) (labels : List FormulaTree) (f : FormulaTree) → length labels < most_labels → IsStatement text f → AreLabels labels → AreLabels (labels ++ f ∷ [])
one_more text labels f room s are =
    let longer = length-append labels (f ∷ []) in
    (All-push IsLabel labels f are.0 (record { fits = s.spelled.fits; closed = s.closed; said = s.said }), omega (arith, room, longer))

sound_on : {stage next : Stage} {line : List ℕ} → Follows stage line next → IsSound stage → IsSound next
sound_on (header e) h = (All-nil IsLabel, omega arith)
sound_on (label {text = text} {labels = labels} {f = f} e room s) h = one_more text labels f room s h
sound_on (end e) h = h

sound_through : {stage last : Stage} {text rest : List ℕ} {n : ℕ} → Leads Follows stage text n last rest → IsSound stage → IsSound last
sound_through here h = h
sound_through (on some follows leads) h = sound_through leads (sound_on follows h)

-- the labels of a bundle are such, and not too many
pub bundle_labels : {text rest : List ℕ} {n : ℕ} (last : Stage) (labels : List FormulaTree) → last ≡ complete labels → Leads Follows header_due text n last rest → AreLabels labels
bundle_labels last labels is leads = subst IsSound is (sound_through leads tt)
