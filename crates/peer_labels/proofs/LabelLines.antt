-- The text of a bundle is read line by line.
use Rattle.std.proofs.Common.{◌≡◌, ◌≢◌, ◌==◌, ◌<◌, ◌≤◌, ◌+◌, ℕ, List, [], ◌∷◌, ◌++◌, length, not, codes, Some, None, refl, sym, ap, ◌∙◌, subst, drop, take, arith, append_assoc, append-nil, length-append}
use Rattle.std.proofs.Math.Seq.{drop-append-add, take-append_seam}
use Rattle.std.specs.List.{All, flat_map, slice_get}
use Rattle.std.proofs.lemmas.List.Elements.{All-head, All-tail}
use Rattle.text_lines.specs.Lines.{after_line, first_line, line_length}
use Rattle.nal_term.specs.Trees.{FormulaTree}
use Rattle.nal_parse.specs.Canonical.{IsSpellable, formula_text}
use Rattle.nal_parse.proofs.ForCallers.{prefix_len-run}
use Rattle.proof_text.specs.Laws.{IsOneLine}
use Rattle.proof_text.proofs.ForCallers.{formula_line, one_line-append, printed_formula}
use Rattle.policy_history.specs.PolicyTexts.{ended}
use Rattle.run_streams.specs.Runs.{most_bytes}
use Rattle.form_lines.specs.Reading.{Leads, LeadsThrough, here, on}
use Rattle.peer_labels.specs.Bundles.{Follows, IsBundle, IsLabel, Stage, bundle_text, complete, end, header, header_line, label, label_due, label_word, most_labels}
use Rattle.peer_labels.proofs.HeldLabels.{AreHeld, label_line}

-- ---- A line in front of a text

line_first : (line rest : List ℕ) → IsOneLine line → line_length (line ++ 10 ∷ rest) ≡ length line
line_first line rest one = prefix_len-run (λ b. not (b == 10)) line (10 ∷ rest) one refl

some_line : (line rest : List ℕ) → line ++ 10 ∷ rest ≢ []
some_line [] rest e = cc
some_line (b ∷ bs) rest e = cc

line_leads : {stage next last : Stage} (line rest : List ℕ) → IsOneLine line → Follows stage line next → LeadsThrough Follows next rest last → LeadsThrough Follows stage (ended line ++ rest) last
line_leads {stage = stage} {next = next} {last = last} line rest one follows (n, leads) =
    let text = line ++ 10 ∷ rest in
    let first : first_line text ≡ line = ap (λ k. take k text) (line_first line rest one) ∙ take-append_seam line (10 ∷ rest) in
    let after : after_line text ≡ rest = ap (λ k. drop (k + 1) text) (line_first line rest one) ∙ drop-append-add line (10 ∷ rest) 1 in
    let step : Leads Follows stage text (n + 1) last [] =
    on (some_line line rest) (subst (λ l. Follows stage l next) (sym first) follows) (subst (λ t. Leads Follows next t n last []) (sym after) leads) in
    (n + 1, subst (λ t. Leads Follows stage t (n + 1) last []) (sym (append_assoc line (10 ∷ []) rest)) step)

-- ---- The lines of labels

label_follows : (front : List FormulaTree) (f : FormulaTree) → IsLabel f → IsSpellable f → length front < most_labels → Follows (label_due front) (label_word ++ formula_text f) (label_due (front ++ f ∷ []))
label_follows front f is spellable room =
    label refl room (record { spelled = printed_formula f spellable is.fits; closed = is.closed; said = is.said })

labels_lead : (front labels : List FormulaTree) → All IsLabel labels → All IsSpellable labels → length front + length labels ≤ most_labels
    → LeadsThrough Follows (label_due front) (flat_map label_line labels ++ ended (codes "end")) (complete (front ++ labels))
labels_lead front [] each spellable few =
    (1, on (λ e. cc) (end refl) (subst (λ fs. Leads Follows (complete front) [] 0 (complete fs) []) (sym (append-nil front)) here))
labels_lead front (f ∷ labels) each spellable few =
    let rest = flat_map label_line labels ++ ended (codes "end") in
    let one = one_line-append label_word (formula_text f) refl (formula_line f (All-head IsSpellable f labels spellable)) in
    let longer = length-append front (f ∷ []) in
    let later = labels_lead (front ++ f ∷ []) labels (All-tail IsLabel f labels each) (All-tail IsSpellable f labels spellable) (omega (arith, longer, few)) in
    let follows = label_follows front f (All-head IsLabel f labels each) (All-head IsSpellable f labels spellable) (omega (arith, few)) in
    let led = line_leads (label_word ++ formula_text f) rest one follows (subst (λ fs. LeadsThrough Follows (label_due (front ++ f ∷ [])) rest (complete fs)) (append_assoc front (f ∷ []) labels) later) in
    subst (λ t. LeadsThrough Follows (label_due front) t (complete (front ++ f ∷ labels))) (sym (append_assoc (label_line f) (flat_map label_line labels) (ended (codes "end")))) led

-- ---- A whole bundle

-- the text of labels that are held is read as these
pub bundle_led : (labels : List FormulaTree) → AreHeld labels 262144 33554432 → All IsSpellable labels → IsBundle (bundle_text labels) labels
bundle_led labels held spellable =
    line_leads header_line (flat_map label_line labels ++ ended (codes "end")) refl (header refl) (labels_lead [] labels held.each spellable (omega (arith, held.few)))

-- and is short
pub bundle_short : (labels : List FormulaTree) → AreHeld labels 262144 33554432 → length (bundle_text labels) ≤ most_bytes
bundle_short labels held =
    let long : length (bundle_text labels) ≡ 15 + (length (flat_map label_line labels) + 4) = simp length-append (omega arith) in
    omega (arith, long, held.short)

-- ---- One label after another

-- the label that is next, and those behind it
pub next_label : (all rest : List FormulaTree) (f : FormulaTree) → Some f ≡ slice_get all 0 → rest ≡ drop 1 all → all ≡ f ∷ rest
next_label [] rest f first left = absurd (cc first)
next_label (g ∷ all) rest f first left = let same : f ≡ g = cc first in cc

pub no_label : (all : List FormulaTree) → None ≡ slice_get all 0 → all ≡ []
no_label [] none = refl
no_label (f ∷ all) none = absurd (cc none)

-- where none is left, the last line ends the bundle
pub whole_text : (text now : List ℕ) (left labels : List FormulaTree) → left ≡ [] → text ++ flat_map label_line left ≡ ended header_line ++ flat_map label_line labels → now ≡ text ++ ended (codes "end") → now ≡ bundle_text labels
whole_text text now left labels none before last =
    let front : text ≡ ended header_line ++ flat_map label_line labels = sym (append-nil text) ∙ ap (λ fs. text ++ flat_map label_line fs) (sym none) ∙ before in
    last ∙ ap (λ t. t ++ ended (codes "end")) front ∙ append_assoc (ended header_line) (flat_map label_line labels) (ended (codes "end"))
