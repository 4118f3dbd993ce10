-- One more line of a proof adds to a case what it adds by itself.
use Rattle.std.proofs.Common.{◌≡◌, ◌<◌, ◌+◌, ℕ, Bool, true, false, List, [], ◌∷◌, ◌++◌, length, map, filter, take, get_or, refl, sym, ap, ◌∙◌, append-nil}
use Rattle.std.specs.List.{flat_map}
use Rattle.std.proofs.lemmas.Grind.{flat_map-append}
use Rattle.std.proofs.lemmas.List.{map-append, take_more}
use Rattle.std.proofs.lemmas.List.Elements.{filter-append}
use Rattle.proof_lines.specs.declared.lines.Line.{Line}
use Rattle.proof_lines.specs.Lines.{LineTree, line_tree, line_trees}
use Rattle.nal_rules.specs.Faults.{formulas_where, is_ask, is_label}
use Rattle.goal_store.specs.GoalRows.{PortRow}
use Rattle.label_store.specs.LabelRows.{LabelRow, is_held}
use Rattle.policy_history.specs.Judged.{binding_for, bindings_for, labels_for}
use Rattle.policy_history.specs.Inner.OneLine.{bindings_of_line, label_of_line}

formulas_more : (passes : LineTree → Bool) (ls ms : List LineTree) → formulas_where passes (ls ++ ms) ≡ formulas_where passes ls ++ formulas_where passes ms
formulas_more passes ls ms = ap (map (λ (l : LineTree). l.formula)) (filter-append passes ls ms) ∙ map-append (λ (l : LineTree). l.formula) (filter passes ls) (filter passes ms)

one_label : (rows : List LabelRow) (p : ℕ) (l : LineTree) → labels_for rows p (l ∷ []) ≡ label_of_line rows p l
one_label rows p l = of (is_label l) refl
  where
    of : (b : Bool) → is_label l ≡ b → labels_for rows p (l ∷ []) ≡ label_of_line rows p l
    of true e = rw e refl
    of false e = rw e refl

one_binding : (rows : List PortRow) (l : LineTree) → bindings_for rows (l ∷ []) ≡ bindings_of_line rows l
one_binding rows l = of (is_ask l) refl
  where
    of : (b : Bool) → is_ask l ≡ b → bindings_for rows (l ∷ []) ≡ bindings_of_line rows l
    of true e = rw e (append-nil (binding_for rows l.formula))
    of false e = rw e refl

pub labels_more : (rows : List LabelRow) (p : ℕ) (ls : List LineTree) (l : LineTree) → labels_for rows p (ls ++ l ∷ []) ≡ labels_for rows p ls ++ label_of_line rows p l
labels_more rows p ls l =
    ap (filter (is_held rows p)) (formulas_more is_label ls (l ∷ [])) ∙ filter-append (is_held rows p) (formulas_where is_label ls) (formulas_where is_label (l ∷ []))
    ∙ ap (λ fs. labels_for rows p ls ++ fs) (one_label rows p l)

pub bindings_more : (rows : List PortRow) (ls : List LineTree) (l : LineTree) → bindings_for rows (ls ++ l ∷ []) ≡ bindings_for rows ls ++ bindings_of_line rows l
bindings_more rows ls l =
    ap (flat_map (binding_for rows)) (formulas_more is_ask ls (l ∷ [])) ∙ flat_map-append (binding_for rows) (formulas_where is_ask ls) (formulas_where is_ask (l ∷ []))
    ∙ ap (λ bs. bindings_for rows ls ++ bs) (one_binding rows l)

-- the lines before the next one, and that one
pub lines_more : (xs : List Line) (i : ℕ) (x : Line) → i < length xs → x ≡ get_or xs i x → line_trees (take (i + 1) xs) ≡ line_trees (take i xs) ++ line_tree x ∷ []
lines_more xs i x within is =
    ap line_trees (take_more xs i x within) ∙ map-append line_tree (take i xs) (get_or xs i x ∷ []) ∙ ap (λ (y : Line). line_trees (take i xs) ++ line_tree y ∷ []) (sym is)
