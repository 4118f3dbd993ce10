use Rattle.std.proofs.Common.{◌≡◌, ◌≢◌, ◌++◌, ◌+◌, ℕ, List, length, take, drop, true, false, MatchOption, Option, Some, None, refl, sym, ap, ◌∙◌, eqb}
use Rattle.std.proofs.lemmas.Slice.Eq.{slice_eq-Decides}
use Rattle.std.proofs.lemmas.Bool.Decides.{Decides-eqb}
use Rattle.std.proofs.lemmas.List.{take-append-drop}
use Rattle.std.proofs.Math.Seq.{take-append_seam}
use lib.Pointwise.{pointwise}
use denote.Ref.{Bor}
use Rattle.text_lines.proofs.lines.after_word.Goals as goal

begins : (line word : List ℕ) → pointwise eqb (take (length word) line) word ≡ true → line ≡ word ++ drop (length word) line
begins line word e =
    let d = slice_eq-Decides Decides-eqb (take (length word) line) word _ refl in
    let t : take (length word) line ≡ word = d.0 e in
    sym (take-append-drop (length word) line) ∙ ap (λ f. f ++ drop (length word) line) t

begins_not : (line word rest : List ℕ) → pointwise eqb (take (length word) line) word ≡ false → line ≢ word ++ rest
begins_not line word rest e is =
    let d = slice_eq-Decides Decides-eqb (take (length word) line) word _ refl in
    let t : take (length word) line ≡ word = rw (is, take-append_seam) refl in
    let y = d.1 t in cc

stripped : (result : Option (Bor (List ℕ))) (line word : List ℕ)
    → MatchOption result (pointwise eqb (take (length word) line) word ≡ false)
    (λ x. (pointwise eqb (take (length word) line) word ≡ true) × (x.now ≡ drop (length word) line) × (length x.now + length word ≡ length line))
    → MatchOption result ((rest : List ℕ) → line ≢ word ++ rest) (λ rest. line ≡ word ++ rest.now)
stripped None line word h = λ rest. begins_not line word rest h
stripped (Some x) line word h = rw h.1 (begins line word h.0)

pub returns : goal.returns
returns c = stripped c.strip_prefix.result c.args.line.now c.args.word.now (rw c.as_bytes.ensures.value at c.strip_prefix.ensures.cases)
