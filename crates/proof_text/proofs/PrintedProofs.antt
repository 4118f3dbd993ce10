-- What is printed of a proof is read as it.
use Rattle.std.proofs.Common.{◌≡◌, ◌<◌, ◌≤◌, ◌+◌, ◌-◌, ◌^◌, ℕ, suc, List, [], ◌∷◌, ◌++◌, inl, inr, length, take, take_all, drop, map, Bool, true, false, not, ◌&&◌, ◌==◌, nat_le, IsTrue, Option, Some, None, is_some, All, codes, if◌then◌else◌, refl, sym, ap, subst, ◌∙◌, arith, append_assoc, length-append}
use Rattle.std.specs.List.{list_all, prefix_len, suffix_len}
use Rattle.std.specs.Fmt.{decimal}
use Rattle.std.proofs.Math.Seq.{take-append_seam, drop-append_seam, drop-append-add}
use Rattle.std.proofs.lemmas.List.{reverse-append, length-map}
use Rattle.std.proofs.lemmas.List.Elements.{All-map}
use Rattle.nal_term.specs.Names.{is_word_byte, is_text_byte}
use Rattle.nal_term.specs.Trees.{TermTree, FormulaTree}
use Rattle.nal_term.specs.Trees as tree
use Rattle.nal_parse.specs.Tokens.{is_blank, after_blanks, run_length}
use Rattle.nal_parse.specs.Grammar.{IsFormulaText, IsTermText}
use Rattle.nal_parse.specs.Canonical.{formula_text, term_text, FormulaFits, TermFits, IsSpellable, IsSpellableTerm}
use Rattle.nal_parse.proofs.ForCallers.{Breaks, prefix_len-run, both, name_bytes, number_digits, number_is_number, digits_words, text_unquoted, All-first, All-rest, term_text_spells, formula_text_spells}
use Rattle.proof_lines.specs.declared.rules.Rule.{Rule}
use Rattle.proof_lines.specs.declared.rules.Rule.TheVariants.{Label, Ask, Hyp, TrueI, AndI, AndL, AndR, OrL, OrR, OrE, ImpI, ImpE, FalseE, ForallI, ForallE, ExistsI, ExistsE, EqRefl, EqSym, EqTrans, Arith, LtTrans, SaysI, Deduce, SaysJoin, SfRefl, SfTrans, SfSub, SfE, SfOnE, SfWeak, Handoff, HandoffOn}
use Rattle.proof_lines.specs.declared.lines.Line.{Line}
use Rattle.proof_lines.specs.Lines.{line_tree, line_trees, LineTree, HasRuleForm, takes_term}
use Rattle.proof_text.specs.RuleNames.{rule_name}
use Rattle.proof_text.specs.ProofText.{trimmed, is_cut, pieces, segments, BeginsWithRun, BeginsWithNumber, BeginsWithNumbers, BeginsWithOptionalTerm, BeginsWithTerm, bracket_length, HasHead, IsLineText, AreLines, IsProofText}
use Rattle.proof_text.specs.ProofText.BeginsWithNumbers.{none, number}
use Rattle.proof_text.specs.ProofText.AreLines.{end, line}
use Rattle.proof_text.specs.CanonicalProof.{references_text, bracket_text, line_text, lines_text, proof_text, LineFits, OptionalTermFits, ProofFits, IsSpellableLine, IsSpellableOptional}
use Rattle.proof_text.proofs.PrintedBytes.{IsUncut, Starts, Ends, words_uncut, uncut-append, starts-append, ends-append, number_uncut, number_starts, term_uncut, term_starts, term_ends, formula_uncut, formula_starts, formula_ends}

-- Blanks at the ends

after_space : (bs : List ℕ) → after_blanks (32 ∷ bs) ≡ after_blanks bs
after_space bs = ap (λ n. drop n (32 ∷ bs)) (let e : 1 + prefix_len is_blank bs ≡ suc (prefix_len is_blank bs) = omega arith in e)

no_blank : (b : ℕ) (bs : List ℕ) → is_blank b ≡ false → after_blanks (b ∷ bs) ≡ b ∷ bs
no_blank b bs h = rw h refl

solid_front : (bs : List ℕ) → Starts bs → after_blanks bs ≡ bs
solid_front bs s = subst (λ x. after_blanks x ≡ x) (sym s.2) (no_blank s.0 s.1 s.3)

solid_end : (bs : List ℕ) → Ends bs → suffix_len is_blank bs ≡ 0
solid_end bs e = subst (λ x. suffix_len is_blank x ≡ 0) (sym e.2) (ap (prefix_len is_blank) (reverse-append e.0 (e.1 ∷ [])) ∙ rw e.3 refl)

space_end : (bs : List ℕ) → Ends bs → suffix_len is_blank (bs ++ 32 ∷ []) ≡ 1
space_end bs e = ap (prefix_len is_blank) (reverse-append bs (32 ∷ [])) ∙ ap (λ n. 1 + n) (solid_end bs e)

-- the text without the blanks at its end
abbrev without_end : List ℕ → List ℕ
without_end cs = take (length cs - suffix_len is_blank cs) cs

pub trimmed_solid : (bs : List ℕ) → Starts bs → Ends bs → trimmed bs ≡ bs
trimmed_solid bs s e = ap without_end (solid_front bs s) ∙ ap (λ n. take (length bs - n) bs) (solid_end bs e) ∙ take_all (length bs - 0) bs (omega arith)

trimmed_spaced : (bs : List ℕ) → Starts bs → Ends bs → trimmed (32 ∷ bs ++ 32 ∷ []) ≡ bs
trimmed_spaced bs s e =
    let cs = bs ++ 32 ∷ [] in
    let n : length cs - 1 ≡ length bs = omega (arith, length-append bs (32 ∷ [])) in
    ap without_end (after_space cs ∙ solid_front cs (starts-append bs (32 ∷ []) s)) ∙ ap (λ k. take (length cs - k) cs) (space_end bs e) ∙ ap (λ k. take k cs) n ∙ take-append_seam bs (32 ∷ [])

-- Segments

pieces_at : (bs tail : List ℕ) → IsUncut bs → pieces (bs ++ 59 ∷ tail) ≡ bs ∷ pieces tail
pieces_at [] tail h = refl
pieces_at (b ∷ bs) tail h =
    let l = both (not (is_cut b)) (list_all (λ c. not (is_cut c)) bs) h in
    let no : is_cut b ≡ false = not_true (is_cut b) l.0 in
    rw (no, pieces_at bs tail l.1) refl
  where
    not_true : (t : Bool) → not t ≡ true → t ≡ false
    not_true true e = cc
    not_true false e = refl

-- the segments of the lines from number k on, and `end`
abbrev pub printed_segments : ℕ → List LineTree → List (List ℕ)
printed_segments k [] = codes "end" ∷ []
printed_segments k (l ∷ ls) = line_text k l ∷ printed_segments (k + 1) ls

-- each line's text is uncut, and begins and ends with no blank
abbrev pub AreSolid : ℕ → List LineTree → Type 0
AreSolid k [] = Unit {0}
AreSolid k (l ∷ ls) = IsUncut (line_text k l) × Starts (line_text k l) × Ends (line_text k l) × AreSolid (k + 1) ls

pub printed_body : (ls : List LineTree) (k : ℕ) → AreSolid k ls → (front : List ℕ) → IsUncut front
    → segments (front ++ (lines_text k ls ++ codes " ; end")) ≡ trimmed (front ++ 32 ∷ []) ∷ printed_segments k ls
printed_body [] k solid front uncut =
    ap segments (sym (append_assoc front (32 ∷ []) (59 ∷ codes " end"))) ∙ ap (map trimmed) (pieces_at (front ++ 32 ∷ []) (codes " end") (uncut-append front (32 ∷ []) uncut refl))
printed_body (l ∷ ls) k solid front uncut =
    let text = line_text k l in
    let others = lines_text (k + 1) ls ++ codes " ; end" in
    ap (λ bs. segments (front ++ 32 ∷ 59 ∷ 32 ∷ bs)) (append_assoc text (lines_text (k + 1) ls) (codes " ; end"))
    ∙ ap segments (sym (append_assoc front (32 ∷ []) (59 ∷ 32 ∷ text ++ others)))
    ∙ ap (map trimmed) (pieces_at (front ++ 32 ∷ []) (32 ∷ text ++ others) (uncut-append front (32 ∷ []) uncut refl))
    ∙ ap (λ ss. trimmed (front ++ 32 ∷ []) ∷ ss) (printed_body ls (k + 1) solid.3 (32 ∷ text) solid.0 ∙ ap (λ s. s ∷ printed_segments (k + 1) ls) (trimmed_spaced text solid.1 solid.2))

-- The head of a line

run_after_space : (w tail : List ℕ) → IsTrue (list_all is_word_byte w) → Starts w → Breaks tail → BeginsWithRun (32 ∷ w ++ tail) w tail
run_after_space w tail words starts stop =
    let front : after_blanks (32 ∷ w ++ tail) ≡ w ++ tail = after_space (w ++ tail) ∙ solid_front (w ++ tail) (starts-append w tail starts) in
    let run : run_length (w ++ tail) ≡ length w = prefix_len-run is_word_byte w tail words stop in
    rw (front, run, take-append_seam w tail, drop-append_seam w tail) (refl, refl)

run_here : (w tail : List ℕ) → IsTrue (list_all is_word_byte w) → Starts w → Breaks tail → BeginsWithRun (w ++ tail) w tail
run_here w tail words starts stop =
    let front : after_blanks (w ++ tail) ≡ w ++ tail = solid_front (w ++ tail) (starts-append w tail starts) in
    let run : run_length (w ++ tail) ≡ length w = prefix_len-run is_word_byte w tail words stop in
    rw (front, run, take-append_seam w tail, drop-append_seam w tail) (refl, refl)

number_here : (n : ℕ) (tail : List ℕ) → n < 2 ^ 64 → Breaks tail → BeginsWithNumber (decimal n ++ tail) n tail
number_here n tail small stop =
    (decimal n, run_here (decimal n) tail (digits_words (decimal n) (number_digits n small).0) (number_starts n small) stop, number_is_number n small, sym (number_digits n small).1)

number_after_space : (n : ℕ) (tail : List ℕ) → n < 2 ^ 64 → Breaks tail → BeginsWithNumber (32 ∷ decimal n ++ tail) n tail
number_after_space n tail small stop =
    (decimal n, run_after_space (decimal n) tail (digits_words (decimal n) (number_digits n small).0) (number_starts n small) stop, number_is_number n small, sym (number_digits n small).1)

references_break : (rs : List ℕ) (tail : List ℕ) → Breaks tail → Breaks (references_text rs ++ tail)
references_break [] tail stop = stop
references_break (r ∷ rs) tail stop = refl

pub references_read : (rs : List ℕ) (tail : List ℕ) → All (λ r. r < 2 ^ 64) rs → Breaks tail → BeginsWithNumbers (length rs) (references_text rs ++ tail) rs tail
references_read [] tail small stop = none
references_read (r ∷ rs) tail small stop =
    subst (λ bs. BeginsWithNumbers (length (r ∷ rs)) (32 ∷ bs) (r ∷ rs) tail) (sym (append_assoc (decimal r) (references_text rs) tail))
    (number (number_after_space r (references_text rs ++ tail) (All-first (λ q. q < 2 ^ 64) r rs small) (references_break rs tail stop))
    (references_read rs tail (All-rest (λ q. q < 2 ^ 64) r rs small) stop))

word-plain : (b : ℕ) → is_word_byte b ≡ true → (not (b == 34) && not (b == 93)) ≡ true
word-plain b h = grind arith

words_plain : (bs : List ℕ) → IsTrue (list_all is_word_byte bs) → IsTrue (list_all (λ b. not (b == 34) && not (b == 93)) bs)
words_plain [] h = refl
words_plain (b ∷ bs) h = let l = both (is_word_byte b) (list_all is_word_byte bs) h in rw (word-plain b l.0) (words_plain bs l.1)

-- bytes that are neither a quotation mark nor a closing bracket are passed
abbrev is_plain : ℕ → Bool
is_plain b = not (b == 34) && not (b == 93)

plain_passed : (bs tail : List ℕ) → IsTrue (list_all is_plain bs) → bracket_length false (bs ++ tail) ≡ length bs + bracket_length false tail
plain_passed [] tail h = omega arith
plain_passed (b ∷ bs) tail h =
    let l = both (is_plain b) (list_all is_plain bs) h in
    let n = both (not (b == 34)) (not (b == 93)) l.0 in
    passing (b == 93) (b == 34) n.1 n.0 (plain_passed bs tail l.1)
  where
    passing : (closes quotes : Bool) → IsTrue (not closes) → not quotes ≡ true → bracket_length false (bs ++ tail) ≡ length bs + bracket_length false tail
        → (if closes then 0 else (if quotes then bracket_length true (bs ++ tail) + 1 else bracket_length false (bs ++ tail) + 1)) ≡ length (b ∷ bs) + bracket_length false tail
    passing true q c d e = cc
    passing false true c d e = cc
    passing false false c d e = omega (arith, e)

-- a quoted text is passed
quoted_passed : (bs tail : List ℕ) → IsTrue (list_all (λ b. not (b == 34)) bs) → bracket_length true (bs ++ 34 ∷ tail) ≡ length bs + 1 + bracket_length false tail
quoted_passed [] tail h = omega arith
quoted_passed (b ∷ bs) tail h =
    let l = both (not (b == 34)) (list_all (λ c. not (c == 34)) bs) h in
    passing (b == 34) l.0 (quoted_passed bs tail l.1)
  where
    passing : (quotes : Bool) → not quotes ≡ true → bracket_length true (bs ++ 34 ∷ tail) ≡ length bs + 1 + bracket_length false tail
        → (if quotes then bracket_length false (bs ++ 34 ∷ tail) + 1 else bracket_length true (bs ++ 34 ∷ tail) + 1) ≡ length (b ∷ bs) + 1 + bracket_length false tail
    passing true d e = cc
    passing false d e = omega (arith, e)

pub term_passed : (t : TermTree) → IsSpellableTerm t → (tail : List ℕ) → bracket_length false (term_text t ++ tail) ≡ length (term_text t) + bracket_length false tail
term_passed (tree.number n) ok tail = plain_passed (decimal n) tail (words_plain (decimal n) (digits_words (decimal n) (number_digits n ok).0))
term_passed (tree.name x) ok tail = plain_passed x tail (words_plain x (name_bytes x ok))
term_passed (tree.text x) ok tail =
    let inner = quoted_passed x tail (text_unquoted x (both (list_all is_text_byte x) (nat_le (length x) 256) ok).0) in
    ap (λ bs. bracket_length false (34 ∷ bs)) (append_assoc x (34 ∷ []) tail) ∙ omega (arith, inner, length-append x (34 ∷ []))
term_passed (tree.variable x) ok tail = plain_passed (63 ∷ x) tail (words_plain x (name_bytes x ok))
term_passed (tree.subprincipal t x) ok tail =
    let part = plain_passed (46 ∷ x) tail (words_plain x (name_bytes x ok.1)) in
    ap (bracket_length false) (append_assoc (term_text t) (46 ∷ x) tail) ∙ omega (arith, term_passed t ok.0 (46 ∷ x ++ tail), part, length-append (term_text t) (46 ∷ x))

pub term_is_text : (t : TermTree) → IsSpellableTerm t → TermFits t → IsTermText (term_text t) t
term_is_text t ok fits = record { length_limit = fits; spelled = term_text_spells t ok; fits = fits }

pub formula_is_text : (f : FormulaTree) → IsSpellable f → FormulaFits f → IsFormulaText (formula_text f) f
formula_is_text f ok fits = record { length_limit = fits.length_limit; spelled = formula_text_spells f ok 64 fits.level_limit; fits = fits }

bracket_read : (t : TermTree) → IsSpellableTerm t → TermFits t → (tail : List ℕ) → BeginsWithTerm (bracket_text (Some t) ++ tail) t tail
bracket_read t ok fits tail =
    let inner = term_text t ++ 93 ∷ tail in
    let split : bracket_text (Some t) ++ tail ≡ 32 ∷ 91 ∷ inner = ap (λ bs. 32 ∷ 91 ∷ bs) (append_assoc (term_text t) (93 ∷ []) tail) in
    let n : bracket_length false inner ≡ length (term_text t) = omega (arith, term_passed t ok (93 ∷ tail)) in
    let whole : trimmed (take (bracket_length false inner) inner) ≡ term_text t =
    ap (λ k. trimmed (take k inner)) n ∙ ap trimmed (take-append_seam (term_text t) (93 ∷ tail)) ∙ trimmed_solid (term_text t) (term_starts t ok) (term_ends t ok) in (
      inner,
      ap after_blanks split ∙ after_space (91 ∷ inner),
      omega (arith, n, length-append (term_text t) (93 ∷ tail)),
      subst (λ bs. IsTermText bs t) (sym whole) (term_is_text t ok fits),
      sym (ap (λ k. drop (k + 1) inner) n ∙ drop-append-add (term_text t) (93 ∷ tail) 1),
    )

optional_read : (takes : Bool) (term : Option TermTree) → is_some term ≡ takes → IsSpellableOptional term → OptionalTermFits term → (tail : List ℕ)
    → BeginsWithOptionalTerm takes (bracket_text term ++ tail) term tail
optional_read true (Some t) e ok fits tail = bracket_read t ok fits tail
optional_read true None e ok fits tail = cc
optional_read false (Some t) e ok fits tail = cc
optional_read false None e ok fits tail = refl

bracket_break : (term : Option TermTree) (tail : List ℕ) → Breaks tail → Breaks (bracket_text term ++ tail)
bracket_break None tail stop = stop
bracket_break (Some t) tail stop = refl

rule_words : (r : Rule) → IsTrue (list_all is_word_byte (rule_name r)) × Starts (rule_name r)
rule_words Label = (refl, (_, _, refl, refl))
rule_words Ask = (refl, (_, _, refl, refl))
rule_words Hyp = (refl, (_, _, refl, refl))
rule_words TrueI = (refl, (_, _, refl, refl))
rule_words AndI = (refl, (_, _, refl, refl))
rule_words AndL = (refl, (_, _, refl, refl))
rule_words AndR = (refl, (_, _, refl, refl))
rule_words OrL = (refl, (_, _, refl, refl))
rule_words OrR = (refl, (_, _, refl, refl))
rule_words OrE = (refl, (_, _, refl, refl))
rule_words ImpI = (refl, (_, _, refl, refl))
rule_words ImpE = (refl, (_, _, refl, refl))
rule_words FalseE = (refl, (_, _, refl, refl))
rule_words ForallI = (refl, (_, _, refl, refl))
rule_words ForallE = (refl, (_, _, refl, refl))
rule_words ExistsI = (refl, (_, _, refl, refl))
rule_words ExistsE = (refl, (_, _, refl, refl))
rule_words EqRefl = (refl, (_, _, refl, refl))
rule_words EqSym = (refl, (_, _, refl, refl))
rule_words EqTrans = (refl, (_, _, refl, refl))
rule_words Arith = (refl, (_, _, refl, refl))
rule_words LtTrans = (refl, (_, _, refl, refl))
rule_words SaysI = (refl, (_, _, refl, refl))
rule_words Deduce = (refl, (_, _, refl, refl))
rule_words SaysJoin = (refl, (_, _, refl, refl))
rule_words SfRefl = (refl, (_, _, refl, refl))
rule_words SfTrans = (refl, (_, _, refl, refl))
rule_words SfSub = (refl, (_, _, refl, refl))
rule_words SfE = (refl, (_, _, refl, refl))
rule_words SfOnE = (refl, (_, _, refl, refl))
rule_words SfWeak = (refl, (_, _, refl, refl))
rule_words Handoff = (refl, (_, _, refl, refl))
rule_words HandoffOn = (refl, (_, _, refl, refl))

pieces_of_line : (a b c d e f g : List ℕ) → a ++ b ++ c ++ d ++ e ++ f ++ g ≡ a ++ (b ++ (c ++ (d ++ (e ++ (f ++ g)))))
pieces_of_line a b c d e f g =
    append_assoc (a ++ b ++ c ++ d ++ e) f g ∙ append_assoc (a ++ b ++ c ++ d) e (f ++ g) ∙ append_assoc (a ++ b ++ c) d (e ++ (f ++ g))
    ∙ append_assoc (a ++ b) c (d ++ (e ++ (f ++ g))) ∙ append_assoc a b (c ++ (d ++ (e ++ (f ++ g))))

references_uncut : (rs : List ℕ) → All (λ r. r < 2 ^ 64) rs → IsUncut (references_text rs)
references_uncut [] small = refl
references_uncut (r ∷ rs) small =
    uncut-append (decimal r) (references_text rs) (number_uncut r (All-first (λ q. q < 2 ^ 64) r rs small)) (references_uncut rs (All-rest (λ q. q < 2 ^ 64) r rs small))

bracket_uncut : (term : Option TermTree) → IsSpellableOptional term → IsUncut (bracket_text term)
bracket_uncut None ok = refl
bracket_uncut (Some t) ok = uncut-append (term_text t) (93 ∷ []) (term_uncut t ok) refl

-- what stands of a line after its number
abbrev after_number : LineTree → List ℕ
after_number l = codes " " ++ (rule_name l.rule ++ (references_text l.refs ++ (bracket_text l.term ++ (codes " : " ++ formula_text l.formula))))

module _ (k : ℕ) (l : LineTree) (small : k < 2 ^ 64) (form : HasRuleForm l) (ok : IsSpellableLine l) (fits : LineFits l) where
  head_read : HasHead (decimal k ++ after_number l) (record { number = k; rule = l.rule; refs = l.refs; term = l.term }) (formula_text l.formula)
  head_read =
      let formula = formula_text l.formula in
      let colon = codes " : " ++ formula in
      let term = bracket_text l.term ++ colon in
      let refs = references_text l.refs ++ term in
      let words = rule_words l.rule in
      record {
        after_number = after_number l;
        after_rule = refs;
        after_references = term;
        after_term = colon;
        after_colon = 32 ∷ formula;
        number = number_here k (after_number l) small refl;
        rule = run_after_space (rule_name l.rule) refs words.0 words.1 (references_break l.refs term (bracket_break l.term colon refl));
        references = subst (λ n. BeginsWithNumbers n refs l.refs term) form.references (references_read l.refs term ok.references (bracket_break l.term colon refl));
        term = optional_read (takes_term l.rule) l.term form.term ok.term fits.term colon;
        colon = after_space (58 ∷ 32 ∷ formula) ∙ no_blank 58 (32 ∷ formula) refl;
        formula = sym (after_space formula ∙ solid_front formula (formula_starts l.formula ok.formula));
      }

  apart : line_text k l ≡ decimal k ++ after_number l
  apart = pieces_of_line (decimal k) (codes " ") (rule_name l.rule) (references_text l.refs) (bracket_text l.term) (codes " : ") (formula_text l.formula)

  pub line_read : IsLineText k (line_text k l) l
  line_read = record {
    text = formula_text l.formula;
    head = subst (λ bs. HasHead bs (record { number = k; rule = l.rule; refs = l.refs; term = l.term }) (formula_text l.formula)) (sym apart) head_read;
    formula = formula_is_text l.formula ok.formula fits.formula;
  }

  pub line_uncut : IsUncut (line_text k l)
  line_uncut =
      let formula = formula_text l.formula in
      let colon = codes " : " ++ formula in
      let term = bracket_text l.term ++ colon in
      let refs = references_text l.refs ++ term in
      subst IsUncut (sym apart) (uncut-append (decimal k) (after_number l) (number_uncut k small)
      (uncut-append (rule_name l.rule) refs (words_uncut (rule_name l.rule) (rule_words l.rule).0)
      (uncut-append (references_text l.refs) term (references_uncut l.refs ok.references)
      (uncut-append (bracket_text l.term) colon (bracket_uncut l.term ok.term) (formula_uncut l.formula ok.formula)))))

  line_starts : Starts (line_text k l)
  line_starts = subst Starts (sym apart) (starts-append (decimal k) (after_number l) (number_starts k small))

  line_ends : Ends (line_text k l)
  line_ends =
      ends-append (decimal k ++ codes " " ++ rule_name l.rule ++ references_text l.refs ++ bracket_text l.term ++ codes " : ") (formula_text l.formula) (formula_ends l.formula ok.formula)

-- Whole proofs

-- what is known of each line of a proof that fits
pub record IsFine (l : LineTree) : Type 0 where
  pub form : HasRuleForm l
  pub spellable : IsSpellableLine l
  pub fits : LineFits l

solid_lines : (ls : List LineTree) (k : ℕ) → k + length ls ≤ 257 → All IsFine ls → AreSolid k ls
solid_lines [] k room fine = tt
solid_lines (l ∷ ls) k room fine =
    let f = All-first IsFine l ls fine in (
      line_uncut k l (omega arith) f.form f.spellable f.fits,
      line_starts k l (omega arith) f.form f.spellable f.fits,
      line_ends k l (omega arith) f.form f.spellable f.fits,
      solid_lines ls (k + 1) (omega arith) (All-rest IsFine l ls fine),
    )

lines_read : (ls : List LineTree) (k : ℕ) → 0 < k → 1 < k + length ls → k + length ls ≤ 257 → All IsFine ls → AreLines k (printed_segments k ls) ls []
lines_read [] k positive some room fine = end (omega arith)
lines_read (l ∷ ls) k positive some room fine =
    let f = All-first IsFine l ls fine in
    line (omega arith) (line_read k l (omega arith) f.form f.spellable f.fits) (lines_read ls (k + 1) (omega arith) (omega arith) (omega arith) (All-rest IsFine l ls fine))

pub all_fine : (ls : List LineTree) → All HasRuleForm ls → All IsSpellableLine ls → All LineFits ls → All IsFine ls
all_fine ls form spellable fits k d h = record { form = form k d h; spellable = spellable k d h; fits = fits k d h }

-- the text of a proof that fits is read as the proof
pub proof_read : (ls : List LineTree) → length ls ≤ 256 → All HasRuleForm ls → All IsSpellableLine ls → ProofFits ls → IsProofText (proof_text ls) ls
proof_read ls few form spellable fits =
    let fine = all_fine ls form spellable fits.lines in
    record {
      spelled = record {
        header = codes "proof 2";
        others = printed_segments 1 ls;
        after = [];
        length_limit = fits.length_limit;
        cut = ap segments (append_assoc (codes "proof 2") (lines_text 1 ls) (codes " ; end")) ∙ printed_body ls 1 (solid_lines ls 1 (omega arith) fine) (codes "proof 2") refl;
        header_form = inr refl;
        body = lines_read ls 1 (omega arith) (omega (arith, fits.some)) (omega arith) fine;
        tail = inl refl;
      };
      canonical_limit = fits.length_limit;
    }

-- the same of a text made of its pieces
pub pieces_read : (lines : List Line) (bytes front middle : List ℕ) → front ≡ codes "proof 2" → middle ≡ front ++ lines_text 1 (line_trees lines) → bytes ≡ middle ++ codes " ; end"
    → length lines ≤ 256 → All (λ l. HasRuleForm (line_tree l)) lines → All IsSpellableLine (line_trees lines) → ProofFits (line_trees lines) → IsProofText bytes (line_trees lines)
pieces_read lines bytes front middle e f g few form spellable fits =
    let whole : bytes ≡ proof_text (line_trees lines) = g ∙ ap (λ t. t ++ codes " ; end") (f ∙ ap (λ t. t ++ lines_text 1 (line_trees lines)) e) in
    subst (λ b. IsProofText b (line_trees lines)) (sym whole)
    (proof_read (line_trees lines) (omega (arith, length-map lines line_tree)) (All-map HasRuleForm line_tree lines form) spellable fits)
