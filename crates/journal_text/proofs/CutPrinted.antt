-- What is written of a legal policy is recovered, wherever the writing stopped; and a text that is not cut reads as it does whole.
use Rattle.std.proofs.Common.{◌≡◌, ◌≢◌, ◌≤◌, ◌+◌, ◌⊎◌, ◌==◌, Bool, true, false, not, ℕ, List, [], ◌∷◌, ◌++◌, length, codes, inl, inr, refl, sym, ap, ◌∙◌, subst, arith, append_assoc, append-nil, length-append}
use Rattle.std.specs.List.{flat_map, list_all}
use Rattle.std.proofs.lemmas.Bool.{and_parts}
use Rattle.std.proofs.lemmas.Grind.{flat_map-append}
use Rattle.nal_term.specs.TreeKeys.{same_bytes, same_bytes-Decides}
use Rattle.proof_text.specs.Laws.{IsOneLine}
use Rattle.policy_history.specs.declared.heads.Authority.{Authority}
use Rattle.policy_history.specs.declared.heads.Head.{Head}
use Rattle.policy_history.specs.declared.heads.Principal.{Principal}
use Rattle.policy_history.specs.Events.{EntryTree}
use Rattle.policy_history.specs.PolicyTexts.{authority_text, ended, front, head_text, line_of, policy_text, principal_text}
use Rattle.policy_history.proofs.ForCallers.{legal_more}
use Rattle.text_lines.specs.Lines.{after_line, first_line}
use Rattle.journal_text.specs.CutPolicies.{AreWholeLines, IsCutInto, ReadsCut}
use Rattle.journal_text.specs.CutLaws.{CutEndIsRecovered, CutEntryIsLeftOut, IsWritten, LastLineIsLeftOut, ShortLineIsLeftOut, WholeIsRecovered}
use Rattle.journal_text.specs.PolicyText.{Follows, IsUnended, Leads, Stage, end, ended_with, header_due, here, on, open_with}
use Rattle.journal_text.proofs.CutTexts.{IsLineAhead, after_alone, after_is, first_alone, line_ahead, split_of, whole_append}
use Rattle.journal_text.proofs.OneCut.{nothing_leads}
use Rattle.journal_text.proofs.PolicyReading.{ended_same}
use Rattle.journal_text.proofs.PrintedPolicies.{entry_line_one, entry_text, front_goes, policy_bounded, printed_is_read}

-- ---- The last line of a whole text

-- a line is `end` or it is not
pub end_or : (line : List ℕ) → (line ≡ codes "end") ⊎ (line ≢ codes "end")
end_or line = of (same_bytes line (codes "end")) refl
  where
    of : (t : Bool) → same_bytes line (codes "end") ≡ t → (line ≡ codes "end") ⊎ (line ≢ codes "end")
    of true e = inl ((same_bytes-Decides line (codes "end")).0 e)
    of false e = inr (λ is. let t = (same_bytes-Decides line (codes "end")).1 is in absurd (cc (t, e)))

ended_or : (stage : Stage) → IsUnended stage ⊎ ((h : Head) × (es : List EntryTree) × (stage ≡ ended_with h es))
ended_or header_due = inl tt
ended_or (open_with h es) = inl tt
ended_or (ended_with h es) = inr (h, es, refl)

ending_line : {stage : Stage} {line : List ℕ} {h : Head} {es : List EntryTree} → Follows stage line (ended_with h es) → line ≡ codes "end"
ending_line (end is) = is

no_last : (rest last : List ℕ) → rest ++ last ≡ [] → last ≡ []
no_last [] last e = e
no_last (b ∷ bs) last e = absurd (cc)

-- the last line of a text that was ended has its line feed, where it is not `end`
fed_here : {next : Stage} (stage : Stage) (text lines last : List ℕ) {n : ℕ} {h : Head} {es : List EntryTree} → IsCutInto text lines last → last ≢ codes "end" → Follows stage (first_line text) next
    → Leads next (after_line text) n (ended_with h es) [] → (IsUnended next → (rest : List ℕ) → IsCutInto (after_line text) rest last → last ≡ []) → last ≡ []
fed_here {next = next} stage text lines last {n = n} {h = h} {es = es} cut differs f k later = of cut.whole
  where
    alone : lines ≡ [] → text ≡ last
    alone none = cut.parts ∙ ap (λ l. l ++ last) none

    behind : (a : IsLineAhead lines) → after_line text ≡ a.rest ++ last
    behind a = ap after_line (cut.parts ∙ ap (λ l. l ++ last) a.parts ∙ append_assoc a.line (10 ∷ a.rest) last) ∙ after_is a.line (a.rest ++ last) a.one

    of_next : (a : IsLineAhead lines) → IsUnended next ⊎ ((g : Head) × (fs : List EntryTree) × (next ≡ ended_with g fs)) → last ≡ []
    of_next a (inl u) = later u a.rest (record { parts = behind a; whole = a.whole; unfed = cut.unfed })
    of_next a (inr (g, fs, is)) =
        let over = (ended_same (subst (λ s. Leads s (after_line text) n (ended_with h es) []) is k)).2 in
        no_last a.rest last (sym (behind a) ∙ over)

    of : AreWholeLines lines → last ≡ []
    of (inl none) =
        let line : first_line text ≡ last = ap first_line (alone none) ∙ first_alone last cut.unfed in
        let over : after_line text ≡ [] = ap after_line (alone none) ∙ after_alone last cut.unfed in
        let is : next ≡ ended_with h es = nothing_leads (subst (λ t. Leads next t n (ended_with h es) []) over k) in
        absurd (differs (sym line ∙ ending_line (subst (λ s. Follows stage (first_line text) s) is f)))
    of (inr (before, e)) = of_next (subst IsLineAhead (sym e) (line_ahead before)) (ended_or next)

last_fed : {stage : Stage} {text : List ℕ} {n : ℕ} {h : Head} {es : List EntryTree} → Leads stage text n (ended_with h es) [] → IsUnended stage → (lines last : List ℕ) → IsCutInto text lines last
    → last ≢ codes "end" → last ≡ []
last_fed here u lines last cut differs = absurd u
last_fed {stage = stage} {text = text} (on some f k) u lines last cut differs = fed_here stage text lines last cut differs f k (λ v rest more. last_fed k v rest last more differs)

pub whole_is_recovered : WholeIsRecovered
whole_is_recovered text h es (short, n, led) = of (end_or (split_of text).last)
  where
    lines : List ℕ
    lines = (split_of text).lines

    last : List ℕ
    last = (split_of text).last

    cut : IsCutInto text lines last
    cut = (split_of text).cut

    of : (last ≡ codes "end") ⊎ (last ≢ codes "end") → ReadsCut text h es
    of (inl is) = record { short = short; kept = text; keeps = record { lines = lines; last = last; cut = cut; choice = inl (is, refl) }; reads = (n, inr led) }
    of (inr differs) =
        let none = last_fed led tt lines last cut differs in
        let all : text ≡ lines = cut.parts ∙ ap (λ l. lines ++ l) none ∙ append-nil lines in
        record { short = short; kept = lines; keeps = record { lines = lines; last = last; cut = cut; choice = inr (differs, refl) }; reads = (n, inr (subst (λ t. Leads header_due t n (ended_with h es) []) all led)) }

-- ---- A last line that is left out

ended_whole : {X : Type 0} (line : X → List ℕ) (xs : List X) → AreWholeLines (flat_map (λ x. ended (line x)) xs)
ended_whole line [] = inl refl
ended_whole line (x ∷ xs) = whole_append (ended (line x)) (flat_map (λ y. ended (line y)) xs) (inr (line x, refl)) (ended_whole line xs)

pub front_whole : (h : Head) (es : List EntryTree) → AreWholeLines (front h es)
front_whole h es =
    let start = ended (codes "nexus 2") in
    let ps = flat_map (λ (p : Principal). ended (principal_text p)) h.principals in
    let xs = flat_map (λ (a : Authority). ended (authority_text a)) h.authorities in
    let first : AreWholeLines (start ++ ps) = whole_append start ps (inr (codes "nexus 2", refl)) (ended_whole principal_text h.principals) in
    whole_append (start ++ ps ++ xs) (flat_map (line_of h) es) (whole_append (start ++ ps) xs first (ended_whole authority_text h.authorities)) (ended_whole (entry_text h) es)

pub last_line_is_left_out : LastLineIsLeftOut
last_line_is_left_out h es last w one short = of (end_or last)
  where
    cut : IsCutInto (front h es ++ last) (front h es) last
    cut = record { parts = refl; whole = front_whole h es; unfed = one }

    of : (last ≡ codes "end") ⊎ (last ≢ codes "end") → ReadsCut (front h es ++ last) h es
    of (inl is) =
        let goes = front_goes h es (codes "end") (ended_with h es) w.head w.entries w.sessions w.legal (1, on (λ e. cc) (end refl) here) in
        record {
          short = short;
          kept = front h es ++ last;
          keeps = record { lines = front h es; last = last; cut = cut; choice = inl (is, refl) };
          reads = (goes.0, inr (subst (λ l. Leads header_due (front h es ++ l) goes.0 (ended_with h es) []) (sym is) goes.1));
        }
    of (inr differs) =
        let goes = front_goes h es [] (open_with h es) w.head w.entries w.sessions w.legal (0, here) in
        record {
          short = short;
          kept = front h es;
          keeps = record { lines = front h es; last = last; cut = cut; choice = inr (differs, refl) };
          reads = (goes.0, inl (subst (λ t. Leads header_due t goes.0 (open_with h es) []) (append-nil (front h es)) goes.1));
        }

-- the text without its last line is far shorter than one may be
front_short : (h : Head) (es : List EntryTree) → IsWritten h es → length (front h es) ≤ 35850444
front_short h es w = omega (arith, policy_bounded h es w.head w.legal, length-append (front h es) (ended (codes "end")))

pub short_line_is_left_out : ShortLineIsLeftOut
short_line_is_left_out h es last w one few =
    let short = front_short h es w in
    last_line_is_left_out h es last w one (omega (arith, few, short, length-append (front h es) last))

-- ---- A line that is cut

-- what is left of a line that was cut before its line feed, and what is missing of the line
part_of : (line part missing : List ℕ) → ended line ≡ part ++ missing → missing ≢ [] → (more : List ℕ) × (line ≡ part ++ more)
part_of line [] missing e some = (line, refl)
part_of [] (p ∷ ps) missing e some =
    let tails : ps ++ missing ≡ [] = cc in
    absurd (some (no_last ps missing tails))
part_of (b ∷ bs) (p ∷ ps) missing e some =
    let heads : b ≡ p = cc in
    let tails : ended bs ≡ ps ++ missing = cc in
    let h = part_of bs ps missing tails some in
    (h.0, ap (λ x. x ∷ bs) heads ∙ ap (λ t. p ∷ t) h.1)

one_left : (xs ys : List ℕ) → IsOneLine (xs ++ ys) → IsOneLine xs
one_left [] ys one = refl
one_left (x ∷ xs) ys one =
    let h = and_parts (not (x == 10)) (list_all (λ b. not (b == 10)) (xs ++ ys)) one in
    rw h.0 (one_left xs ys h.1)

-- the entry's line behind the others
entry_behind : (h : Head) (es : List EntryTree) (e : EntryTree) → front h (es ++ e ∷ []) ≡ front h es ++ line_of h e
entry_behind h es e =
    ap (λ t. head_text h ++ t) (flat_map-append (line_of h) es (e ∷ []) ∙ ap (λ t. flat_map (line_of h) es ++ t) (append-nil (line_of h e)))
    ∙ sym (append_assoc (head_text h) (flat_map (line_of h) es) (line_of h e))

pub cut_entry_is_left_out : CutEntryIsLeftOut
cut_entry_is_left_out h es e part missing w kept accepted is some =
    let cut = part_of (entry_text h e) part missing is some in
    let one : IsOneLine part = one_left part cut.0 (subst IsOneLine cut.1 (entry_line_one h w.head es e kept accepted)) in
    let bound = policy_bounded h (es ++ e ∷ []) w.head (legal_more h es e w.legal accepted) in
    let more : length (policy_text h (es ++ e ∷ [])) ≡ length (front h es) + length (line_of h e) + 4 =
    length-append (front h (es ++ e ∷ [])) (ended (codes "end")) ∙ ap (λ n. n + 4) (ap length (entry_behind h es e) ∙ length-append (front h es) (line_of h e)) in
    let line : length (line_of h e) ≡ length part + length missing = ap length is ∙ length-append part missing in
    last_line_is_left_out h es part w one (omega (arith, bound, more, line, length-append (front h es) part))

pub cut_end_is_recovered : CutEndIsRecovered
cut_end_is_recovered h es part [] w is =
    let all : part ≡ ended (codes "end") = sym (append-nil part) ∙ sym is in
    subst (λ p. ReadsCut (front h es ++ p) h es) (sym all) (whole_is_recovered (policy_text h es) h es (printed_is_read h es w.head w.entries w.sessions w.legal))
cut_end_is_recovered h es part (m ∷ ms) w is =
    let cut = part_of (codes "end") part (m ∷ ms) is (λ e. cc) in
    let one : IsOneLine part = one_left part cut.0 (subst IsOneLine cut.1 refl) in
    let few : 3 ≡ length part + length cut.0 = ap length cut.1 ∙ length-append part cut.0 in
    short_line_is_left_out h es part w one (omega (arith, few))
