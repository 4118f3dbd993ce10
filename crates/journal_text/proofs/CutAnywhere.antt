-- Wherever the text of a policy is cut behind its first line feed, a front of the policy is recovered.
use Rattle.std.proofs.Common.{◌≡◌, ◌≢◌, ◌≤◌, ◌+◌, ◌⊎◌, ℕ, List, [], ◌∷◌, ◌++◌, length, codes, inl, inr, refl, sym, ap, ◌∙◌, subst, arith, append_assoc, append-nil, length-append}
use Rattle.proof_text.specs.Laws.{IsOneLine}
use Rattle.policy_history.specs.declared.heads.Head.{Head}
use Rattle.policy_history.specs.Events.{EntryTree}
use Rattle.text_lines.specs.Lines.{after_line, first_line}
use Rattle.journal_text.specs.CutPolicies.{AreWholeLines, IsCutInto, ReadsCut, ReadsOpen}
use Rattle.journal_text.specs.CutLaws.{CutAnywhereIsRecovered, IsFrontOf}
use Rattle.journal_text.specs.PolicyText.{Follows, Leads, Stage, authority, end, ended_with, entry, header, header_due, here, most_bytes, on, open_with, principal}
use Rattle.journal_text.proofs.CutPrinted.{end_or}
use Rattle.journal_text.proofs.CutTexts.{after_is, first_is, line_ahead, split_of}
use Rattle.journal_text.proofs.PolicyReading.{ended_same, leads_on}

-- ---- How a policy grows from line to line

-- what stands at a stage stands at each later one
pub data IsWithin : Stage → Head → List EntryTree → Type 0 where
  of_none : {h : Head} {es : List EntryTree} → IsWithin header_due h es
  of_open : {g h : Head} {fs es : List EntryTree} → IsFrontOf g h fs es → IsWithin (open_with g fs) h es
  of_ended : {g h : Head} {fs es : List EntryTree} → IsFrontOf g h fs es → IsWithin (ended_with g fs) h es

more_of : {X : Type 0} (xs ys zs : List X) → (more : List X) × (zs ≡ (xs ++ ys) ++ more) → (more : List X) × (zs ≡ xs ++ more)
more_of xs ys zs (more, e) = (ys ++ more, e ∙ append_assoc xs ys more)

one_back : {stage next : Stage} {line : List ℕ} {h : Head} {es : List EntryTree} → Follows stage line next → IsWithin next h es → IsWithin stage h es
one_back (header is) w = of_none
one_back {h = h} {es = es} (principal {ps = ps} p is n s are) (of_open w) =
    of_open (record { principals = more_of ps (p ∷ []) h.principals w.principals; authorities = w.authorities; entries = w.entries })
one_back {h = h} {es = es} (authority {qs = qs} a is are) (of_open w) =
    of_open (record { principals = w.principals; authorities = more_of qs (a ∷ []) h.authorities w.authorities; entries = w.entries })
one_back {h = h} {es = es} (entry {es = fs} e l acc) (of_open w) =
    of_open (record { principals = w.principals; authorities = w.authorities; entries = more_of fs (e ∷ []) es w.entries })
one_back (end is) (of_ended w) = of_open w

all_of : (h : Head) (es : List EntryTree) → IsFrontOf h h es es
all_of h es = record {
  principals = ([], sym (append-nil h.principals));
  authorities = ([], sym (append-nil h.authorities));
  entries = ([], sym (append-nil es));
}

within : {stage : Stage} {text rest : List ℕ} {n : ℕ} {h : Head} {es : List EntryTree} → Leads stage text n (ended_with h es) rest → IsWithin stage h es
within {h = h} {es = es} here = of_ended (all_of h es)
within (on some f k) = one_back f (within k)

-- ---- Whole lines in front of a text

-- whole lines lead to a stage, whatever follows them, and the rest of the text leads on from there
pub record IsHalfway (stage last : Stage) (lines more : List ℕ) : Type 0 where
  pub mid : Stage
  pub n : ℕ
  pub m : ℕ
  pub first : (tail : List ℕ) → Leads stage (lines ++ tail) n mid tail
  pub later : Leads mid more m last []

no_line : {stage last : Stage} {more : List ℕ} {n : ℕ} → Leads stage more n last [] → IsHalfway stage last [] more
no_line {stage = stage} {n = n} k = record { mid = stage; n = 0; m = n; first = λ tail. here; later = k }

line_some : (line rest : List ℕ) → line ++ 10 ∷ rest ≢ []
line_some [] rest e = cc
line_some (b ∷ bs) rest e = cc

line_more : {stage next last : Stage} (line rest more : List ℕ) → IsOneLine line → Follows stage line next → IsHalfway next last rest more → IsHalfway stage last (line ++ 10 ∷ rest) more
line_more {stage = stage} {next = next} line rest more one f w = record {
  mid = w.mid;
  n = w.n + 1;
  m = w.m;
  first = λ tail. subst (λ t. Leads stage t (w.n + 1) w.mid tail) (sym (append_assoc line (10 ∷ rest) tail)) (ahead (rest ++ tail) tail (w.first tail));
  later = w.later;
}
  where
    ahead : (text left : List ℕ) → Leads next text w.n w.mid left → Leads stage (line ++ 10 ∷ text) (w.n + 1) w.mid left
    ahead text left k =
        on (line_some line text) (subst (λ l. Follows stage l next) (sym (first_is line text one)) f) (subst (λ t. Leads next t w.n w.mid left) (sym (after_is line text one)) k)

pub halfway : {stage last : Stage} {text : List ℕ} {n : ℕ} → Leads stage text n last [] → (lines more : List ℕ) → AreWholeLines lines → text ≡ lines ++ more → IsHalfway stage last lines more
halfway {stage = stage} {last = last} {n = n} k lines more (inl none) is =
    subst (λ ls. IsHalfway stage last ls more) (sym none) (no_line (subst (λ t. Leads stage t n last []) (is ∙ ap (λ l. l ++ more) none) k))
halfway here lines more (inr (before, e)) is = absurd (omega (arith, ap length is, length-append lines more, ap length e, length-append before (10 ∷ [])))
halfway {stage = stage} {last = last} (on {next = next} some f k) lines more (inr (before, e)) is =
    let a = line_ahead before in
    let parts : lines ≡ a.line ++ 10 ∷ a.rest = e ∙ a.parts in
    let whole = is ∙ ap (λ l. l ++ more) parts ∙ append_assoc a.line (10 ∷ a.rest) more in
    let line = ap first_line whole ∙ first_is a.line (a.rest ++ more) a.one in
    let later = halfway k a.rest more a.whole (ap after_line whole ∙ after_is a.line (a.rest ++ more) a.one) in
    subst (λ ls. IsHalfway stage last ls more) (sym parts) (line_more a.line a.rest more a.one (subst (λ l. Follows stage l next) line f) later)

-- ---- The law

begun : {stage next : Stage} {line : List ℕ} → Follows stage line next → next ≡ header_due → ⊥
begun (header is) e = cc
begun (principal p is n s are) e = cc
begun (authority a is are) e = cc
begun (entry x l acc) e = cc
begun (end is) e = cc

-- no line leads to where the first line is due
not_begun : {stage last : Stage} {text rest : List ℕ} {n : ℕ} → Leads stage text n last rest → last ≡ header_due → (stage ≡ header_due) × (text ≡ rest)
not_begun here e = (e, refl)
not_begun (on some f k) e = absurd (begun f (not_begun k e).0)

abbrev IsRecovered : List ℕ → Head → List EntryTree → Type 0
IsRecovered text h es = (g : Head) × (fs : List EntryTree) × IsFrontOf g h fs es × ReadsCut text g fs

module _ (text missing : List ℕ) (h : Head) (es : List EntryTree) (short : length (text ++ missing) ≤ most_bytes) (fed : IsOneLine text → ⊥) (lines last : List ℕ) (cut : IsCutInto text lines last) where
  fits : length text ≤ most_bytes
  fits = omega (arith, short, length-append text missing)

  -- what is kept where the last line is not `end`
  by_lines : (g : Head) (fs : List EntryTree) → IsFrontOf g h fs es → last ≢ codes "end" → ReadsOpen lines g fs → IsRecovered text h es
  by_lines g fs front differs reads = (
    g,
    fs,
    front,
    record {
      short = fits;
      kept = lines;
      keeps = record { lines = lines; last = last; cut = cut; choice = inr (differs, refl) };
      reads = reads;
    },
  )

  -- and where it is
  by_end : (g : Head) (fs : List EntryTree) → IsFrontOf g h fs es → last ≡ codes "end" → ReadsOpen text g fs → IsRecovered text h es
  by_end g fs front is reads = (
    g,
    fs,
    front,
    record {
      short = fits;
      kept = text;
      keeps = record { lines = lines; last = last; cut = cut; choice = inl (is, refl) };
      reads = reads;
    },
  )

  ending : (g : Head) (fs : List EntryTree) → last ≡ codes "end" → Leads (open_with g fs) last 1 (ended_with g fs) []
  ending g fs is = subst (λ l. Leads (open_with g fs) l 1 (ended_with g fs) []) (sym is) (on (λ e. cc) (end refl) here)

  from : (mid : Stage) (n m : ℕ) → ((tail : List ℕ) → Leads header_due (lines ++ tail) n mid tail) → Leads mid (last ++ missing) m (ended_with h es) [] → IsWithin mid h es
      → (last ≡ codes "end") ⊎ (last ≢ codes "end") → IsRecovered text h es
  from header_due n m first later w of =
      let none : lines ++ [] ≡ [] = (not_begun (first []) refl).1 in
      let all : last ≡ text = sym (cut.parts ∙ ap (λ l. l ++ last) (sym (append-nil lines) ∙ none)) in
      absurd (fed (subst IsOneLine all cut.unfed))
  from (open_with g fs) n m first later (of_open front) (inl is) =
      let k = leads_on (first last) (ending g fs is) in
      by_end g fs front is (k.0, inr (subst (λ t. Leads header_due t k.0 (ended_with g fs) []) (sym cut.parts) k.2))
  from (open_with g fs) n m first later (of_open front) (inr differs) =
      by_lines g fs front differs (n, inl (subst (λ t. Leads header_due t n (open_with g fs) []) (append-nil lines) (first [])))
  from (ended_with g fs) n m first later (of_ended front) (inl is) =
      let none : last ++ missing ≡ [] = (ended_same later).2 in
      absurd (omega (arith, ap length none, length-append last missing, ap length is))
  from (ended_with g fs) n m first later (of_ended front) (inr differs) =
      by_lines g fs front differs (n, inr (subst (λ t. Leads header_due t n (ended_with g fs) []) (append-nil lines) (first [])))

pub cut_anywhere_is_recovered : CutAnywhereIsRecovered
cut_anywhere_is_recovered text missing h es (short, n, led) fed =
    let s = split_of text in
    let w = halfway led s.lines (s.last ++ missing) s.cut.whole (ap (λ t. t ++ missing) s.cut.parts ∙ append_assoc s.lines s.last missing) in
    from text missing h es short fed s.lines s.last s.cut w.mid w.n w.m w.first w.later (within w.later) (end_or s.last)
