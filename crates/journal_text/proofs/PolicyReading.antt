-- How the lines of a policy's text lead from stage to stage.
use Rattle.std.proofs.Common.{◌≡◌, ◌≢◌, ◌<◌, ◌≤◌, ◌+◌, ◌-◌, ◌^◌, ◌⊎◌, ◌==◌, Bool, true, false, inl, inr, ℕ, List, [], ◌∷◌, ◌++◌, length, codes, Some, None, Result, Ok, Err, IfOk, IfErr, refl, sym, ap, ◌∙◌, subst, arith}
use Rattle.std.proofs.lemmas.Bool.Decides.{Decides-eqb}
use Rattle.std.proofs.lemmas.List.Elements.{All-nil}
use Rattle.policy_history.specs.declared.heads.Head.{Head}
use Rattle.policy_history.specs.declared.events.Refusal.{Refusal}
use Rattle.policy_history.specs.Events.{EntryTree}
use Rattle.policy_history.specs.Machine.{IsAccepted, refusal_of, replay}
use Rattle.policy_history.specs.PolicyLines.{spaced}
use Rattle.policy_history.specs.Values.{History, entry_trees, greatest_of}
use Rattle.text_lines.specs.Lines.{after_line, first_line}
use Rattle.journal_text.specs.PolicyText.{Fault, Follows, IsEntryLine, IsErrorOf, IsFormlessAt, IsRefusedAt, IsWrongFrom, Leads, Stage, authority, end, ended_with, entry, formless, head_of, header, header_due, here, most_bytes, on, open_with, principal, refusal}
use Rattle.journal_text.specs.CutPolicies.{ReadsOpen}
use Rattle.journal_text.specs.PolicyFronts.{AreBelow, IsAboveIn, IsFront, IsFrontError, IsWrongIn}
use Rattle.journal_text.specs.Inner.PolicyReading.{IsErrorFrom, IsFirstWrong, IsHeadError, IsHeadLine, IsHeadRead, IsLineAdded, IsLineError, IsLineRefused, IsLineWrong, IsOpenError, IsRead, ReadsOn, reached}
use Rattle.journal_text.proofs.ForCallers.{above_last, greatest_below}
use Rattle.journal_text.specs.declared.policy_reader.PolicyError.{PolicyError}
use Rattle.journal_text.specs.declared.policy_reader.PolicyError.TheVariants.{Bad, Refused, TooLong, Memory}
use Rattle.journal_text.proofs.PolicyEntries.{IsNoEntry, IsSoleEntry, end_no_entry, head_line_no_entry}

-- ---- One line more

-- lines that lead to a stage, and one that leads on from there
pub leads_more : {stage last next : Stage} {text rest : List ℕ} {n : ℕ} → Leads stage text n last rest → rest ≢ [] → Follows last (first_line rest) next
    → Leads stage text (n + 1) next (after_line rest)
leads_more here some f = on some f here
leads_more (on some g l) more f = on some g (leads_more l more f)

-- lines that lead to a stage, and those that lead on from there
pub leads_on : {stage mid last : Stage} {text rest left : List ℕ} {n m : ℕ} → Leads stage text n mid rest → Leads mid rest m last left
    → (k : ℕ) × (k ≡ n + m) × Leads stage text k last left
leads_on {m = m} here l = (m, omega arith, l)
leads_on (on some f k) l = let h = leads_on k l in (h.0 + 1, omega (arith, h.1), on some f h.2)

-- ---- The header

pub header_one : {line : List ℕ} {next : Stage} → Follows header_due line next → next ≡ open_with (head_of [] []) []
header_one (header e) = refl

header_is : {line : List ℕ} {next : Stage} → Follows header_due line next → (line ≡ codes "nexus 1") ⊎ (line ≡ codes "nexus 2")
header_is (header e) = e

empty_or : (text : List ℕ) → (text ≡ []) ⊎ (text ≢ [])
empty_or [] = inl refl
empty_or (b ∷ bs) = inr (λ e. cc)

formless_header : (text : List ℕ) → ((first_line text ≡ codes "nexus 1") ⊎ (first_line text ≡ codes "nexus 2") → ⊥) → (text ≡ []) ⊎ (text ≢ []) → IsFormlessAt header_due text
formless_header text bad (inl none) = inl (none, tt)
formless_header text bad (inr some) = inr (some, λ next f. bad (header_is f), λ r x. x)

header_there : (text : List ℕ) → (text ≢ []) ⊎ (text ≡ [])
header_there [] = inr refl
header_there (b ∷ bs) = inl (λ e. cc)

pub header_wrong : (text : List ℕ) → ((first_line text ≡ codes "nexus 1") ⊎ (first_line text ≡ codes "nexus 2") → ⊥) → (most : ℕ) → IsFirstWrong most text 1 formless
header_wrong text bad most = record {
  wrong = record { before = 0; last = header_due; rest = text; number = refl; led = here; unended = tt; below = tt; wrong = formless_header text bad (empty_or text) };
  there = header_there text;
}

header_some : (line : List ℕ) → (line ≡ codes "nexus 1") ⊎ (line ≡ codes "nexus 2") → line ≢ []
header_some line (inl e) n = cc
header_some line (inr e) n = cc

first_some : (text : List ℕ) → first_line text ≢ [] → text ≢ []
first_some text some e = some (ap first_line e)

pub some_length : (text : List ℕ) → text ≢ [] → 0 < length text
some_length [] some = absurd (some refl)
some_length (b ∷ bs) some = omega arith

pub header_text_some : (text : List ℕ) → (first_line text ≡ codes "nexus 1") ⊎ (first_line text ≡ codes "nexus 2") → text ≢ []
header_text_some text e = first_some text (header_some (first_line text) e)

pub header_leads : (text rest : List ℕ) → (first_line text ≡ codes "nexus 1") ⊎ (first_line text ≡ codes "nexus 2") → rest ≡ after_line text
    → Leads header_due text 1 (open_with (head_of [] []) []) rest
header_leads text rest e is = subst (λ t. Leads header_due text 1 (open_with (head_of [] []) []) t) (sym is) (on (header_text_some text e) (header e) here)

-- ---- The lines of a head

head_line_some : (line : List ℕ) → IsHeadLine line → line ≢ []
head_line_some line (inl p) e = absurd (omega (arith, sym (ap length p.1) ∙ ap length e))
head_line_some line (inr a) e = absurd (omega (arith, sym (ap length a.1) ∙ ap length e))

pub head_text_some : (text : List ℕ) → IsHeadLine (first_line text) → text ≢ []
head_text_some text l = first_some text (head_line_some (first_line text) l)

no_refusal : (h : Head) (es : List EntryTree) {line : List ℕ} → IsNoEntry line → (r : Refusal) → IsRefusedAt (open_with h es) line r → ⊥
no_refusal h es none r x = none h x.0 x.1

-- a line of a head that may not stand there is wrong
pub head_line_wrong : {text rest : List ℕ} {n : ℕ} {h : Head} → Leads header_due text n (open_with h []) rest → IsHeadLine (first_line rest)
    → ((next : Stage) → Follows (open_with h []) (first_line rest) next → ⊥) → (most : ℕ) → IsFirstWrong most text (n + 1) formless
head_line_wrong {rest = rest} {n = n} {h = h} l is bad most = record {
  wrong = record {
    before = n;
    last = open_with h [];
    rest = rest;
    number = refl;
    led = l;
    unended = tt;
    below = All-nil (λ (e : EntryTree). e.session ≤ most);
    wrong = inr (head_text_some rest is, bad, no_refusal h [] (head_line_no_entry (first_line rest) is));
  };
  there = inl (head_text_some rest is);
}

-- ---- The lines after the head

-- what may follow where the policy is open
pub data IsCase (h : Head) (es : List EntryTree) (line : List ℕ) (next : Stage) : Type 0 where
  by_head : es ≡ [] → IsHeadLine line → IsCase h es line next
  by_entry : (e : EntryTree) → IsEntryLine h line e → IsAccepted h (replay h es) e → next ≡ open_with h (es ++ e ∷ []) → IsCase h es line next
  by_end : line ≡ codes "end" → next ≡ ended_with h es → IsCase h es line next

pub open_cases : {h : Head} {es : List EntryTree} {line : List ℕ} {next : Stage} → Follows (open_with h es) line next → IsCase h es line next
open_cases (principal p e n s are) = by_head refl (inl (spaced p.name p.secret, e))
open_cases (authority a e are) = by_head refl (inr (_, e))
open_cases (entry e l acc) = by_entry e l acc refl
open_cases (end e) = by_end e refl

-- no line of a head may stand here
abbrev pub IsPast : List EntryTree → List ℕ → Type 0
IsPast es line = es ≡ [] → IsHeadLine line → ⊥

-- a line that is neither an entry's nor the last may not stand here
pub entry_bad : {h : Head} {es : List EntryTree} {line : List ℕ} → IsPast es line → ((e : EntryTree) → IsEntryLine h line e → ⊥) → (line ≡ codes "end" → ⊥)
    → (next : Stage) → Follows (open_with h es) line next → ⊥
entry_bad {h = h} {es = es} {line = line} past none not_end next f = of (open_cases f)
  where
    of : IsCase h es line next → ⊥
    of (by_head e l) = past e l
    of (by_entry e l acc n) = none e l
    of (by_end e n) = not_end e

-- nor may that of an entry which is refused
pub entry_refused : {h : Head} {es : List EntryTree} {line : List ℕ} (e : EntryTree) (r : Refusal) → IsPast es line → IsSoleEntry h line e
    → refusal_of h (replay h es) e.session e.principal e.event ≡ Some r → (line ≡ codes "end" → ⊥) → (next : Stage) → Follows (open_with h es) line next → ⊥
entry_refused {h = h} {es = es} {line = line} e r past sole refused not_end next f = of (open_cases f)
  where
    of : IsCase h es line next → ⊥
    of (by_head n l) = past n l
    of (by_entry other l acc n) =
        let same = sole.only other l in
        let free : refusal_of h (replay h es) e.session e.principal e.event ≡ None = subst (λ (x : EntryTree). refusal_of h (replay h es) x.session x.principal x.event ≡ None) same acc.1 in
        absurd (cc (refused, free))
    of (by_end n m) = not_end n

-- one stage follows an entry that is accepted
pub entry_only : {h : Head} {es new : List EntryTree} {line : List ℕ} (e : EntryTree) → IsPast es line → IsSoleEntry h line e → new ≡ es ++ e ∷ [] → (line ≡ codes "end" → ⊥)
    → (next : Stage) → Follows (open_with h es) line next → next ≡ open_with h new
entry_only {h = h} {es = es} {new = new} {line = line} e past sole added not_end next f = of (open_cases f)
  where
    of : IsCase h es line next → next ≡ open_with h new
    of (by_head n l) = absurd (past n l)
    of (by_entry other l acc n) = n ∙ ap (λ x. open_with h (es ++ x ∷ [])) (sole.only other l) ∙ sym (ap (open_with h) added)
    of (by_end n m) = absurd (not_end n)

-- and one the last line
pub end_only : {h : Head} {es : List EntryTree} {line : List ℕ} → line ≡ codes "end" → IsPast es line → (next : Stage) → Follows (open_with h es) line next → next ≡ ended_with h es
end_only {h = h} {es = es} {line = line} is past next f = of (open_cases f)
  where
    of : IsCase h es line next → next ≡ ended_with h es
    of (by_head n l) = absurd (past n l)
    of (by_entry e l acc n) = absurd (end_no_entry line is h e l)
    of (by_end n m) = m

pub nothing_after : {line : List ℕ} {h : Head} {es : List EntryTree} {next : Stage} → Follows (ended_with h es) line next → ⊥
nothing_after f = elim f [ ]

-- the entry of the line, at the head that the journal keeps
pub record IsAddedHere (h : Head) (es new : List EntryTree) (line : List ℕ) : Type 0 where
  pub entry_is : EntryTree
  pub read : IsEntryLine h line entry_is
  pub accepted : IsAccepted h (replay h es) entry_is
  pub added : new ≡ es ++ entry_is ∷ []

-- a text that ends before the policy does
pub wrong_early : {stage : Stage} {text rest : List ℕ} {n : ℕ} {h : Head} {es : List EntryTree} (most : ℕ) → Leads stage text n (open_with h es) rest → AreBelow most es → rest ≡ []
    → IsWrongIn most stage text (n + 1) formless
wrong_early {rest = rest} {n = n} {h = h} {es = es} most l below none =
    record { before = n; last = open_with h es; rest = rest; number = refl; led = l; unended = tt; below = below; wrong = inl (none, tt) }

-- a line that has no form
pub wrong_line : {stage : Stage} {text rest : List ℕ} {n : ℕ} {h : Head} {es : List EntryTree} (most : ℕ) → Leads stage text n (open_with h es) rest → AreBelow most es → rest ≢ []
    → ((next : Stage) → Follows (open_with h es) (first_line rest) next → ⊥) → ((e : EntryTree) → IsEntryLine h (first_line rest) e → ⊥) → IsLineWrong most stage text (n + 1) formless
wrong_line {rest = rest} {n = n} {h = h} {es = es} most l below some bad none = record {
  wrong = record { before = n; last = open_with h es; rest = rest; number = refl; led = l; unended = tt; below = below; wrong = inr (some, bad, λ r x. none x.0 x.1) };
  there = some;
}

-- an entry that is refused
pub wrong_entry : {stage : Stage} {text rest : List ℕ} {n : ℕ} {h : Head} {es : List EntryTree} (most : ℕ) (e : EntryTree) (r : Refusal) → Leads stage text n (open_with h es) rest → AreBelow most es → rest ≢ []
    → IsEntryLine h (first_line rest) e → refusal_of h (replay h es) e.session e.principal e.event ≡ Some r → IsLineWrong most stage text (n + 1) (refusal r)
wrong_entry {rest = rest} {n = n} {h = h} {es = es} most e r l below some line refused = record {
  wrong = record { before = n; last = open_with h es; rest = rest; number = refl; led = l; unended = tt; below = below; wrong = (some, (e, line, refused)) };
  there = some;
}

-- an entry whose session is above the bound
pub above_entry : {stage : Stage} {text rest : List ℕ} {n : ℕ} {h : Head} {es new : List EntryTree} (most : ℕ) → Leads stage text n (open_with h es) rest → AreBelow most es → rest ≢ []
    → IsAddedHere h es new (first_line rest) → most < greatest_of new → IsAboveIn most stage text (n + 1)
above_entry {rest = rest} {n = n} {h = h} {es = es} {new = new} most l below some a above = record {
  before = n;
  head = h;
  entries = es;
  rest = rest;
  last = a.entry_is;
  number = refl;
  led = l;
  below = below;
  some = some;
  line = a.read;
  accepted = a.accepted;
  above = above_last most es a.entry_is below (subst (λ xs. most < greatest_of xs) a.added above);
}

-- and one whose session is not
pub below_entry : {h : Head} {es new : List EntryTree} {line : List ℕ} (most : ℕ) → IsAddedHere h es new line → greatest_of new ≤ most → AreBelow most new
below_entry {new = new} most a bound = greatest_below most new bound

-- a line behind the last
pub wrong_behind : {stage : Stage} {text rest : List ℕ} {n : ℕ} {h : Head} {es : List EntryTree} → Leads stage text n (ended_with h es) rest → rest ≢ [] → IsWrongFrom stage text (n + 1) formless
wrong_behind {rest = rest} {n = n} {h = h} {es = es} l more =
    record { before = n; last = ended_with h es; rest = rest; number = refl; led = l; wrong = inr (more, λ next f. nothing_after f, λ r x. x) }

pub ended_same : {text : List ℕ} {n : ℕ} {h h' : Head} {es es' : List EntryTree} → Leads (ended_with h es) text n (ended_with h' es') [] → (h' ≡ h) × (es' ≡ es) × (text ≡ [])
ended_same here = (refl, refl, refl)
ended_same (on some f l) = absurd (nothing_after f)

-- ---- What one turn of the reader leaves

pub empty_of : (xs : List ℕ) → (length xs == 0) ≡ true → xs ≡ []
empty_of [] e = refl
empty_of (x ∷ xs) e = let h = (Decides-eqb (length (x ∷ xs)) 0).0 e in absurd (omega (arith, h))

pub some_of : (xs : List ℕ) → (length xs == 0) ≡ false → xs ≢ []
some_of xs e q = let t = (Decides-eqb (length xs) 0).1 (ap length q) in absurd (cc (t, e))

not_nothing : {X : Type 0} (xs : List X) (x : X) → xs ++ x ∷ [] ≢ []
not_nothing [] x e = cc
not_nothing (y ∷ ys) x e = cc

pub added_here : (h : Head) (old new : History) (line first : List ℕ) → old.head ≡ h → line ≡ first → IsLineAdded old new line
    → IsAddedHere h (entry_trees old.entries) (entry_trees new.entries) first
added_here h old new line first hd le a = record {
  entry_is = a.entry;
  read = subst (λ l. IsEntryLine h l a.entry) le (subst (λ g. IsEntryLine g line a.entry) hd a.read);
  accepted = subst (λ g. IsAccepted g (replay g (entry_trees old.entries)) a.entry) hd a.accepted;
  added = a.added;
}

pub record IsRefusedHere (h : Head) (es : List EntryTree) (line : List ℕ) (r : Refusal) : Type 0 where
  pub entry_is : EntryTree
  pub read : IsEntryLine h line entry_is
  pub refused : refusal_of h (replay h es) entry_is.session entry_is.principal entry_is.event ≡ Some r

pub refused_here : (h : Head) (old : History) (line first : List ℕ) (r : Refusal) → old.head ≡ h → line ≡ first → IsLineRefused old line r
    → IsRefusedHere h (entry_trees old.entries) first r
refused_here h old line first r hd le a = record {
  entry_is = a.entry;
  read = subst (λ l. IsEntryLine h l a.entry) le (subst (λ g. IsEntryLine g line a.entry) hd a.read);
  refused = subst (λ g. refusal_of g (replay g (entry_trees old.entries)) a.entry.session a.entry.principal a.entry.event ≡ Some r) hd a.refused;
}

pub bad_here : (h g : Head) (line first : List ℕ) → g ≡ h → line ≡ first → ((e : EntryTree) → IsEntryLine g line e → ⊥) → (e : EntryTree) → IsEntryLine h first e → ⊥
bad_here h g line first hd le none e l = none e (subst (λ x. IsEntryLine x line e) (sym hd) (subst (λ y. IsEntryLine h y e) (sym le) l))

pub entry_leads : {stage : Stage} {text rest : List ℕ} {n : ℕ} {h : Head} {es : List EntryTree} (new : List EntryTree) (left : List ℕ) → Leads stage text n (open_with h es) rest → rest ≢ []
    → IsAddedHere h es new (first_line rest) → left ≡ after_line rest → Leads stage text (n + 1) (open_with h new) left
entry_leads {stage = stage} {text = text} {rest = rest} {n = n} {h = h} {es = es} new left l some a is =
    let f = leads_more l some (entry {h = h} {es = es} a.entry_is a.read a.accepted) in
    subst (λ t. Leads stage text (n + 1) (open_with h new) t) (sym is) (subst (λ xs. Leads stage text (n + 1) (open_with h xs) (after_line rest)) (sym a.added) f)

pub entry_past : {h : Head} {es new : List EntryTree} {line : List ℕ} (first : List ℕ) → IsAddedHere h es new line → IsPast new first
entry_past {es = es} first a none l = not_nothing es a.entry_is (sym a.added ∙ none)

-- the line `end`
pub last_read : {stage : Stage} {text rest : List ℕ} {n : ℕ} {h : Head} {es : List EntryTree} (most before line : ℕ) (h' : Head) (left : List ℕ) → h' ≡ h → line ≡ before + n
    → Leads stage text n (open_with h es) rest → AreBelow most es → rest ≢ [] → first_line rest ≡ codes "end" → left ≡ after_line rest
    → ReadsOn most before stage text h' es (line + 1) left true
last_read {stage = stage} {text = text} {rest = rest} {n = n} {h = h} {es = es} most before line h' left hd number l below some is last =
    let f = leads_more l some (end is) in
    let g : Leads stage text (n + 1) (ended_with h' es) (after_line rest) = subst (λ (x : Head). Leads stage text (n + 1) (ended_with x es) (after_line rest)) (sym hd) f in
    record {
      n = n + 1;
      lines_are = omega (arith, number);
      led = subst (λ t. Leads stage text (n + 1) (ended_with h' es) t) (sym last) g;
      below = below;
      over = λ e. absurd (cc e);
    }

-- a text that ends before the policy does
pub all_read : {stage : Stage} {text rest : List ℕ} {n : ℕ} {h : Head} {es : List EntryTree} (most before line : ℕ) (h' : Head) → h' ≡ h → line ≡ before + n
    → Leads stage text n (open_with h es) rest → AreBelow most es → rest ≡ [] → ReadsOn most before stage text h' es line rest false
all_read {stage = stage} {text = text} {rest = rest} {n = n} {es = es} most before line h' hd number l below none =
    record { n = n; lines_are = number; led = subst (λ (x : Head). Leads stage text n (open_with x es) rest) (sym hd) l; below = below; over = λ e. none }

-- ---- The whole text

wrong_after : {stage mid : Stage} {text rest : List ℕ} {n k : ℕ} {fault : Fault} (most : ℕ) → Leads stage text n mid rest → IsWrongIn most mid rest k fault → IsWrongIn most stage text (n + k) fault
wrong_after most l w =
    let h = leads_on l w.led in
    record { before = h.0; last = w.last; rest = w.rest; number = omega (arith, w.number, h.1); led = h.2; unended = w.unended; below = w.below; wrong = w.wrong }

above_after : {stage mid : Stage} {text rest : List ℕ} {n k : ℕ} (most : ℕ) → Leads stage text n mid rest → IsAboveIn most mid rest k → IsAboveIn most stage text (n + k)
above_after most l w =
    let h = leads_on l w.led in
    record {
      before = h.0;
      head = w.head;
      entries = w.entries;
      rest = w.rest;
      last = w.last;
      number = omega (arith, w.number, h.1);
      led = h.2;
      below = w.below;
      some = w.some;
      line = w.line;
      accepted = w.accepted;
      above = w.above;
    }

line_after : {text rest : List ℕ} {n k : ℕ} {h : Head} {fault : Fault} (most : ℕ) → Leads header_due text n (open_with h []) rest → IsLineWrong most (open_with h []) rest k fault
    → IsFirstWrong most text (n + k) fault
unfolding wrong_after
line_after most l w = record { wrong = wrong_after most l w.wrong; there = inl w.there }

-- what a head that was read and the lines after it make together
pub line_error : (text : List ℕ) {rest : List ℕ} {n : ℕ} {h : Head} (most : ℕ) (e : PolicyError) → IsHeadRead text h rest n → IsErrorFrom most n (open_with h []) rest e → IsLineError most text e
line_error text most (Bad k) read (j, e, inl w) = inl (subst (λ m. IsFirstWrong most text m formless) (sym e) (line_after most read.led w))
line_error text most (Bad k) read (j, e, inr w) = inr (subst (λ m. IsAboveIn most header_due text m) (sym e) (above_after most read.led w))
line_error text most (Refused k number) read w = (w.0, w.1, subst (λ m. IsFirstWrong most text m (refusal w.0)) (sym w.3) (line_after most read.led w.4))
line_error text most TooLong read w = absurd w
line_error text most Memory read w = tt

pub read_of : {text rest left : List ℕ} {n lines : ℕ} {h g : Head} {es : List EntryTree} {ended : Bool} (most : ℕ) → IsHeadRead text h rest n
    → ReadsOn most n (open_with h []) rest g es lines left ended → IsRead most text g es lines left ended
read_of {text = text} {left = left} {g = g} {es = es} {ended = ended} most read later =
    let l = leads_on read.led later.led in
    record { led = subst (λ m. Leads header_due text m (reached ended g es) left) (l.1 ∙ sym later.lines_are) l.2; below = later.below; over = later.over }

-- a head that is wrong is wrong whatever the bound
pub head_error : (text : List ℕ) (most : ℕ) (e : PolicyError) → IsHeadError text e → IsLineError most text e
head_error text most (Bad k) w = inl (w most)
head_error text most (Refused k number) w = absurd w
head_error text most TooLong w = absurd w
head_error text most Memory w = tt

-- ---- A text that is to be ended

pub front_of : {text rest : List ℕ} {lines : ℕ} {h : Head} {es : List EntryTree} {ended : Bool} (most : ℕ) → ended ≡ true → IsRead most text h es lines rest ended → IsFront most text h es lines rest
front_of {text = text} {rest = rest} {lines = lines} {h = h} {es = es} most is read =
    record { led = subst (λ b. Leads header_due text lines (reached b h es) rest) is read.led; below = read.below }

pub unended_error : {text rest : List ℕ} {lines : ℕ} {h : Head} {es : List EntryTree} {ended : Bool} (most : ℕ) → ended ≡ false → IsRead most text h es lines rest ended
    → IsFrontError most text (Bad (lines + 1))
unended_error {text = text} {rest = rest} {lines = lines} {h = h} {es = es} most is read =
    inl (wrong_early most (subst (λ b. Leads header_due text lines (reached b h es) rest) is read.led) read.below (read.over is))

pub front_error : (text : List ℕ) (most : ℕ) (e : PolicyError) → IsLineError most text e → IsFrontError most text e
front_error text most (Bad k) (inl w) = inl w.wrong
front_error text most (Bad k) (inr w) = inr w
front_error text most (Refused k number) w = (w.0, w.1, w.2.wrong)
front_error text most TooLong w = absurd w
front_error text most Memory w = tt

-- ---- A text that is a policy's as a whole

wrong_from : {most : ℕ} {stage : Stage} {text : List ℕ} {k : ℕ} {fault : Fault} → IsWrongIn most stage text k fault → IsWrongFrom stage text k fault
wrong_from w = record { before = w.before; last = w.last; rest = w.rest; number = w.number; led = w.led; wrong = w.wrong }

-- no session is above 64 bits
pub policy_error : (text : List ℕ) (e : PolicyError) → length text ≤ most_bytes → IsFrontError (2 ^ 64 - 1) text e → IsErrorOf text e
policy_error text (Bad k) short (inl w) = (short, wrong_from w)
policy_error text (Bad k) short (inr w) = absurd (omega (arith, w.above, w.line.session.1))
policy_error text (Refused k number) short w = (short, w.0, w.1, wrong_from w.2)
policy_error text TooLong short w = absurd w
policy_error text Memory short w = tt

-- ---- A text that may be cut

-- no line is missed behind the last
pub open_of : {text rest : List ℕ} {lines : ℕ} {h : Head} {es : List EntryTree} (most : ℕ) (ended : Bool) → IsRead most text h es lines rest ended → rest ≡ [] → ReadsOpen text h es
open_of {text = text} {lines = lines} {h = h} {es = es} most true read none = (lines, inr (subst (λ r. Leads header_due text lines (ended_with h es) r) none read.led))
open_of {text = text} {lines = lines} {h = h} {es = es} most false read none = (lines, inl (subst (λ r. Leads header_due text lines (open_with h es) r) none read.led))

-- what stands behind the line `end` is wrong
pub open_behind : {text rest : List ℕ} {lines : ℕ} {h : Head} {es : List EntryTree} (most : ℕ) (ended : Bool) → IsRead most text h es lines rest ended → rest ≢ []
    → IsOpenError text (Bad (lines + 1))
unfolding wrong_behind
open_behind most true read more = record { wrong = wrong_behind read.led more; there = inl more }
open_behind most false read more = absurd (more (read.over refl))

pub open_error : (text : List ℕ) (e : PolicyError) → IsLineError (2 ^ 64 - 1) text e → IsOpenError text e
unfolding wrong_from
open_error text (Bad k) (inl w) = record { wrong = wrong_from w.wrong; there = w.there }
open_error text (Bad k) (inr w) = absurd (omega (arith, w.above, w.line.session.1))
open_error text (Refused k number) w = (w.0, w.1, record { wrong = wrong_from w.2.wrong; there = w.2.there })
open_error text TooLong w = absurd w
open_error text Memory w = tt

-- ---- Answers that say more

pub if_ok : {A E : Type 0} (P Q : A → Type 0) (r : Result A E) → ((a : A) → P a → Q a) → IfOk r P → IfOk r Q
if_ok P Q (Ok a) f p = f a p
if_ok P Q (Err e) f p = tt

pub if_err : {A E : Type 0} (P Q : E → Type 0) (r : Result A E) → ((e : E) → P e → Q e) → IfErr r P → IfErr r Q
if_err P Q (Ok a) f p = tt
if_err P Q (Err e) f p = f e p
