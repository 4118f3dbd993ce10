-- The line of an entry is cut in one way.
use Rattle.std.proofs.Common.{◌≡◌, ◌≢◌, ◌<◌, ◌≤◌, ◌^◌, ℕ, List, [], ◌∷◌, ◌++◌, codes, Option, Some, None, Result, Ok, Err, inl, inr, refl, sym, ap, ◌∙◌, subst, arith}
use Rattle.std.specs.Fmt.{decimal}
use Rattle.std.proofs.lemmas.Fmt.{decimal_injective}
use Rattle.nal_term.specs.Names.{IsName}
use Rattle.policy_history.specs.declared.heads.Head.{Head}
use Rattle.policy_history.specs.declared.events.Due.{Due}
use Rattle.policy_history.specs.declared.events.Refusal.{Refusal}
use Rattle.policy_history.specs.Machine.{refusal_of}
use Rattle.policy_history.specs.States.{State}
use Rattle.policy_history.specs.Values.{decision}
use Rattle.policy_history.specs.Events.{EntryTree, EventTree, numbered}
use Rattle.policy_history.specs.PolicyLines.{spaced}
use Rattle.journal_text.specs.PolicyText.{IsEntryLine, IsEventText}
use Rattle.journal_text.specs.Inner.PolicyReading.{IsHeadLine, IsUnspaced}
use Rattle.journal_text.proofs.PolicyCuts.{cut_same, name_unspaced, number_first, number_unspaced}

-- no entry's line begins with a letter
abbrev pub IsNoEntry : List ℕ → Type 0
IsNoEntry line = (h : Head) (e : EntryTree) → IsEntryLine h line e → ⊥

letter_no_entry : (line : List ℕ) (b : ℕ) (bs : List ℕ) → line ≡ b ∷ bs → 58 ≤ b → IsNoEntry line
letter_no_entry line b bs is high h e l =
    let first = number_first e.session (spaced l.name l.text) b bs l.session.1 (sym l.formed ∙ is) in
    absurd (omega (arith, first, high))

pub head_line_no_entry : (line : List ℕ) → IsHeadLine line → IsNoEntry line
head_line_no_entry line (inl p) = letter_no_entry line 112 (codes "rincipal " ++ p.0) p.1 (omega arith)
head_line_no_entry line (inr a) = letter_no_entry line 97 (codes "uthority " ++ a.0) a.1 (omega arith)

pub end_no_entry : (line : List ℕ) → line ≡ codes "end" → IsNoEntry line
end_no_entry line e = letter_no_entry line 101 (codes "nd") e (omega arith)

pub empty_no_entry : IsNoEntry []
empty_no_entry h e l = nothing (decimal e.session) (spaced l.name l.text) l.formed
  where
    nothing : (ds rest : List ℕ) → [] ≡ spaced ds rest → ⊥
    nothing [] rest is = cc
    nothing (d ∷ ds) rest is = cc

-- the words of an entry's line that was cut twice
pub record HasWords (e : EntryTree) (session name text : List ℕ) (h : Head) : Type 0 where
  pub session_is : session ≡ decimal e.session
  pub range : (1 ≤ e.session) × (e.session < 2 ^ 64)
  pub principal : numbered h.principals name ≡ Some e.principal
  pub named : IsName name
  pub event : IsEventText text e.event

-- the line begins with the session's word
pub session_word : {h : Head} {e : EntryTree} (line session rest : List ℕ) → line ≡ spaced session rest → IsUnspaced session → (l : IsEntryLine h line e)
    → (session ≡ decimal e.session) × (rest ≡ spaced l.name l.text)
session_word {e = e} line session rest cut plain l = cut_same session rest (decimal e.session) (spaced l.name l.text) (sym cut ∙ l.formed) plain (number_unspaced e.session l.session.1)

pub entry_words : {h : Head} {e : EntryTree} (line session rest name text : List ℕ) → line ≡ spaced session rest → IsUnspaced session → rest ≡ spaced name text → IsUnspaced name
    → IsEntryLine h line e → HasWords e session name text h
entry_words {h = h} {e = e} line session rest name text cut plain cut2 plain2 l =
    let one = session_word line session rest cut plain l in
    let two = cut_same name text l.name l.text (sym cut2 ∙ one.1) plain2 (name_unspaced l.name l.named) in
    record {
      session_is = one.0;
      range = l.session;
      principal = ap (numbered h.principals) two.0 ∙ l.principal;
      named = subst IsName (sym two.0) l.named;
      event = subst (λ bytes. IsEventText bytes e.event) (sym two.1) l.event;
    }

abbrev pub entry_of : ℕ → ℕ → EventTree → EntryTree
entry_of session principal event = record { session = session; principal = principal; event = event }

some_same : (p q : ℕ) → Some p ≡ Some q → p ≡ q
some_same p q e = cc

-- a line whose words are all read is that of this entry
pub entry_line : (h : Head) (line word rest name text : List ℕ) (session principal : ℕ) (event : EventTree) → line ≡ spaced word rest → rest ≡ spaced name text
    → IsName name → word ≡ decimal session → 1 ≤ session → session < 2 ^ 64 → numbered h.principals name ≡ Some principal → IsEventText text event
    → IsEntryLine h line (entry_of session principal event)
entry_line h line word rest name text session principal event cut cut2 named is one below known read = record {
  name = name;
  text = text;
  formed = cut ∙ ap (λ w. spaced w rest) is ∙ ap (λ r. spaced (decimal session) r) cut2;
  named = named;
  session = (one, below);
  principal = known;
  event = read;
}

-- the line is that of this entry alone
pub record IsSoleEntry (h : Head) (line : List ℕ) (e : EntryTree) : Type 0 where
  pub read : IsEntryLine h line e
  pub only : (other : EntryTree) → IsEntryLine h line other → other ≡ e

-- which it is where its words are those of one event
pub sole_entry : {h : Head} {line : List ℕ} {e : EntryTree} (l : IsEntryLine h line e) → ((other : EventTree) → IsEventText l.text other → other ≡ e.event) → IsSoleEntry h line e
sole_entry {line = line} {e = e} l one = record {
  read = l;
  only = λ other m.
      let w = entry_words line (decimal e.session) (spaced l.name l.text) l.name l.text l.formed (number_unspaced e.session l.session.1) refl (name_unspaced l.name l.named) m in
      let s : other.session ≡ e.session = decimal_injective other.session e.session w.range.1 l.session.1 (sym w.session_is) in
      let p : other.principal ≡ e.principal = some_same _ _ (sym w.principal ∙ l.principal) in
      let x : other.event ≡ e.event = one other.event w.event in
      λ i. entry_of (s i) (p i) (x i);
}

-- ---- A line that is no entry's

pub no_first_space : {h : Head} (line : List ℕ) → ((word rest : List ℕ) → line ≢ spaced word rest) → (e : EntryTree) → IsEntryLine h line e → ⊥
no_first_space line none e l = none (decimal e.session) (spaced l.name l.text) l.formed

pub no_second_space : {h : Head} (line session rest : List ℕ) → line ≡ spaced session rest → IsUnspaced session → ((word text : List ℕ) → rest ≢ spaced word text)
    → (e : EntryTree) → IsEntryLine h line e → ⊥
no_second_space line session rest cut plain none e l = none l.name l.text (session_word line session rest cut plain l).1

pub no_session : {h : Head} (line session rest : List ℕ) → line ≡ spaced session rest → IsUnspaced session → ((n : ℕ) → 1 ≤ n → n < 2 ^ 64 → session ≢ decimal n)
    → (e : EntryTree) → IsEntryLine h line e → ⊥
no_session line session rest cut plain none e l = none e.session l.session.0 l.session.1 (session_word line session rest cut plain l).0

pub no_principal : {h : Head} (line session rest name text : List ℕ) → line ≡ spaced session rest → IsUnspaced session → rest ≡ spaced name text → IsUnspaced name
    → None ≡ numbered h.principals name → (e : EntryTree) → IsEntryLine h line e → ⊥
no_principal line session rest name text cut plain cut2 plain2 none e l =
    let w = entry_words line session rest name text cut plain cut2 plain2 l in
    absurd (cc (none, w.principal))

pub no_event : {h : Head} (line session rest name text : List ℕ) → line ≡ spaced session rest → IsUnspaced session → rest ≡ spaced name text → IsUnspaced name
    → ((e : EventTree) → IsEventText text e → ⊥) → (e : EntryTree) → IsEntryLine h line e → ⊥
no_event line session rest name text cut plain cut2 plain2 none e l = none e.event (entry_words line session rest name text cut plain cut2 plain2 l).event

-- ---- Decisions

pub decision_refused : (h : Head) (s : State) (session p : ℕ) (e : EventTree) (r : Refusal) → Err r ≡ decision h s session p e → Some r ≡ refusal_of h s session p e
decision_refused h s session p e r is = of (refusal_of h s session p e) refl
  where
    of : (o : Option Refusal) → refusal_of h s session p e ≡ o → Some r ≡ refusal_of h s session p e
    of (Some q) x = let y = rw x at is in rw x (cc)
    of None x = let y = rw x at is in absurd (cc)

pub decision_accepted : (h : Head) (s : State) (session p : ℕ) (e : EventTree) (due : Due) → Ok due ≡ decision h s session p e → None ≡ refusal_of h s session p e
decision_accepted h s session p e due is = of (refusal_of h s session p e) refl
  where
    of : (o : Option Refusal) → refusal_of h s session p e ≡ o → None ≡ refusal_of h s session p e
    of (Some q) x = let y = rw x at is in absurd (cc)
    of None x = sym x

-- the same error of another kind of result
pub err_over : {T U E : Type 0} (a b : E) → ◌≡◌ {A = Result T E} (Err a) (Err b) → ◌≡◌ {A = Result U E} (Err a) (Err b)
err_over a b e = let h : a ≡ b = cc in ap (λ x. Err x) h
