-- The text of a legal policy is read as it.
use Rattle.std.proofs.Common.{◌≡◌, ◌*◌, ◌&&◌, nat_le, inr, ◌≢◌, ◌<◌, ◌≤◌, ◌+◌, ℕ, zero, suc, List, [], ◌∷◌, ◌++◌, length, get_or, cond, nat_lt, Bool, true, false, not, codes, Some, None, option_map, unwrap_or, refl, sym, ap, ◌∙◌, subst, arith, append_assoc, append-nil, length-append, lt-ltb}
use Rattle.std.specs.Fmt.{decimal}
use Rattle.std.specs.List.{All, AllPairs, flat_map, list_all}
use Rattle.std.proofs.lemmas.Bool.{and_parts, leb-true}
use Rattle.std.proofs.lemmas.Fmt.{length-decimal-le}
use Rattle.std.proofs.lemmas.List.{get_or_append_left, get_or_push}
use Rattle.std.proofs.lemmas.List.Elements.{All-get_or, All-head, All-tail}
use Rattle.std.proofs.lemmas.List.Sums.{position_or_len_is}
use Rattle.std.proofs.lemmas.Option.{slice_get-get_or}
use Rattle.nal_term.specs.Names.{IsName, is_reserved, is_word}
use Rattle.nal_term.specs.Secrets.{IsSecret, is_secret_byte}
use Rattle.nal_term.specs.TreeKeys.{same_bytes, same_bytes-Decides}
use Rattle.proof_text.specs.Laws.{IsOneLine}
use Rattle.policy_history.specs.declared.heads.Authority.{Authority}
use Rattle.policy_history.specs.declared.heads.Head.{Head}
use Rattle.policy_history.specs.declared.heads.Principal.{Principal}
use Rattle.policy_history.specs.Events.{EntryTree, name_of, numbered}
use Rattle.policy_history.specs.Heads.{AreAuthorities, ArePrincipals, IsAuthority}
use Rattle.policy_history.specs.Machine.{IsAccepted, IsLegal, IsLegalFrom, replay}
use Rattle.policy_history.specs.PolicyLines.{event_text, spaced}
use Rattle.policy_history.proofs.ForCallers.{lines_bounded, replay_more}
use Rattle.text_lines.specs.Lines.{after_line, first_line}
use Rattle.policy_history.specs.PolicyTexts.{authority_text, ended, front, line_of, policy_text, principal_text}
use Rattle.journal_text.specs.PolicyText.{Follows, IsEntryLine, Leads, Stage, authority, end, ended_with, entry, head_of, header, header_due, here, on, open_with, principal}
use Rattle.journal_text.specs.PolicyLaws.{IsInSession, IsKeptEntry, IsKeptHead, IsKeptPrincipal, PrintedIsRead}
use Rattle.journal_text.proofs.CutTexts.{after_is, first_is}
use Rattle.journal_text.proofs.PrintedEvents.{event_line, event_read, name_line, number_line, secret_line, three}

-- ---- A line in front of a text

some_line : (line rest : List ℕ) → line ++ 10 ∷ rest ≢ []
some_line [] rest e = cc
some_line (b ∷ bs) rest e = cc

-- some lines of the text lead on to there
abbrev pub Goes : Stage → List ℕ → Stage → Type 0
Goes stage text last = (n : ℕ) × Leads stage text n last []

pub line_goes : {stage next last : Stage} (line rest : List ℕ) → IsOneLine line → Follows stage line next → Goes next rest last → Goes stage (ended line ++ rest) last
line_goes {stage = stage} {next = next} {last = last} line rest one f g =
    let here_is : Follows stage (first_line (line ++ 10 ∷ rest)) next = subst (λ l. Follows stage l next) (sym (first_is line rest one)) f in
    let there : Leads next (after_line (line ++ 10 ∷ rest)) g.0 last [] = subst (λ t. Leads next t g.0 last []) (sym (after_is line rest one)) g.1 in
    (g.0 + 1, subst (λ t. Leads stage t (g.0 + 1) last []) (sym (append_assoc line (10 ∷ []) rest)) (on (some_line line rest) here_is there))

-- ---- Lists of lines

module _ {X : Type 0} (line : X → List ℕ) (stage : List X → Stage) (last : Stage) (IsFine : List X → X → Type 0)
    (follows : (front : List X) (x : X) → IsFine front x → IsOneLine (line x) × Follows (stage front) (line x) (stage (front ++ x ∷ []))) where
  -- each item is fine behind those before it
  abbrev pub AreFine : List X → List X → Type 0
  AreFine front [] = Unit {0}
  AreFine front (x ∷ xs) = IsFine front x × AreFine (front ++ x ∷ []) xs

  pub lines_go : (front xs : List X) (text : List ℕ) → AreFine front xs → Goes (stage (front ++ xs)) text last → Goes (stage front) (flat_map (λ x. ended (line x)) xs ++ text) last
  lines_go front [] text fine g = subst (λ f. Goes (stage f) text last) (append-nil front) g
  lines_go front (x ∷ xs) text fine g =
      let f = follows front x fine.0 in
      let later = lines_go (front ++ x ∷ []) xs text fine.1 (subst (λ fs. Goes (stage fs) text last) (sym (append_assoc front (x ∷ []) xs)) g) in
      subst (λ t. Goes (stage front) t last) (sym (append_assoc (ended (line x)) (flat_map (λ y. ended (line y)) xs) text)) (line_goes (line x) (flat_map (λ y. ended (line y)) xs ++ text) f.0 f.1 later)

-- ---- Principals and authorities

pairs_front : {X : Type 0} (R : X → X → Type 0) (xs ys : List X) → AllPairs R (xs ++ ys) → AllPairs R xs
pairs_front R xs ys pairs i j d less below =
    let l = length-append xs ys in
    rw (get_or_append_left xs ys d i (omega (arith, less, below)), get_or_append_left xs ys d j below) at (pairs i j d less (omega (arith, l, below)))

abbrev IsApart : Principal → Principal → Type 0
IsApart x y = x.name ≢ y.name

abbrev HasOtherPort : Authority → Authority → Type 0
HasOtherPort x y = x.port ≢ y.port

principals_front : (ps qs : List Principal) → ArePrincipals (ps ++ qs) → ArePrincipals ps
principals_front ps qs are =
    record { bound = omega (arith, length-append ps qs, are.bound); distinct = pairs_front IsApart ps qs are.distinct }

authorities_front : (xs ys : List Authority) → AreAuthorities (xs ++ ys) → AreAuthorities xs
authorities_front xs ys are = record {
  bound = omega (arith, length-append xs ys, are.bound);
  each = λ k d below. rw (get_or_append_left xs ys d k below) at (are.each k d (omega (arith, length-append xs ys, below)));
  distinct = pairs_front HasOtherPort xs ys are.distinct;
}

abbrev IsFinePrincipal : List Principal → Principal → Type 0
IsFinePrincipal front p = IsName p.name × IsSecret p.secret × ArePrincipals (front ++ p ∷ [])

principal_follows : (front : List Principal) (p : Principal) → IsFinePrincipal front p
    → IsOneLine (principal_text p) × Follows (open_with (head_of front []) []) (principal_text p) (open_with (head_of (front ++ p ∷ []) []) [])
principal_follows front p fine =
    (three p.name (codes " ") p.secret (name_line p.name fine.0) refl (secret_line p.secret fine.1), principal p refl fine.0 fine.1 fine.2)

abbrev IsFineAuthority : List Authority → Authority → Type 0
IsFineAuthority front a = AreAuthorities (front ++ a ∷ [])

last_fine : (front : List Authority) (a : Authority) → AreAuthorities (front ++ a ∷ []) → IsAuthority a
last_fine front a are = rw (get_or_push front a a (length front) refl) at (are.each (length front) a (omega (arith, length-append front (a ∷ []))))

authority_line : (a : Authority) → IsAuthority a → IsOneLine (authority_text a)
authority_line a is = three (decimal a.port) (codes " ") a.address (number_line a.port (omega (arith, is.0))) refl (secret_line a.address is.1)

authority_follows : (ps : List Principal) (front : List Authority) (a : Authority) → IsFineAuthority front a
    → IsOneLine (authority_text a) × Follows (open_with (head_of ps front) []) (authority_text a) (open_with (head_of ps (front ++ a ∷ [])) [])
authority_follows ps front a fine = (authority_line a (last_fine front a fine), authority a refl fine)

principals_go : (front ps : List Principal) (text : List ℕ) (last : Stage) → All IsKeptPrincipal ps → ArePrincipals (front ++ ps)
    → Goes (open_with (head_of (front ++ ps) []) []) text last → Goes (open_with (head_of front []) []) (flat_map (λ (p : Principal). ended (principal_text p)) ps ++ text) last
principals_go front ps text last each are g =
    lines_go principal_text (λ xs. open_with (head_of xs []) []) last IsFinePrincipal principal_follows front ps text (fine front ps each are) g
  where
    fine : (front ps : List Principal) → All IsKeptPrincipal ps → ArePrincipals (front ++ ps) → AreFine principal_text (λ xs. open_with (head_of xs []) []) last IsFinePrincipal principal_follows front ps
    fine front [] each are = tt
    fine front (p ∷ ps) each are =
        let all = subst ArePrincipals (sym (append_assoc front (p ∷ []) ps)) are in
        let is = All-head IsKeptPrincipal p ps each in
        ((is.0, is.1, principals_front (front ++ p ∷ []) ps all), fine (front ++ p ∷ []) ps (All-tail IsKeptPrincipal p ps each) all)

authorities_go : (ps : List Principal) (front xs : List Authority) (text : List ℕ) (last : Stage) → AreAuthorities (front ++ xs)
    → Goes (open_with (head_of ps (front ++ xs)) []) text last → Goes (open_with (head_of ps front) []) (flat_map (λ (a : Authority). ended (authority_text a)) xs ++ text) last
authorities_go ps front xs text last are g =
    lines_go authority_text (λ ys. open_with (head_of ps ys) []) last IsFineAuthority (authority_follows ps) front xs text (fine front xs are) g
  where
    fine : (front xs : List Authority) → AreAuthorities (front ++ xs) → AreFine authority_text (λ ys. open_with (head_of ps ys) []) last IsFineAuthority (authority_follows ps) front xs
    fine front [] are = tt
    fine front (a ∷ xs) are =
        let all = subst AreAuthorities (sym (append_assoc front (a ∷ []) xs)) are in
        (authorities_front (front ++ a ∷ []) xs all, fine (front ++ a ∷ []) xs all)

-- ---- Entries

not_true : (b : Bool) → (b ≡ true → ⊥) → b ≡ false
not_true true never = absurd (never refl)
not_true false never = refl

abbrev no_principal : Principal
no_principal = record { name = []; secret = [] }

name_at : (ps : List Principal) (p : ℕ) → p < length ps → name_of ps p ≡ (get_or ps p no_principal).name
name_at ps p within = ap (λ o. unwrap_or (option_map (λ (x : Principal). x.name) o) []) (slice_get-get_or ps p no_principal within)

-- a principal is found by its name
number_is : (ps : List Principal) (p : ℕ) → p < length ps → AllPairs IsApart ps → numbered ps (get_or ps p no_principal).name ≡ Some p
number_is ps p within apart =
    let name = (get_or ps p no_principal).name in
    let test : Principal → Bool = λ (x : Principal). same_bytes name x.name in
    let before : (k : ℕ) → k < p → test (get_or ps k no_principal) ≡ false =
    λ k less. not_true (test (get_or ps k no_principal)) (λ same. apart k p no_principal less within (sym ((same_bytes-Decides name (get_or ps k no_principal).name).0 same))) in
    let first = position_or_len_is test ps p no_principal (omega (arith, within)) before (λ h. (same_bytes-Decides name name).1 refl) in
    ap (λ n. cond (nat_lt n (length ps)) (Some n) None) first ∙ ap (λ b. cond b (Some p) None) (lt-ltb p (length ps) within)

-- the line of an entry, without its line feed
abbrev pub entry_text : Head → EntryTree → List ℕ
entry_text h e = spaced (decimal e.session) (spaced (name_of h.principals e.principal) (event_text e.event))

module _ (h : Head) (kept : IsKeptHead h) where
  named : (p : ℕ) → p < length h.principals → IsName (name_of h.principals p)
  named p within =
      subst IsName (sym (name_at h.principals p within)) (All-get_or IsKeptPrincipal h.principals p no_principal within kept.each).0

  found : (p : ℕ) → p < length h.principals → numbered h.principals (name_of h.principals p) ≡ Some p
  found p within = ap (numbered h.principals) (name_at h.principals p within) ∙ number_is h.principals p within kept.principals.distinct

  abbrev IsFineEntry : List EntryTree → EntryTree → Type 0
  IsFineEntry front e = IsKeptEntry e × IsInSession e × IsAccepted h (replay h front) e

  entry_is : (front : List EntryTree) (e : EntryTree) → IsFineEntry front e → IsEntryLine h (entry_text h e) e
  entry_is front e fine = record {
    name = name_of h.principals e.principal;
    text = event_text e.event;
    formed = refl;
    named = named e.principal fine.2.0;
    session = (fine.1, fine.0.session);
    principal = found e.principal fine.2.0;
    event = event_read h (replay h front) e.session e.principal e.event fine.0.event fine.2.1;
  }

  -- the line of an entry that is accepted has no line feed in it
  pub entry_line_one : (front : List EntryTree) (e : EntryTree) → IsKeptEntry e → IsAccepted h (replay h front) e → IsOneLine (entry_text h e)
  entry_line_one front e fine accepted =
      three (decimal e.session) (codes " ") (spaced (name_of h.principals e.principal) (event_text e.event)) (number_line e.session fine.session) refl
      (three (name_of h.principals e.principal) (codes " ") (event_text e.event) (name_line (name_of h.principals e.principal) (named e.principal accepted.0)) refl
      (event_line h (replay h front) e.session e.principal e.event fine.event accepted.1))

  entry_follows : (front : List EntryTree) (e : EntryTree) → IsFineEntry front e → IsOneLine (entry_text h e) × Follows (open_with h front) (entry_text h e) (open_with h (front ++ e ∷ []))
  entry_follows front e fine = (entry_line_one front e fine.0 fine.2, entry e (entry_is front e fine) fine.2)

  entries_go : (front es : List EntryTree) (text : List ℕ) (last : Stage) → All IsKeptEntry es → All IsInSession es → IsLegalFrom h (replay h front) es → Goes (open_with h (front ++ es)) text last
      → Goes (open_with h front) (flat_map (λ (e : EntryTree). ended (entry_text h e)) es ++ text) last
  entries_go front es text last each told legal g = lines_go (entry_text h) (open_with h) last IsFineEntry entry_follows front es text (fine front es each told legal) g
    where
      fine : (front es : List EntryTree) → All IsKeptEntry es → All IsInSession es → IsLegalFrom h (replay h front) es → AreFine (entry_text h) (open_with h) last IsFineEntry entry_follows front es
      fine front [] each told legal = tt
      fine front (e ∷ es) each told (first, legal) = (
        (All-head IsKeptEntry e es each, All-head IsInSession e es told, first),
        fine (front ++ e ∷ []) es (All-tail IsKeptEntry e es each) (All-tail IsInSession e es told) (subst (λ s. IsLegalFrom h s es) (sym (replay_more h front e)) legal),
      )

-- ---- The length of the whole

lines_most : {X : Type 0} (line : X → List ℕ) (most : ℕ) (xs : List X) → ((k : ℕ) (d : X) → k < length xs → length (line (get_or xs k d)) ≤ most) → length (flat_map line xs) ≤ most * length xs
lines_most line most [] each = omega arith
lines_most line most (x ∷ xs) each =
    let here = each zero x (omega arith) in
    let there = lines_most line most xs (λ k d below. each (suc k) d (omega (arith, below))) in
    let split = length-append (line x) (flat_map line xs) in
    omega (arith, here, there, split)

name_short : (x : List ℕ) → IsName x → length x ≤ 64
name_short x ok = leb-true (length x) 64 (and_parts (is_word x) (nat_le (length x) 64) (and_parts (is_word x && nat_le (length x) 64) (not (is_reserved x)) ok).0).1

secret_short : (x : List ℕ) → IsSecret x → length x ≤ 64
secret_short x ok = leb-true (length x) 64 (and_parts (list_all is_secret_byte x && nat_le 1 (length x)) (nat_le (length x) 64) ok).1

principal_most : (p : Principal) → IsName p.name → IsSecret p.secret → length (ended (principal_text p)) ≤ 140
principal_most p name secret =
    let n = name_short p.name name in
    let s = secret_short p.secret secret in
    omega (arith, n, s, length-append (principal_text p) (10 ∷ []), length-append (codes "principal ") (spaced p.name p.secret), length-append (p.name ++ codes " ") p.secret, length-append p.name (codes " "))

authority_most : (a : Authority) → IsAuthority a → length (ended (authority_text a)) ≤ 140
authority_most a is =
    let n = length-decimal-le 2 a.port (omega arith) (omega (arith, is.0)) (omega (arith, is.0)) in
    let s = secret_short a.address is.1 in
    omega (arith, n, s, length-append (authority_text a) (10 ∷ []), length-append (codes "authority ") (spaced (decimal a.port) a.address), length-append (decimal a.port ++ codes " ") a.address, length-append (decimal a.port) (codes " "))

-- the text of a policy, far shorter than one may be that is read
pub policy_bounded : (h : Head) (es : List EntryTree) → IsKeptHead h → IsLegal h es → length (policy_text h es) ≤ 35850444
policy_bounded h es kept legal =
    let ps = flat_map (λ (p : Principal). ended (principal_text p)) h.principals in
    let xs = flat_map (λ (a : Authority). ended (authority_text a)) h.authorities in
    let lines = flat_map (line_of h) es in
    let p = lines_most (λ (p : Principal). ended (principal_text p)) 140 h.principals (λ k d below. let is = kept.each k d below in principal_most (get_or h.principals k d) is.0 is.1) in
    let a = lines_most (λ (a : Authority). ended (authority_text a)) 140 h.authorities (λ k d below. authority_most (get_or h.authorities k d) (kept.authorities.each k d below)) in
    let e = lines_bounded h es legal in
    omega (
      arith,
      p,
      a,
      e,
      kept.principals.bound,
      kept.authorities.bound,
      length-append (ended (codes "nexus 2") ++ ps ++ xs ++ lines) (ended (codes "end")),
      length-append (ended (codes "nexus 2") ++ ps ++ xs) lines,
      length-append (ended (codes "nexus 2") ++ ps) xs,
      length-append (ended (codes "nexus 2")) ps,
    )

-- ---- The law

-- the text of a policy without its last line leads on to what follows it
pub front_goes : (h : Head) (es : List EntryTree) (text : List ℕ) (last : Stage) → IsKeptHead h → All IsKeptEntry es → All IsInSession es → IsLegal h es → Goes (open_with h es) text last
    → Goes header_due (front h es ++ text) last
front_goes h es text last kept each told legal g =
    let start = ended (codes "nexus 2") in
    let ps = flat_map (λ (p : Principal). ended (principal_text p)) h.principals in
    let xs = flat_map (λ (a : Authority). ended (authority_text a)) h.authorities in
    let lines = flat_map (line_of h) es in
    let split : front h es ++ text ≡ start ++ (ps ++ (xs ++ (lines ++ text))) =
    append_assoc (start ++ ps ++ xs) lines text ∙ append_assoc (start ++ ps) xs (lines ++ text) ∙ append_assoc start ps (xs ++ (lines ++ text)) in
    let entries = entries_go h kept [] es text last each told legal g in
    let authorities = authorities_go h.principals [] h.authorities (lines ++ text) last kept.authorities entries in
    let principals = principals_go [] h.principals (xs ++ (lines ++ text)) last kept.each kept.principals authorities in
    let goes : Goes header_due (start ++ (ps ++ (xs ++ (lines ++ text)))) last = line_goes (codes "nexus 2") (ps ++ (xs ++ (lines ++ text))) refl (header (inr refl)) principals in
    (goes.0, subst (λ t. Leads header_due t goes.0 last []) (sym split) goes.1)

pub printed_is_read : PrintedIsRead
printed_is_read h es kept each told legal =
    let short = policy_bounded h es kept legal in
    let goes = front_goes h es (ended (codes "end")) (ended_with h es) kept each told legal (line_goes (codes "end") [] refl (end refl) (0, here)) in
    (omega (arith, short), goes.0, goes.1)
