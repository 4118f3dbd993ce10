-- What is recovered begins with what was written.
use Rattle.std.proofs.Common.{◌≡◌, ◌≢◌, ◌⊎◌, ℕ, List, [], ◌∷◌, ◌++◌, codes, inl, inr, refl, sym, ap, ◌∙◌, subst, arith, append_assoc, append-nil}
use Rattle.policy_history.specs.declared.heads.Head.{Head}
use Rattle.policy_history.specs.Events.{EntryTree}
use Rattle.policy_history.specs.Machine.{IsAccepted, replay}
use Rattle.policy_history.specs.PolicyTexts.{ended, front, line_of}
use Rattle.text_lines.specs.Lines.{first_line}
use Rattle.journal_text.specs.CutLaws.{IsFrontOf, IsWritten}
use Rattle.journal_text.specs.CutPolicies.{AreWholeLines, IsKept, ReadsCut, ReadsOpen}
use Rattle.journal_text.specs.PolicyText.{Follows, Leads, Stage, authority, end, ended_with, entry, header, header_due, here, on, open_with, principal}
use Rattle.journal_text.proofs.LawsForCallers.{front_whole, halfway, one_cut_policy, short_line_is_left_out}
use Rattle.kept_policies.specs.Kept.{RecoveredBegins, RecoveredGrows}
use Rattle.kept_policies.proofs.FirstBytes.{IsHeadByte, no_head_byte}
use Rattle.kept_policies.proofs.WholeLines.{kept_behind}

-- ---- The text of a policy without its last line is whole lines

front_some : (h : Head) (es : List EntryTree) → front h es ≢ []
front_some h es e = cc

front_fed : (h : Head) (es : List EntryTree) → (before : List ℕ) × (front h es ≡ before ++ 10 ∷ [])
front_fed h es = of (front_whole h es)
  where
    of : AreWholeLines (front h es) → (before : List ℕ) × (front h es ≡ before ++ 10 ∷ [])
    of (inl none) = absurd (front_some h es none)
    of (inr fed) = fed

-- ---- What holds at a stage

-- this holds of the head and the entries that stand there
abbrev At : (Head → List EntryTree → Type 0) → Stage → Type 0
At P header_due = ⊥
At P (open_with h es) = P h es
At P (ended_with h es) = P h es

-- the stage has this head and these entries, ended or not
abbrev Stands : Head → List EntryTree → Stage → Type 0
Stands h es stage = (stage ≡ open_with h es) ⊎ (stage ≡ ended_with h es)

at_stage : (P : Head → List EntryTree → Type 0) {h : Head} {es : List EntryTree} {stage : Stage} → Stands h es stage → P h es → At P stage
at_stage P (inl is) holds = subst (At P) (sym is) holds
at_stage P (inr is) holds = subst (At P) (sym is) holds

of_stage : (P : Head → List EntryTree → Type 0) {h : Head} {es : List EntryTree} {stage : Stage} → Stands h es stage → At P stage → P h es
of_stage P (inl is) at = subst (At P) is at
of_stage P (inr is) at = subst (At P) is at

-- ---- How a policy grows from line to line

-- of that policy there are this one's principals, authorities and entries, and others behind them; but just this head where there is an entry
abbrev Grows : Head → List EntryTree → Head → List EntryTree → Type 0
Grows h es g fs = IsFrontOf h g es fs × (es ≢ [] → g ≡ h)

as_it_was : (h : Head) (es : List EntryTree) → Grows h es h es
as_it_was h es =
    (record { principals = ([], sym (append-nil h.principals)); authorities = ([], sym (append-nil h.authorities)); entries = ([], sym (append-nil es)) }, λ some. refl)

more_of : {X : Type 0} (xs ys zs : List X) → (more : List X) × (ys ≡ xs ++ more) → (more : List X) × (ys ++ zs ≡ xs ++ more)
more_of xs ys zs (more, is) = (more ++ zs, ap (λ l. l ++ zs) is ∙ append_assoc xs more zs)

none_before : (es : List EntryTree) → (more : List EntryTree) × ([] ≡ es ++ more) → es ≡ []
none_before [] (more, is) = refl
none_before (e ∷ es) (more, is) = absurd (cc is)

grows_on : (h : Head) (es : List EntryTree) {stage next : Stage} {line : List ℕ} → Follows stage line next → At (Grows h es) stage → At (Grows h es) next
grows_on h es (header is) g = absurd g
grows_on h es (principal {ps = ps} p is named secret are) (front, same) = (
  record { principals = more_of h.principals ps (p ∷ []) front.principals; authorities = front.authorities; entries = front.entries },
  λ some. absurd (some (none_before es front.entries)),
)
grows_on h es (authority {qs = qs} a is are) (front, same) = (
  record { principals = front.principals; authorities = more_of h.authorities qs (a ∷ []) front.authorities; entries = front.entries },
  λ some. absurd (some (none_before es front.entries)),
)
grows_on h es (entry {es = fs} e l accepted) (front, same) =
    (record { principals = front.principals; authorities = front.authorities; entries = more_of es fs (e ∷ []) front.entries }, same)
grows_on h es (end is) g = g

grows : (h : Head) (es : List EntryTree) {stage last : Stage} {text rest : List ℕ} {n : ℕ} → Leads stage text n last rest → At (Grows h es) stage → At (Grows h es) last
grows h es here g = g
grows h es (on some f k) g = grows h es k (grows_on h es f g)

-- ---- How it grows by lines that are not of a head

-- that policy has this one's head, and begins with its entries
abbrev Keeps : Head → List EntryTree → Head → List EntryTree → Type 0
Keeps h es g fs = (g ≡ h) × (later : List EntryTree) × (fs ≡ es ++ later)

one_more_kept : (h g : Head) (es fs : List EntryTree) (e : EntryTree) → Grows h (es ++ e ∷ []) g fs → Keeps h es g fs
one_more_kept h g es fs e (front, same) = let (later, is) = front.entries in (same (some es), e ∷ later, is ∙ append_assoc es (e ∷ []) later)
  where
    some : (xs : List EntryTree) → xs ++ e ∷ [] ≢ []
    some [] is = cc is
    some (x ∷ xs) is = cc is

at_more : (h : Head) (es : List EntryTree) (e : EntryTree) (stage : Stage) → At (Grows h (es ++ e ∷ [])) stage → At (Keeps h es) stage
at_more h es e header_due g = g
at_more h es e (open_with g fs) grown = one_more_kept h g es fs e grown
at_more h es e (ended_with g fs) grown = one_more_kept h g es fs e grown

nothing_after : {line : List ℕ} {h : Head} {es : List EntryTree} {next : Stage} → Follows (ended_with h es) line next → ⊥
nothing_after f = elim f [ ]

ended_keeps : {h : Head} {es : List EntryTree} {last : Stage} {text : List ℕ} {n : ℕ} → Leads (ended_with h es) text n last [] → At (Keeps h es) last
ended_keeps {es = es} here = (refl, [], sym (append-nil es))
ended_keeps (on some f k) = absurd (nothing_after f)

-- the line begins as none of a head does
abbrev IsOther : List ℕ → Type 0
IsOther line = (b : ℕ) (bs : List ℕ) → line ≡ b ∷ bs → IsHeadByte b → ⊥

line_keeps : {h : Head} {es : List EntryTree} {next last : Stage} {line text : List ℕ} {n : ℕ} → IsOther line → Follows (open_with h es) line next → Leads next text n last []
    → At (Keeps h es) last
line_keeps other (principal p is named secret are) k = absurd (other 112 _ is (inl refl))
line_keeps other (authority a is are) k = absurd (other 97 _ is (inr refl))
line_keeps {last = last} other (entry {h = h} {es = es} e l accepted) k = at_more h es e last (grows h (es ++ e ∷ []) k (as_it_was h (es ++ e ∷ [])))
line_keeps other (end is) k = ended_keeps k

open_keeps : {h : Head} {es : List EntryTree} {last : Stage} {text : List ℕ} {n : ℕ} → IsOther (first_line text) → Leads (open_with h es) text n last [] → At (Keeps h es) last
open_keeps {es = es} other here = (refl, [], sym (append-nil es))
open_keeps other (on some f k) = line_keeps other f k

-- ---- What is kept of a text that begins with what was written

never_due : {stage next : Stage} {line : List ℕ} → Follows stage line next → next ≡ header_due → ⊥
never_due (header is) e = cc e
never_due (principal p is named secret are) e = cc e
never_due (authority a is are) e = cc e
never_due (entry x l accepted) e = cc e
never_due (end is) e = cc e

due_at_once : {stage last : Stage} {text rest : List ℕ} {n : ℕ} → Leads stage text n last rest → last ≡ header_due → (stage ≡ header_due) × (text ≡ rest)
due_at_once here is = (is, refl)
due_at_once (on some f k) is = absurd (never_due f (due_at_once k is).0)

-- a front of what follows leads on from this policy to that one
record IsLedOn (h g : Head) (es fs : List EntryTree) (more : List ℕ) : Type 0 where
  pub part : List ℕ
  pub missing : List ℕ
  pub parts : more ≡ part ++ missing
  pub from : Stage
  pub last : Stage
  pub n : ℕ
  pub led : Leads from part n last []
  pub stands : Stands h es from
  pub reaches : Stands g fs last

module _ (h : Head) (es : List EntryTree) (w : IsWritten h es) where
  alone : ReadsCut (front h es) h es
  alone = subst (λ t. ReadsCut t h es) (append-nil (front h es)) (short_line_is_left_out h es [] w refl (omega arith))

  as_written : (g : Head) (fs : List EntryTree) → ReadsOpen (front h es) g fs → (g ≡ h) × (fs ≡ es)
  as_written g fs reads = one_cut_policy (front h es) g h fs es (record { short = alone.short; kept = front h es; keeps = keeps; reads = reads }) alone
    where
      keeps : IsKept (front h es) (front h es)
      keeps = record {
        lines = front h es;
        last = [];
        cut = record { parts = sym (append-nil (front h es)); whole = front_whole h es; unfed = refl };
        choice = inr (λ e. cc e, refl);
      }

  stands_behind : (mid : Stage) (n : ℕ) → Leads header_due (front h es) n mid [] → Stands h es mid
  stands_behind header_due n k = absurd (front_some h es (due_at_once k refl).1)
  stands_behind (open_with g fs) n k = let (same, also) = as_written g fs (n, inl k) in inl (cc (same, also))
  stands_behind (ended_with g fs) n k = let (same, also) = as_written g fs (n, inr k) in inr (cc (same, also))

  led_on : (g : Head) (fs : List EntryTree) (more : List ℕ) → ReadsCut (front h es ++ more) g fs → IsLedOn h g es fs more
  led_on g fs more reads = of reads.reads
    where
      by : (n : ℕ) (last : Stage) → Leads header_due reads.kept n last [] → Stands g fs last → IsLedOn h g es fs more
      by n last k reaches =
          let (part, missing, is, parts) = kept_behind (front h es) more reads.kept (front_fed h es) reads.keeps in
          let half = halfway k (front h es) part (front_whole h es) is in
          let stands = stands_behind half.mid half.n (subst (λ t. Leads header_due t half.n half.mid []) (append-nil (front h es)) (half.first [])) in
          record { part = part; missing = missing; parts = parts; from = half.mid; last = last; n = half.m; led = half.later; stands = stands; reaches = reaches }

      of : ReadsOpen reads.kept g fs → IsLedOn h g es fs more
      of (n, inl k) = by n (open_with g fs) k (inl refl)
      of (n, inr k) = by n (ended_with g fs) k (inr refl)

-- ---- The laws

pub recovered_grows : RecoveredGrows
recovered_grows h g es fs more w reads =
    let l = led_on h es w g fs more reads in
    of_stage (Grows h es) l.reaches (grows h es l.led (at_stage (Grows h es) l.stands (as_it_was h es)))

pub recovered_begins : RecoveredBegins
recovered_begins h g es fs line after more missing w next is reads = of_stage (Keeps h es) l.reaches (of l.stands)
  where
    l : IsLedOn h g es fs more
    l = led_on h es w g fs more reads

    other : IsOther (first_line l.part)
    other b bs first =
        no_head_byte h line after l.part (l.missing ++ missing) b bs next (is ∙ ap (λ t. t ++ missing) l.parts ∙ append_assoc l.part l.missing missing) first

    of : Stands h es l.from → At (Keeps h es) l.last
    of (inl at) = open_keeps other (subst (λ s. Leads s l.part l.n l.last []) at l.led)
    of (inr at) = ended_keeps (subst (λ s. Leads s l.part l.n l.last []) at l.led)

-- so it is behind a front of the line of an accepted entry, and of the last line
pub recovered_entry : (h : Head) (es : List EntryTree) (e : EntryTree) (part missing : List ℕ) → IsWritten h es → IsAccepted h (replay h es) e
    → line_of h e ≡ part ++ missing → (g : Head) (fs : List EntryTree) → ReadsCut (front h es ++ part) g fs → (g ≡ h) × (later : List EntryTree) × (fs ≡ es ++ later)
recovered_entry h es e part missing w accepted is g fs reads =
    recovered_begins h g es fs (line_of h e) [] part missing w (inl (e, refl)) (append-nil (line_of h e) ∙ is) reads

pub recovered_end : (h : Head) (es : List EntryTree) (part missing : List ℕ) → IsWritten h es → ended (codes "end") ≡ part ++ missing
    → (g : Head) (fs : List EntryTree) → ReadsCut (front h es ++ part) g fs → (g ≡ h) × (later : List EntryTree) × (fs ≡ es ++ later)
recovered_end h es part missing w is g fs reads = recovered_begins h g es fs (ended (codes "end")) [] part missing w (inr refl) is reads
