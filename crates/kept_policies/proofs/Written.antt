-- What is read of a policy, whole or cut, is what the program writes of one.
use Rattle.std.proofs.Common.{ℕ, List, [], ◌∷◌, ◌++◌, inl, inr, arith}
use Rattle.std.specs.List.{All}
use Rattle.std.proofs.lemmas.List.Elements.{All-append, All-cons, All-nil}
use Rattle.policy_history.specs.declared.heads.Head.{Head}
use Rattle.policy_history.specs.Events.{EntryTree}
use Rattle.policy_history.specs.Heads.{AreAuthorities, ArePrincipals, IsAuthority}
use Rattle.policy_history.proofs.ForCallers.{legal_more}
use Rattle.journal_text.specs.CutLaws.{IsWritten}
use Rattle.journal_text.specs.CutPolicies.{ReadsOpen}
use Rattle.journal_text.specs.PolicyLaws.{IsInSession, IsKeptEntry, IsKeptPrincipal}
use Rattle.journal_text.specs.PolicyText.{Follows, IsEntryLine, Leads, Stage, authority, end, ended_with, entry, head_of, header, header_due, here, on, open_with, principal}
use Rattle.kept_policies.specs.Kept.{FrontIsWritten, RecoveredIsWritten}
use Rattle.kept_policies.proofs.Asked.{written_events}

-- ---- What stands at a stage is written

abbrev IsWrittenAt : Stage → Type 0
IsWrittenAt header_due = Unit {0}
IsWrittenAt (open_with h es) = IsWritten h es
IsWrittenAt (ended_with h es) = IsWritten h es

-- one more at the end
one_more : {A : Type 0} (P : A → Type 0) (xs : List A) (x : A) → All P xs → P x → All P (xs ++ x ∷ [])
one_more P xs x each last = All-append P xs (x ∷ []) each (All-cons P x [] last (All-nil P))

no_entries : (h : Head) → All IsKeptPrincipal h.principals → ArePrincipals h.principals → AreAuthorities h.authorities → IsWritten h []
no_entries h each are also = record {
  head = record { each = each; principals = are; authorities = also };
  entries = All-nil IsKeptEntry;
  sessions = All-nil IsInSession;
  legal = tt;
}

line_kept : {h : Head} {line : List ℕ} {e : EntryTree} → IsEntryLine h line e → IsKeptEntry e
line_kept {e = e} l = let (request, is, asks) = l.event in record { session = l.session.1; event = written_events request e.event is.0 asks }

no_principals : ArePrincipals []
no_principals = record { bound = omega arith; distinct = λ i j x before within. absurd (omega (arith, within)) }

no_authorities : AreAuthorities []
no_authorities = record { bound = omega arith; each = All-nil IsAuthority; distinct = λ i j x before within. absurd (omega (arith, within)) }

written_on : {stage next : Stage} {line : List ℕ} → Follows stage line next → IsWrittenAt stage → IsWrittenAt next
written_on (header is) w = no_entries (head_of [] []) (All-nil IsKeptPrincipal) no_principals no_authorities
written_on (principal {ps = ps} p is named secret are) w =
    no_entries (head_of (ps ++ p ∷ []) []) (one_more IsKeptPrincipal ps p w.head.each (named, secret)) are no_authorities
written_on (authority {ps = ps} {qs = qs} a is are) w = no_entries (head_of ps (qs ++ a ∷ [])) w.head.each w.head.principals are
written_on (entry {h = h} {es = es} e l accepted) w = record {
  head = w.head;
  entries = one_more IsKeptEntry es e w.entries (line_kept l);
  sessions = one_more IsInSession es e w.sessions l.session.0;
  legal = legal_more h es e w.legal accepted;
}
written_on (end is) w = w

written_at : {stage last : Stage} {text rest : List ℕ} {n : ℕ} → Leads stage text n last rest → IsWrittenAt stage → IsWrittenAt last
written_at here w = w
written_at (on some f k) w = written_at k (written_on f w)

-- ---- The laws

open_written : {kept : List ℕ} {h : Head} {es : List EntryTree} → ReadsOpen kept h es → IsWritten h es
open_written (n, inl k) = written_at k tt
open_written (n, inr k) = written_at k tt

pub front_is_written : FrontIsWritten
front_is_written most text h es n rest is = written_at is.led tt

pub recovered_is_written : RecoveredIsWritten
recovered_is_written text h es reads = open_written reads.reads
