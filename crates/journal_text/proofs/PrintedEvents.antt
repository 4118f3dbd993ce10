-- The text of an accepted event is read as it, and holds no line feed.
use Rattle.std.proofs.Common.{◌≡◌, ◌≢◌, ◌<◌, ◌≤◌, ◌^◌, ◌==◌, ◌&&◌, ℕ, List, [], ◌∷◌, ◌++◌, length, Bool, true, false, not, nat_le, IsTrue, codes, Some, None, refl, arith}
use Rattle.std.specs.Fmt.{decimal}
use Rattle.std.specs.List.{All, list_all}
use Rattle.std.proofs.lemmas.Bool.{and_parts, not-false}
use Rattle.std.proofs.lemmas.List.Elements.{All-append, All-cons, All-head, All-tail}
use Rattle.nal_term.specs.Names.{IsName}
use Rattle.nal_term.specs.Secrets.{IsSecret, is_secret_byte}
use Rattle.nal_term.specs.Trees.{TermTree}
use Rattle.nal_term.specs.Trees as tree
use Rattle.nal_parse.specs.Canonical.{IsSpellableTerm, formula_text, term_text}
use Rattle.nal_parse.specs.Grammar.{IsTermText}
use Rattle.proof_text.specs.CanonicalProof.{proof_text}
use Rattle.proof_text.specs.Laws.{IsOneLine}
use Rattle.proof_text.proofs.ForCallers.{formula_line, one_line-append, printed_formula, printed_proof, printed_term, proof_line, term_line}
use Rattle.policy_history.specs.declared.heads.Head.{Head}
use Rattle.policy_history.specs.declared.events.Refusal.TheVariants.{BadFormula, BadProof, NotYourPrincipal}
use Rattle.policy_history.specs.Events.{EventTree, say, transfer, delete, new_object, set_goal, clear_goal, set_proof, clear_proof, bind, unbind, name_of}
use Rattle.policy_history.specs.Machine.{is_foreign, is_own, is_stated, is_statement, label_fits, refusal_of}
use Rattle.policy_history.specs.PolicyLines.{event_text, spaced}
use Rattle.policy_history.specs.States.{State}
use Rattle.policy_history.proofs.ForCallers.{none_applies, plain_tests}
use Rattle.session_wire.specs.declared.requests.Request.TheVariants.{Say, Transfer, Delete, NewObject, SetGoal, ClearGoal, SetProof, ClearProof, Bind, Unbind}
use Rattle.journal_text.specs.RequestLines.{IsOneWord}
use Rattle.journal_text.specs.PolicyText.{IsEventText}
use Rattle.journal_text.specs.PolicyLaws.{IsKeptEvent}
use Rattle.journal_text.proofs.PolicyCuts.{IsHigh, name_high, name_unspaced, number_high}

-- ---- One word

not_empty : (x : List ℕ) → IsName x → x ≢ []
not_empty [] ok e = cc
not_empty (b ∷ bs) ok e = cc

append_some : (xs ys : List ℕ) → xs ≢ [] → xs ++ ys ≢ []
append_some [] ys some e = some refl
append_some (x ∷ xs) ys some e = cc

abbrev IsNoSpace : ℕ → Type 0
IsNoSpace b = b ≢ 32

-- the text of a caller's own principal is one word
own_word : (caller : List ℕ) (t : TermTree) → is_own caller t ≡ true → IsSpellableTerm t → IsOneWord (term_text t)
own_word caller (tree.name x) own ok = (not_empty x ok, name_unspaced x ok)
own_word caller (tree.subprincipal t x) own ok =
    let front = own_word caller t own ok.0 in (
      append_some (term_text t) (46 ∷ x) front.0,
      All-append IsNoSpace (term_text t) (46 ∷ x) front.1 (All-cons IsNoSpace 46 x (λ e. absurd (omega (arith, e))) (name_unspaced x ok.1)),
    )
own_word caller (tree.number n) own ok = absurd (cc own)
own_word caller (tree.text x) own ok = absurd (cc own)
own_word caller (tree.variable x) own ok = absurd (cc own)

not_foreign : (stated own : Bool) → stated ≡ true → (stated && not own) ≡ false → own ≡ true
not_foreign true true s f = refl
not_foreign true false s f = cc
not_foreign false own s f = cc

-- ---- What is accepted is read again

module _ (h : Head) (s : State) (session p : ℕ) where
  -- a principal that is accepted is spelled, and the caller's own
  own_read : (e : EventTree) (t : TermTree) → refusal_of h s session p e ≡ None → (is_stated (Some t)) ≡ true → is_foreign (name_of h.principals p) (Some t) ≡ false → IsSpellableTerm t
      → IsOneWord (term_text t) × IsTermText (term_text t) t
  own_read e t free stated foreign ok =
      (own_word (name_of h.principals p) t (not_foreign (is_stated (Some t)) (is_own (name_of h.principals p) t) stated foreign) ok, printed_term t ok ((plain_tests.terms t).0 stated).0)

  pub event_read : (e : EventTree) → IsKeptEvent e → refusal_of h s session p e ≡ None → IsEventText (event_text e) e
  event_read (say None f) ok free = absurd (cc (none_applies h s session p (say None f) free BadFormula))
  event_read (say (Some t) None) ok free =
      let parts = and_parts (is_stated (Some t)) false (not-false (is_stated (Some t) && false) (none_applies h s session p (say (Some t) None) free BadFormula)) in
      absurd (cc parts.1)
  event_read (say (Some t) (Some f)) ok free =
      let e = say (Some t) (Some f) in
      let parts = and_parts (is_stated (Some t)) (is_statement (Some f) && label_fits (Some t) (Some f)) (not-false _ (none_applies h s session p e free BadFormula)) in
      let more = and_parts (is_statement (Some f)) (label_fits (Some t) (Some f)) parts.1 in
      let own = own_read e t free parts.0 (none_applies h s session p e free NotYourPrincipal) ok.0 in
      (Say (term_text t) (formula_text f), (own.0, refl), (own.1, printed_formula f ok.1 ((plain_tests.formulas f).0 more.0).0))
  event_read (transfer number to) ok free = (Transfer number to, (ok, refl), refl)
  event_read (delete number) ok free = (Delete number, (ok, refl), refl)
  event_read (new_object x) ok free = (NewObject x, (ok, refl), refl)
  event_read (set_goal op object None) ok free = absurd (cc (none_applies h s session p (set_goal op object None) free BadFormula))
  event_read (set_goal op object (Some g)) ok free =
      let fits = (plain_tests.goals g).0 (not-false _ (none_applies h s session p (set_goal op object (Some g)) free BadFormula)) in
      (SetGoal op object (formula_text g), ((ok.0, ok.1), refl), (refl, refl, printed_formula g ok.2 fits.0))
  event_read (clear_goal op object) ok free = (ClearGoal op object, (ok, refl), refl)
  event_read (set_proof op object None) ok free = absurd (cc (none_applies h s session p (set_proof op object None) free BadProof))
  event_read (set_proof op object (Some ls)) ok free =
      let fits = (plain_tests.proofs ls).0 (not-false _ (none_applies h s session p (set_proof op object (Some ls)) free BadProof)) in
      (SetProof op object (proof_text ls), ((ok.0, ok.1), refl), (refl, refl, printed_proof ls ok.2 fits))
  event_read (clear_proof op object) ok free = (ClearProof op object, (ok, refl), refl)
  event_read (bind None port) ok free = absurd (cc (none_applies h s session p (bind None port) free BadFormula))
  event_read (bind (Some t) port) ok free =
      let e = bind (Some t) port in
      let own = own_read e t free (not-false _ (none_applies h s session p e free BadFormula)) (none_applies h s session p e free NotYourPrincipal) ok.0 in
      (Bind (term_text t) port, ((own.0, ok.1), refl), (own.1, refl))
  event_read (unbind None) ok free = absurd (cc (none_applies h s session p (unbind None) free BadFormula))
  event_read (unbind (Some t)) ok free =
      let e = unbind (Some t) in
      let own = own_read e t free (not-false _ (none_applies h s session p e free BadFormula)) (none_applies h s session p e free NotYourPrincipal) ok in
      (Unbind (term_text t), (own.0, refl), own.1)

-- ---- One line

high_byte : (b : ℕ) → 48 ≤ b → not (b == 10) ≡ true
high_byte b h = grind arith

high_line : (bs : List ℕ) → All IsHigh bs → IsOneLine bs
high_line [] h = refl
high_line (b ∷ bs) h = rw (high_byte b (All-head IsHigh b bs h)) (high_line bs (All-tail IsHigh b bs h))

pub name_line : (x : List ℕ) → IsName x → IsOneLine x
name_line x ok = high_line x (name_high x ok)

pub number_line : (n : ℕ) → n < 2 ^ 64 → IsOneLine (decimal n)
number_line n small = high_line (decimal n) (number_high n small)

secret_byte : (b : ℕ) → is_secret_byte b ≡ true → not (b == 10) ≡ true
secret_byte b h = grind arith

secret_bytes : (bs : List ℕ) → IsTrue (list_all is_secret_byte bs) → IsOneLine bs
secret_bytes [] h = refl
secret_bytes (b ∷ bs) h = let l = and_parts (is_secret_byte b) (list_all is_secret_byte bs) h in rw (secret_byte b l.0) (secret_bytes bs l.1)

pub secret_line : (x : List ℕ) → IsSecret x → IsOneLine x
secret_line x ok = secret_bytes x (and_parts (list_all is_secret_byte x) _ (and_parts (list_all is_secret_byte x && nat_le 1 (length x)) _ ok).0).0

-- two texts with one between them
pub three : (a b c : List ℕ) → IsOneLine a → IsOneLine b → IsOneLine c → IsOneLine (a ++ b ++ c)
three a b c x y z = one_line-append (a ++ b) c (one_line-append a b x y) z

pub event_line : (h : Head) (s : State) (session p : ℕ) (e : EventTree) → IsKeptEvent e → refusal_of h s session p e ≡ None → IsOneLine (event_text e)
event_line h s session p (say None f) ok free = refl
event_line h s session p (say (Some t) None) ok free = refl
event_line h s session p (say (Some t) (Some f)) ok free = three (term_text t) (codes " : ") (formula_text f) (term_line t ok.0) refl (formula_line f ok.1)
event_line h s session p (transfer number to) ok free = three (decimal number) (codes " ") to (number_line number ok.0) refl (name_line to ok.1)
event_line h s session p (delete number) ok free = number_line number ok
event_line h s session p (new_object x) ok free = name_line x ok
event_line h s session p (set_goal op object None) ok free = refl
event_line h s session p (set_goal op object (Some g)) ok free =
    three (spaced op object) (codes " : ") (formula_text g) (three op (codes " ") object (name_line op ok.0) refl (name_line object ok.1)) refl (formula_line g ok.2)
event_line h s session p (clear_goal op object) ok free = three op (codes " ") object (name_line op ok.0) refl (name_line object ok.1)
event_line h s session p (set_proof op object None) ok free = refl
event_line h s session p (set_proof op object (Some ls)) ok free =
    let fits = (plain_tests.proofs ls).0 (not-false _ (none_applies h s session p (set_proof op object (Some ls)) free BadProof)) in
    three (spaced op object) (codes " : ") (proof_text ls) (three op (codes " ") object (name_line op ok.0) refl (name_line object ok.1)) refl (proof_line ls ok.2 fits)
event_line h s session p (clear_proof op object) ok free = three op (codes " ") object (name_line op ok.0) refl (name_line object ok.1)
event_line h s session p (bind None port) ok free = refl
event_line h s session p (bind (Some t) port) ok free = three (term_text t) (codes " ") (decimal port) (term_line t ok.0) refl (number_line port ok.1)
event_line h s session p (unbind None) ok free = refl
event_line h s session p (unbind (Some t)) ok free = term_line t ok
