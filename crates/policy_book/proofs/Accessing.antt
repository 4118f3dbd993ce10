-- What a session learns by a call on a book, from what is done at the journal.
use Rattle.std.proofs.Common.{◌≡◌, ◌≢◌, ◌<◌, ◌⊎◌, inl, inr, ℕ, Bool, true, false, List, [], ◌∷◌, ◌++◌, length, Some, None, Ok, Err, IsOk, refl, sym, ap, ◌∙◌, subst, arith}
use Rattle.std.specs.List.{find}
use Rattle.std.specs.declared.option.Option.{Option}
use Rattle.std.specs.declared.result.Result.{Result}
use Rattle.policy_history.specs.declared.events.Due.{Due}
use Rattle.policy_history.specs.declared.events.Entry.{Entry}
use Rattle.policy_history.specs.declared.events.Event.{Event}
use Rattle.policy_history.specs.declared.events.Refusal.{Refusal}
use Rattle.policy_history.specs.declared.events.Refusal.TheVariants.{NoSuchPrincipal, NotYourPrincipal, NoSuchLabel, NotHolder, NoSuchObject, NameTaken, NotOwner, NoGoal, NoSuchProof, NoBinding, BadPort, BadFormula, BadProof, Quota, JournalFull, ObjectsFull, CasesFull, NotRecorded}
use Rattle.policy_history.specs.declared.heads.Head.{Head}
use Rattle.policy_history.specs.Events.{EventTree}
use Rattle.policy_history.specs.Machine.{applies, refusal_of, refusals}
use Rattle.policy_history.specs.States.{State}
use Rattle.policy_history.specs.Values.{decision}
use Rattle.policy_history.proofs.ForCallers.{never_unrecorded}
use Rattle.verdict_words.specs.Histories.{IsPrefix}
use Rattle.verdict_words.specs.declared.views.AtomicStep.{AtomicStep}
use Rattle.verdict_words.specs.Settling.{AreGathered}
use Rattle.verdict_words.specs.Values.{Identity, PassValue}
use Rattle.verdict_words.proofs.ForCallers.{prefix_through}
use Rattle.policy_book.specs.Access.{HasMet, HasMetTwice, IsAnswered, unrecorded_by}
use Rattle.policy_book.specs.Books.{IsMetAt, decided_at, met_at}
use Rattle.policy_book.specs.Inner.Visits.{IsDraft, IsDraftOf, IsFinished}
use Rattle.policy_book.specs.declared.drafts.Draft.{Draft}
use Rattle.policy_book.specs.declared.writing.Written.{Written}
use Rattle.policy_book.specs.declared.writing.Written.TheVariants.{Done, Refused, NoMemory}
use Rattle.policy_book.proofs.Meeting.{gathered_knows}

-- what is found passes the test
found_passes : {X : Type 0} (p : X → Bool) (xs : List X) (x : X) → find p xs ≡ Some x → p x ≡ true
found_passes p [] x found = absurd (cc found)
found_passes p (y ∷ ys) x found = of (p y) refl (found_passes p ys x)
  where
    of : (b : Bool) → p y ≡ b → (find p ys ≡ Some x → p x ≡ true) → p x ≡ true
    of true is later = (let same : y ≡ x = cc (rw is at found) in rw same at is)
    of false is later = later (rw is at found)

-- no decision is that a change is not recorded
never_decided : (h : Head) (s : State) (session p : ℕ) (e : EventTree) → decision h s session p e ≢ Err NotRecorded
never_decided h s session p e is = of (refusal_of h s session p e) refl
  where
    of : (o : Option Refusal) → refusal_of h s session p e ≡ o → ⊥
    of None free = cc (rw free at is)
    of (Some refusal) first =
        let same : refusal ≡ NotRecorded = cc (rw first at is) in
        let there : applies h s session p e NotRecorded ≡ true = rw same at (found_passes (applies h s session p e) refusals refusal first) in
        cc (there, never_unrecorded h s session p e)

-- so a refusal that was decided counts nothing
pub decided_counts : (h : Head) (s : State) (session p : ℕ) (e : EventTree) (at : ℕ) (refusal : Refusal) → decision h s session p e ≡ Err refusal → unrecorded_by (Refused at refusal) ≡ 0
decided_counts h s session p e at NoSuchPrincipal is = refl
decided_counts h s session p e at NotYourPrincipal is = refl
decided_counts h s session p e at NoSuchLabel is = refl
decided_counts h s session p e at NotHolder is = refl
decided_counts h s session p e at NoSuchObject is = refl
decided_counts h s session p e at NameTaken is = refl
decided_counts h s session p e at NotOwner is = refl
decided_counts h s session p e at NoGoal is = refl
decided_counts h s session p e at NoSuchProof is = refl
decided_counts h s session p e at NoBinding is = refl
decided_counts h s session p e at BadPort is = refl
decided_counts h s session p e at BadFormula is = refl
decided_counts h s session p e at BadProof is = refl
decided_counts h s session p e at Quota is = refl
decided_counts h s session p e at JournalFull is = refl
decided_counts h s session p e at ObjectsFull is = refl
decided_counts h s session p e at CasesFull is = refl
decided_counts h s session p e at NotRecorded is = absurd (never_decided h s session p e is)

-- what was decided is accepted
accepted_is_ok : {E : Type 0} (decided : Result Due E) (due : Due) → decided ≡ Ok due → IsOk decided
accepted_is_ok decided due is = subst IsOk (sym is) refl

module _ (board : Identity Entry Head) where
  -- a pass that was met at the end of a journal
  pub has_met : (next : ℕ) (entries : List Entry) (before known : List AtomicStep) (pass pass_new : PassValue Entry Head) → pass_new ≡ met_at board entries known pass → IsMetAt board next entries pass → AreGathered board next entries before (pass ∷ []) known
      → HasMet board entries pass pass_new
  has_met next entries before known pass pass_new pass_is met gathered =
      let known_is : pass_new.known ≡ known = ap (λ (p : PassValue Entry Head). p.known) pass_is in
      record {
        next = next;
        met = met;
        pass_is = pass_is ∙ ap (λ (l : List AtomicStep). met_at board entries l pass) (sym known_is);
        knows = subst (IsPrefix pass.known) (sym known_is) (gathered_knows board next entries before known pass gathered);
      }

  module _ (pass pass_new : PassValue Entry Head) (principal : ℕ) (event : Event) where
    -- a change that the policy refuses
    pub refused_answer : (entries : List Entry) (refusal : Refusal) (written : Written) → written ≡ Refused (length entries) refusal → decided_at board entries pass.session principal event ≡ Err refusal → HasMet board entries pass pass_new
        → IsAnswered board pass pass_new principal event written
    refused_answer entries refusal written is decided met =
        subst (IsAnswered board pass pass_new principal event) (sym is) (record { entries = entries; why = inl decided; at_is = refl; met = inl met })

    -- a change that is accepted, in a book that is broken
    pub unrecorded_answer : (entries : List Entry) (due : Due) (written : Written) → written ≡ Refused (length entries) NotRecorded → decided_at board entries pass.session principal event ≡ Ok due → HasMet board entries pass pass_new
        → IsAnswered board pass pass_new principal event written
    unrecorded_answer entries due written is decided met =
        subst (IsAnswered board pass pass_new principal event) (sym is) (record { entries = entries; why = inr (refl, accepted_is_ok _ due decided); at_is = refl; met = inl met })

    -- a change that was visited twice
    pub finished_answer : (draft : Draft) (is_broken : Bool) (written : Written) → IsDraft board draft → IsDraftOf board pass principal event draft → IsFinished board draft pass_new is_broken written
        → IsAnswered board pass pass_new principal event written
    finished_answer draft false (Done at number) is of done =
        let session : draft.pass.session ≡ pass.session = ap (λ (p : PassValue Entry Head). p.session) of.pass_is in
        record {
          entries = draft.pass.seen;
          next = of.next;
          bytes = is.bytes;
          accepted = (λ i. decided_at board draft.pass.seen (sym session i) (sym of.same.0 i) (sym of.same.1 i)) ∙ is.accepted ∙ (λ i. Ok (record { number = sym done.number_is i; bytes = is.bytes }));
          at_is = done.at_is;
          met = of.met;
          pass_is = done.pass_is ∙ (λ i. met_at board (draft.pass.seen ++ (record { session = session i; principal = of.same.0 i; event = of.same.1 i }) ∷ []) pass_new.known (met_at board draft.pass.seen pass_new.known (of.pass_is i)));
          knows = prefix_through pass.known draft.pass.known pass_new.known of.knows done.knows;
        }
    finished_answer draft true (Refused at refusal) is of left =
        let session : draft.pass.session ≡ pass.session = ap (λ (p : PassValue Entry Head). p.session) of.pass_is in
        let accepted = (λ i. decided_at board draft.pass.seen (sym session i) (sym of.same.0 i) (sym of.same.1 i)) ∙ is.accepted in
        let twice : HasMetTwice board draft.pass.seen pass pass_new = record {
          next = of.next;
          met = of.met;
          pass_is = left.pass_is ∙ (λ i. met_at board draft.pass.seen pass_new.known (of.pass_is i));
          knows = prefix_through pass.known draft.pass.known pass_new.known of.knows left.knows;
        } in
        record {
          entries = draft.pass.seen;
          why = inr (left.refusal_is, accepted_is_ok _ _ accepted);
          at_is = left.at_is;
          met = inr (left.refusal_is, twice);
        }
    finished_answer draft true (Done at number) is of left = absurd left
    finished_answer draft true NoMemory is of left = absurd left
    finished_answer draft false (Refused at refusal) is of left = absurd left
    finished_answer draft false NoMemory is of left = absurd left

    -- the pass that is given back is of the board, and of the session that it was of
    pub answered_pass : (written : Written) → pass.board ≡ board → IsAnswered board pass pass_new principal event written → (pass_new.board ≡ pass.board) × (pass_new.session ≡ pass.session)
    answered_pass (Done at number) same added = (ap (λ (p : PassValue Entry Head). p.board) added.pass_is ∙ sym same, ap (λ (p : PassValue Entry Head). p.session) added.pass_is)
    answered_pass (Refused at refusal) same refused = of refused.met
      where
        of : HasMet board refused.entries pass pass_new ⊎ ((refusal ≡ NotRecorded) × HasMetTwice board refused.entries pass pass_new) → (pass_new.board ≡ pass.board) × (pass_new.session ≡ pass.session)
        of (inl met) = (ap (λ (p : PassValue Entry Head). p.board) met.pass_is ∙ sym same, ap (λ (p : PassValue Entry Head). p.session) met.pass_is)
        of (inr (is, met)) = (ap (λ (p : PassValue Entry Head). p.board) met.pass_is ∙ sym same, ap (λ (p : PassValue Entry Head). p.session) met.pass_is)
    answered_pass NoMemory same unchanged = (ap (λ (p : PassValue Entry Head). p.board) unchanged, ap (λ (p : PassValue Entry Head). p.session) unchanged)

  -- where a change was answered at the second visit that it was not recorded, the pen is broken
  pub finished_count : (draft : Draft) (pass_new : PassValue Entry Head) (is_broken : Bool) (written : Written) → IsFinished board draft pass_new is_broken written → 0 < unrecorded_by written → is_broken ≡ true
  finished_count draft pass_new true written finished some = refl
  finished_count draft pass_new false (Done at number) finished some = absurd (omega (arith, some))
  finished_count draft pass_new false (Refused at refusal) finished some = absurd finished
  finished_count draft pass_new false NoMemory finished some = absurd finished
