-- What is written is read again.
use Rattle.std.proofs.Common.{◌≡◌, ℕ, List, Result, Ok, Err, IfOk, subst, sym}
use Rattle.std.specs.List.{All}
use Rattle.policy_history.specs.declared.heads.Head.{Head}
use Rattle.policy_history.specs.Events.{EntryTree}
use Rattle.policy_history.specs.Machine.{IsLegal}
use Rattle.policy_history.specs.PolicyTexts.{policy_text}
use Rattle.journal_text.specs.PolicyLaws.{IsInSession, IsKeptEntry, IsKeptHead, PrintedIsRead}
use Rattle.journal_text.specs.PolicyText.{ReadsAs}
use Rattle.policy_compaction.specs.declared.compaction.Compacted.{Compacted}
use Rattle.policy_compaction.specs.Kept.{compacted}
use Rattle.policy_compaction.proofs.InSessions.{sessions_kept}

pub read_again : {E : Type 0} (h : Head) (es : List EntryTree) (r : Result Compacted E) → PrintedIsRead → IsLegal h (compacted es)
    → IfOk r (λ c. c.text ≡ policy_text h (compacted es)) → IfOk r (λ c. IsKeptHead h × All IsKeptEntry (compacted es))
    → IfOk r (λ c. All IsInSession es → ReadsAs c.text h (compacted es))
read_again h es (Ok c) read legal text kept = λ sessions. subst (λ (t : List ℕ). ReadsAs t h (compacted es)) (sym text) (read h (compacted es) kept.0 kept.1 (sessions_kept es sessions) legal)
read_again h es (Err e) read legal text kept = tt
