-- The text of a policy behind the end of a service.
use Rattle.std.proofs.Common.{◌≡◌, ◌≤◌, ◌+◌, ℕ, Bool, true, false, List, ◌++◌, arith, codes, length, length-append, refl, sym, ap, ◌∙◌, subst, append_assoc}
use Rattle.nx_io.specs.Streams.{Rose, Sends}
use Rattle.nx_io.specs.Views.{SinkView}
use Rattle.policy_history.specs.declared.heads.Head.{Head}
use Rattle.policy_history.specs.Events.{EntryTree}
use Rattle.policy_history.specs.PolicyTexts.{ended, front, line_of}
use Rattle.policy_history.specs.declared.events.Entry.{Entry}
use Rattle.policy_history.specs.Values.{entry_trees}
use Rattle.policy_book.specs.Books.{AreLasting, HasText, SendsFront}
use Rattle.nexus_serve.specs.Services.{IsTextSent, end_cut, line_cut, whole}
use Rattle.nexus_serve.specs.Inner.Reporting.{IsEnded}

module _ (h : Head) (es : List EntryTree) (start : List ℕ) (start_faults : ℕ) (sink sink_now : SinkView) (written : Bool) where
  -- the text was broken off, and nothing more was sent
  broken_text : HasText true true h es start sink.sent → Rose start_faults sink.faults → sink_now ≡ sink → written ≡ false → IsTextSent h es written start start_faults sink_now
  broken_text (entry, accepted, part) rose same unwritten =
      line_cut entry unwritten accepted (subst (λ (k : SinkView). SendsFront (start ++ front h es) k.sent (line_of h entry)) (sym same) part) (subst (λ (k : SinkView). Rose start_faults k.faults) (sym same) rose)

  -- the last line was sent and synced, or a front of it was sent
  ended_text : Sends start sink.sent (front h es) → sink.faults ≡ start_faults → (b : Bool) → written ≡ b → IsEnded b sink sink_now → IsTextSent h es written start start_faults sink_now
  ended_text sent still true is (all, lasts, same) = whole is (all ∙ ap (λ l. l ++ ended (codes "end")) sent ∙ append_assoc start (front h es) (ended (codes "end"))) lasts (same ∙ still)
  ended_text sent still false is (part, same, rose) =
      end_cut is (subst (λ (l : List ℕ). SendsFront l sink_now.sent (ended (codes "end"))) sent part) (subst (λ (n : ℕ). Rose n sink_now.faults) still rose)

  pub text_sent : (is_broken : Bool) → HasText true is_broken h es start sink.sent → (is_broken ≡ true → Rose start_faults sink.faults) → (is_broken ≡ false → sink.faults ≡ start_faults)
      → (is_broken ≡ true → (sink_now ≡ sink) × (written ≡ false)) → (is_broken ≡ false → IsEnded written sink sink_now) → IsTextSent h es written start start_faults sink_now
  text_sent true text rose still kept ended = broken_text text (rose refl) (kept refl).0 (kept refl).1
  text_sent false text rose still kept ended = ended_text text (still refl) written refl (ended refl)

module _ (h : Head) (opening entries : List Entry) (start : List ℕ) (sink sink_now : SinkView) (written : Bool) where
  -- what the last line leaves of the changes that last: all of them, whether it went out and was synced or not
  ended_lasts : Sends start sink.sent (front h (entry_trees entries)) → AreLasting h opening entries start sink.synced → (b : Bool) → IsEnded b sink sink_now → AreLasting h opening entries start sink_now.synced
  ended_lasts sent lasts true (all, synced, same) = λ some.
      let longer = ap length all ∙ length-append sink.sent (ended (codes "end")) in
      let long = ap length sent ∙ length-append start (front h (entry_trees entries)) in
      omega (arith, synced, longer, long)
  ended_lasts sent lasts false (part, same, rose) = λ some. subst (λ (n : ℕ). length start + length (front h (entry_trees entries)) ≤ n) (sym same) (lasts some)

  pub text_lasts : (is_broken : Bool) → HasText true is_broken h (entry_trees entries) start sink.sent → AreLasting h opening entries start sink.synced
      → (is_broken ≡ true → (sink_now ≡ sink) × (written ≡ false)) → (is_broken ≡ false → IsEnded written sink sink_now) → AreLasting h opening entries start sink_now.synced
  text_lasts true text lasts kept ended = subst (λ (k : SinkView). AreLasting h opening entries start k.synced) (sym (kept refl).0) lasts
  text_lasts false text lasts kept ended = ended_lasts text lasts written (ended refl)
