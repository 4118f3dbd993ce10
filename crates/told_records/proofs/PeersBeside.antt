-- The requests of a bundle in a session beside others.
use Rattle.std.proofs.Common.{◌≡◌, ℕ, List, [], ◌∷◌, ◌++◌, map, Option, refl, sym, ap, subst, ◌∙◌, inl, inr}
use Rattle.std.specs.List.{All}
use Rattle.std.proofs.lemmas.List.Elements.{All-head, All-tail}
use Rattle.nal_term.specs.Names.{IsName}
use Rattle.nal_term.specs.Trees.{FormulaTree}
use Rattle.policy_history.specs.declared.heads.Head.{Head}
use Rattle.policy_history.specs.Events.{EntryTree, admitted}
use Rattle.session_wire.specs.declared.requests.Request.TheVariants.{Hello}
use Rattle.session_wire.specs.declared.replies.Reply.{Reply}
use Rattle.authority_ask.specs.Panels.{Told as Ask}
use Rattle.verdict_words.specs.declared.views.Item.{Item}
use Rattle.session_core.specs.Answers.{Outcome}
use Rattle.session_core.specs.Standing.{Standing, beginning}
use Rattle.session_core.specs.Calls.{Turn}
use Rattle.session_core.specs.Told.{Answers, Leads}
use Rattle.session_core.specs.Changes as changing
use Rattle.session_core.specs.Told as told
use Rattle.peer_labels.specs.Requests.{bundle_requests, label_request}
use Rattle.told_records.specs.PeerSessions.{AreOfPeer, PeersSayLabels}
use Rattle.told_records.proofs.Peers.{IsGreeted, IsReadAgain, Says, bundle_read, greeted_named, greeted_who, nothing, of_peer, one_event, one_said, says_more}

module _ (h : Head) (es : List EntryTree) (s : ℕ) (x secret : List ℕ) (named : IsName x) where
  -- a label, behind the hello: who is admitted stays so, and an entry comes of it only in that one's name
  turn_says : (before : Standing) (f : FormulaTree) (turn : Turn) → IsGreeted h s x secret before.who → IsReadAgain f → Answers h es s before (label_request x f) turn
      → (turn.after.who ≡ before.who) × Says h s before.who (f ∷ []) turn.added
  turn_says before f turn greeted read answer = of answer
    where
      still : (left : Turn) → turn ≡ left → left.after.who ≡ before.who → left.added ≡ [] → (turn.after.who ≡ before.who) × Says h s before.who (f ∷ []) turn.added
      still left is who none = (ap (λ (t : Turn). t.after.who) is ∙ who, nothing h s before.who (f ∷ []) turn.added (ap (λ (t : Turn). t.added) is ∙ none))

      of : Answers h es s before (label_request x f) turn → (turn.after.who ≡ before.who) × Says h s before.who (f ∷ []) turn.added
      of (told.hello n sec greeting is greets same) = absurd (cc is)
      of (told.early nobody other same) = still _ same refl refl
      of (told.change p e who is (changing.refused m refusal met seen refuses meets same)) = still _ same refl refl
      of (told.change p e who is (changing.not_recorded m due met seen accepts meets same)) = still _ same refl refl
      of (told.change p e who is (changing.done m due met seen accepts at meets same)) =
          let entry = one_said h s p x f e turn.added (greeted_named h s x secret before.who greeted p who) (one_event x f named read e is) (ap (λ (t : Turn). t.added) same) in
          (ap (λ (t : Turn). t.after.who) same, subst (λ (o : Option ℕ). Says h s o (f ∷ []) turn.added) (sym who) entry)
      of (told.call p op object arg who is calls) = absurd (cc is)
      of (told.given_up wants same) = still _ same refl refl
      of (told.call_given_up p op object arg who is gives) = absurd (cc is)
      of (told.call_unrecorded p op object arg who is goes) = absurd (cc is)
      of (told.see p k who is sees) = absurd (cc is)

  -- so it is of all labels
  leads_say : (labels : List FormulaTree) (before : Standing) (replies : List Reply) (asks : List Ask) (steps : List Item) (added : List EntryTree) (last : Standing)
      → IsGreeted h s x secret before.who → All IsReadAgain labels → Leads h es s before (map (label_request x) labels) replies asks steps added last → Says h s before.who labels added
  leads_say [] before [] asks steps added last greeted each led = nothing h s before.who [] added led.2
  leads_say (f ∷ labels) before (r ∷ rs) asks steps added last greeted each led =
      let turn = led.0 in
      let first = turn_says before f turn greeted (All-head IsReadAgain f labels each) led.4 in
      let others = leads_say labels turn.after rs led.1 led.2 led.3 last (subst (IsGreeted h s x secret) (sym first.0) greeted) (All-tail IsReadAgain f labels each) led.9 in
      subst (Says h s before.who (f ∷ labels)) (sym led.8) (says_more h s before.who f labels turn.added led.3 first.1 (subst (λ (o : Option ℕ). Says h s o labels led.3) first.0 others))
  leads_say [] before (r ∷ rs) asks steps added last greeted each led = absurd led
  leads_say (f ∷ labels) before [] asks steps added last greeted each led = absurd led

  -- the hello adds nothing
  hello_greets : (first : ℕ) (turn : Turn) → Answers h es s (beginning first) (Hello x secret) turn → (turn.added ≡ []) × IsGreeted h s x secret turn.after.who
  hello_greets first turn (told.hello n sec greeting is greets same) =
      let name_is : x ≡ n = cc is in
      let secret_is : secret ≡ sec = cc is in
      let who : greeting.who ≡ admitted h.principals x secret = ap (λ (o : Outcome). o.who) greets ∙ greeted_who first s (admitted h.principals n sec) ∙ rw (name_is, secret_is) refl in
      (ap (λ (t : Turn). t.added) same, inr (ap (λ (t : Turn). t.after.who) same ∙ who))
  hello_greets first turn (told.early nobody other same) = absurd (other x secret refl)
  hello_greets first turn (told.change p e who is changes) = absurd (cc who)
  hello_greets first turn (told.call p op object arg who is calls) = absurd (cc who)
  hello_greets first turn (told.given_up wants same) = (ap (λ (t : Turn). t.added) same, inl (ap (λ (t : Turn). t.after.who) same))
  hello_greets first turn (told.call_given_up p op object arg who is gives) = absurd (cc who)
  hello_greets first turn (told.call_unrecorded p op object arg who is goes) = absurd (cc who)
  hello_greets first turn (told.see p k who is sees) = absurd (cc who)

  session_says : (first : ℕ) (labels : List FormulaTree) (replies : List Reply) (asks : List Ask) (steps : List Item) (added : List EntryTree) (last : Standing)
      → All IsReadAgain labels → Leads h es s (beginning first) (bundle_requests x secret labels) replies asks steps added last → AreOfPeer h s x secret labels added
  session_says first labels [] asks steps added last each led = absurd led
  session_says first labels (r ∷ rs) asks steps added last each led =
      let turn = led.0 in
      let greets = hello_greets first turn led.4 in
      let says = leads_say labels turn.after rs led.1 led.2 led.3 last greets.1 each led.9 in
      subst (AreOfPeer h s x secret labels) (sym (led.8 ∙ ap (λ (es : List EntryTree). es ++ led.3) greets.0)) (of_peer h s x secret turn.after.who labels led.3 greets.1 says)

pub peers_say : PeersSayLabels
peers_say h es s low x secret text labels replies asks trail last named is t =
    subst (AreOfPeer h s x secret labels) (sym t.entries) (session_says h es s x secret named t.first labels replies asks t.steps t.added last (bundle_read text labels is) t.leads)
