-- Every talk keeps its order.
use Rattle.std.proofs.Common.{◌≡◌, ◌≢◌, ◌<◌, ◌≤◌, ◌+◌, ℕ, zero, suc, List, [], ◌∷◌, ◌++◌, length, take, drop, Bool, true, false, inl, inr, refl, sym, ap, ◌∙◌, append_assoc, arith, length-append}
use Rattle.std.specs.List.{concat}
use Rattle.std.proofs.lemmas.List.{append-nil, length-take-le, take-append-drop}
use Rattle.std.proofs.lemmas.List.Elements.{All-cons, All-head, All-nil, All-tail}
use Rattle.policy_history.specs.PolicyTexts.{ended}
use Rattle.journal_text.specs.ReplyLines.{reply_text}
use Rattle.session_wire.specs.declared.replies.Reply.{Reply}
use Rattle.session_wire.specs.Frames.{HasFittingNumbers, reply_frame, reply_frames}
use Rattle.session_wire.specs.Laws.{OneReplyBeginning}
use Rattle.session_wire.specs.Replies.{IsNoReply, IsReplyPart}
use Rattle.session_wire.specs.Replies as answer
use Rattle.nexus_client.specs.declared.ends.TalkEnd.{TalkEnd}
use Rattle.nexus_client.specs.declared.ends.TalkEnd.TheVariants as end
use Rattle.nexus_client.specs.Talks.{Talks, written_line}
use Rattle.nexus_client.specs.Talks as talk
use Rattle.nexus_client.specs.TalkLaws.{BeginsWith, ComesTo, IsInOrder, IsUnwritten, OneSpelling, SpellsReplies, TalksAreInOrder, written_lines}

-- behind one piece
front_more : (bytes front more : List ℕ) → BeginsWith bytes front → BeginsWith (more ++ bytes) (more ++ front)
front_more bytes front more h = (h.0, ap (λ (xs : List ℕ). more ++ xs) h.1 ∙ sym (append_assoc more front h.0))

-- a front of a length
front_of : (n : ℕ) (bytes more : List ℕ) → BeginsWith (bytes ++ more) (take n bytes)
front_of n bytes more = (drop n bytes ++ more, ap (λ (xs : List ℕ). xs ++ more) (sym (take-append-drop n bytes)) ∙ append_assoc (take n bytes) (drop n bytes) more)

-- a reply more in front
spells_more : (bytes : List ℕ) (replies : List Reply) (rest : List ℕ) (reply : Reply) → HasFittingNumbers reply → SpellsReplies bytes replies rest
    → SpellsReplies (reply_frame reply ++ bytes) (reply ∷ replies) rest
spells_more bytes replies rest reply fits h = record {
  fit = All-cons HasFittingNumbers reply replies fits h.fit;
  frames = ap (λ (xs : List ℕ). reply_frame reply ++ xs) h.frames ∙ sym (append_assoc (reply_frame reply) (reply_frames replies) rest);
  none = h.none;
}

unwritten_more : (replies : List Reply) (written part : List ℕ) (reply : Reply) → IsUnwritten replies written part → IsUnwritten (reply ∷ replies) (written_line reply ++ written) part
unwritten_more replies written part reply h = record {
  before = reply ∷ h.before;
  last = h.last;
  replies_are = ap (λ (rs : List Reply). reply ∷ rs) h.replies_are;
  n = h.n;
  part_is = h.part_is;
  less = h.less;
  written_is = ap (λ (xs : List ℕ). written_line reply ++ xs) h.written_is ∙ sym (append_assoc (written_line reply) (written_lines h.before) part);
}

-- of the line of one reply a part was written
unwritten_first : (reply : Reply) (n : ℕ) → n < length (written_line reply) → IsUnwritten (reply ∷ []) (take n (written_line reply)) (take n (written_line reply))
unwritten_first reply n less = record { before = []; last = reply; replies_are = refl; n = n; part_is = refl; less = less; written_is = refl }

module _ (request : List ℕ) (requests : List (List ℕ)) (reply : Reply) (replies : List Reply) (sent written : List ℕ) where
  answered_more : ((k : ℕ) → length (concat (take k requests)) < length sent → (k ≤ length replies) × BeginsWith written (written_lines (take k replies)))
      → (k : ℕ) → length (concat (take k (request ∷ requests))) < length (request ++ sent)
      → (k ≤ length (reply ∷ replies)) × BeginsWith (written_line reply ++ written) (written_lines (take k (reply ∷ replies)))
  answered_more h zero less = (omega arith, (written_line reply ++ written, refl))
  answered_more h (suc k) less =
      let before = h k (omega (arith, less, length-append request (concat (take k requests)), length-append request sent)) in
      (omega (arith, before.0), front_more written (written_lines (take k replies)) (written_line reply) before.1)

  comes_more : (e : TalkEnd) (over : Bool) (rest : List ℕ) → ComesTo e requests sent written over replies rest
      → ComesTo e (request ∷ requests) (request ++ sent) (written_line reply ++ written) over (reply ∷ replies) rest
  comes_more end.Done over rest h =
      (ap suc h.0, h.1, ap (λ (xs : List ℕ). request ++ xs) h.2, ap (λ (xs : List ℕ). written_line reply ++ xs) h.3)
  comes_more end.Unreached over rest h = absurd h
  comes_more end.Broken over rest h = (omega (arith, h.0), ap (λ (xs : List ℕ). written_line reply ++ xs) h.1)
  comes_more end.Ended over rest h =
      let same : suc (length replies + 1) ≡ length (reply ∷ replies) + 1 = omega arith in (
        omega (arith, h.0),
        ap (λ (xs : List ℕ). request ++ xs) h.1 ∙ ap (λ (n : ℕ). concat (take n (request ∷ requests))) same,
        ap (λ (xs : List ℕ). written_line reply ++ xs) h.2,
        h.3,
      )
  comes_more end.Unwritten over rest h =
      (omega (arith, h.0), h.1, ap (λ (xs : List ℕ). request ++ xs) h.2, (h.3.0, unwritten_more replies written h.3.0 reply h.3.1))
  comes_more end.Memory over rest h =
      (omega (arith, h.0), h.1, ap (λ (xs : List ℕ). request ++ xs) h.2, unwritten_more replies written [] reply h.3)

-- a line with its line feed has a byte
line_is_some : (line : List ℕ) → 0 < length (ended line)
line_is_some line = omega (arith, length-append line (10 ∷ []))

-- nothing was sent behind the first request
one_sent : (A : ℕ → Type 0) (request sent : List ℕ) (requests : List (List ℕ)) → length sent ≤ length request → A 0 → (k : ℕ) → length (concat (take k (request ∷ requests))) < length sent → A k
one_sent A request sent requests few first zero less = first
one_sent A request sent requests few first (suc k) less = absurd (omega (arith, less, few, length-append request (concat (take k requests))))

module _ (one : OneReplyBeginning) where
  -- no reply stands first in a part of one, nor in what is none
  none_in_part : (bytes : List ℕ) → IsReplyPart bytes → (reply : Reply) (more : List ℕ) → HasFittingNumbers reply → bytes ≢ reply_frame reply ++ more
  none_in_part [] part reply more fits e = let same = (one [] answer.edge (answer.reply reply) [] more (refl, refl) (fits, e)).0 in cc
  none_in_part (b ∷ bs) part reply more fits e =
      let same = (one (b ∷ bs) answer.torn (answer.reply reply) [] more ((λ x. cc), part, refl) (fits, e)).0 in cc

  none_in_no_reply : (bytes : List ℕ) → IsNoReply bytes → (reply : Reply) (more : List ℕ) → HasFittingNumbers reply → bytes ≢ reply_frame reply ++ more
  none_in_no_reply bytes bad reply more fits e =
      let same = (one bytes answer.bad (answer.reply reply) [] more (bytes, bad, sym (append-nil bytes)) (fits, e)).0 in cc

  none_in_nothing : (reply : Reply) (more : List ℕ) → HasFittingNumbers reply → [] ≢ reply_frame reply ++ more
  none_in_nothing = none_in_part [] (answer.few (omega arith))

  -- these bytes spell no reply
  spells_none : (bytes : List ℕ) → ((reply : Reply) (more : List ℕ) → HasFittingNumbers reply → bytes ≢ reply_frame reply ++ more) → SpellsReplies bytes [] bytes
  spells_none bytes none = record { fit = All-nil HasFittingNumbers; frames = refl; none = none }

  spells_one : (reply : Reply) → HasFittingNumbers reply → SpellsReplies (reply_frame reply) (reply ∷ []) []
  spells_one reply fits = record {
    fit = All-cons HasFittingNumbers reply [] fits (All-nil HasFittingNumbers);
    frames = sym (append-nil (reply_frame reply)) ∙ sym (append-nil (reply_frame reply ++ []));
    none = none_in_nothing;
  }

  -- bytes spell one list of replies
  pub one_spelling : OneSpelling
  one_spelling bytes [] [] x y h k = (refl, sym h.frames ∙ k.frames)
  one_spelling bytes [] (s ∷ ss) x y h k =
      absurd (h.none s (reply_frames ss ++ y) (All-head HasFittingNumbers s ss k.fit) (sym h.frames ∙ k.frames ∙ append_assoc (reply_frame s) (reply_frames ss) y))
  one_spelling bytes (r ∷ rs) [] x y h k =
      absurd (k.none r (reply_frames rs ++ x) (All-head HasFittingNumbers r rs h.fit) (sym k.frames ∙ h.frames ∙ append_assoc (reply_frame r) (reply_frames rs) x))
  one_spelling bytes (r ∷ rs) (s ∷ ss) x y h k =
      let same = one bytes (answer.reply r) (answer.reply s) (reply_frames rs ++ x) (reply_frames ss ++ y)
      (All-head HasFittingNumbers r rs h.fit, h.frames ∙ append_assoc (reply_frame r) (reply_frames rs) x)
      (All-head HasFittingNumbers s ss k.fit, k.frames ∙ append_assoc (reply_frame s) (reply_frames ss) y) in
      let heads : r ≡ s = let e = same.0 in cc in
      let tails = one_spelling (reply_frames rs ++ x) rs ss x y (record { fit = All-tail HasFittingNumbers r rs h.fit; frames = refl; none = h.none })
      (record { fit = All-tail HasFittingNumbers s ss k.fit; frames = same.1; none = k.none }) in
      (ap (λ (z : Reply). z ∷ rs) heads ∙ ap (λ (zs : List Reply). s ∷ zs) tails.0, tails.1)

  -- the talk ended before the first reply, and nothing was written
  in_order_first : (request : List ℕ) (requests : List (List ℕ)) (sent taken : List ℕ) (over : Bool) (e : TalkEnd) → BeginsWith (request ++ concat requests) sent → length sent ≤ length request
      → ((reply : Reply) (more : List ℕ) → HasFittingNumbers reply → taken ≢ reply_frame reply ++ more) → ComesTo e (request ∷ requests) sent [] over [] taken
      → IsInOrder (request ∷ requests) sent taken [] over e
  in_order_first request requests sent taken over e front few none h = record {
    replies = [];
    rest = taken;
    spelled = spells_none taken none;
    sent_front = front;
    answered = λ k less. one_sent (λ k. (k ≤ length {A = Reply} []) × BeginsWith [] (written_lines (take k []))) request sent requests few (omega arith, ([], refl)) k less;
    written_front = ([], refl);
    comes_to = h;
  }

  -- the talk ended with the first reply, whose line was not written whole
  in_order_one : (request : List ℕ) (requests : List (List ℕ)) (reply : Reply) (n : ℕ) (e : TalkEnd) → HasFittingNumbers reply
      → ComesTo e (request ∷ requests) request (take n (written_line reply)) false (reply ∷ []) [] → IsInOrder (request ∷ requests) request (reply_frame reply) (take n (written_line reply)) false e
  in_order_one request requests reply n e fits h =
      let part = take n (written_line reply) in
      record {
        replies = reply ∷ [];
        rest = [];
        spelled = spells_one reply fits;
        sent_front = (concat requests, refl);
        answered = λ k less. one_sent (λ k. (k ≤ length (reply ∷ [])) × BeginsWith part (written_lines (take k (reply ∷ [])))) request request requests (omega arith) (omega arith, (part, refl)) k less;
        written_front = front_of n (written_line reply) [];
        comes_to = h;
      }

  in_order : {requests : List (List ℕ)} {sent taken written : List ℕ} {over : Bool} {e : TalkEnd} → Talks requests sent taken written over e → IsInOrder requests sent taken written over e
  in_order talk.done = record {
    replies = [];
    rest = [];
    spelled = spells_none [] none_in_nothing;
    sent_front = ([], refl);
    answered = λ k less. absurd (omega (arith, less));
    written_front = ([], refl);
    comes_to = (refl, refl, refl, refl);
  }
  in_order (talk.answered {requests = requests} {sent = sent} {taken = taken} {written = written} {over = over} {e = e} request reply fits t) =
      let h = in_order t in
      record {
        replies = reply ∷ h.replies;
        rest = h.rest;
        spelled = spells_more taken h.replies h.rest reply fits h.spelled;
        sent_front = front_more (concat requests) sent request h.sent_front;
        answered = answered_more request requests reply h.replies sent written h.answered;
        written_front = front_more (written_lines h.replies) written (written_line reply) h.written_front;
        comes_to = comes_more request requests reply h.replies sent written e over h.rest h.comes_to;
      }
  in_order (talk.unsent {requests = requests} request n less) =
      in_order_first request requests (take n request) [] false end.Broken (front_of n request (concat requests)) (omega (arith, length-take-le n request (omega arith))) none_in_nothing
      (omega arith, refl)
  in_order (talk.untaken {requests = requests} request part p) =
      in_order_first request requests request part false end.Broken (concat requests, refl) (omega arith) (none_in_part part p) (omega arith, refl)
  in_order (talk.cut_off {requests = requests} request part p) =
      in_order_first request requests request part true end.Ended (concat requests, refl) (omega arith) (none_in_part part p)
      (omega arith, sym (append-nil request), refl, inr (p, refl))
  in_order (talk.no_reply {requests = requests} request bytes bad) =
      in_order_first request requests request bytes false end.Ended (concat requests, refl) (omega arith) (none_in_no_reply bytes bad)
      (omega arith, sym (append-nil request), refl, inl (bad, refl))
  in_order (talk.unwritten {requests = requests} request reply n fits less) =
      in_order_one request requests reply n end.Unwritten fits (omega arith, refl, sym (append-nil request), (take n (written_line reply), unwritten_first reply n less))
  in_order (talk.no_memory {requests = requests} request reply fits) =
      in_order_one request requests reply 0 end.Memory fits (omega arith, refl, sym (append-nil request), unwritten_first reply 0 (line_is_some (reply_text reply)))

  pub talks_are_in_order : TalksAreInOrder
  talks_are_in_order requests sent taken written over e t = in_order t
