-- What is taken for the answer where a reply is read.
use Rattle.std.proofs.Common.{◌≡◌, ◌≢◌, ◌<◌, ◌≤◌, ◌+◌, ◌*◌, ℕ, List, [], ◌∷◌, ◌++◌, length, take, replicate, get_or, Bool, true, Some, None, refl, sym, ap, ◌∙◌, subst, arith, append_assoc, length-append}
use Rattle.std.specs.declared.option.Option.{Option}
use Rattle.std.specs.Io.KnownBytes.{IsAtEnd}
use Rattle.std.proofs.lemmas.List.{append-nil, length-take-le}
use Rattle.session_wire.specs.declared.replies.Reply.{Reply}
use Rattle.session_wire.specs.declared.filling.Filled.{Filled}
use Rattle.session_wire.specs.declared.filling.Filled.TheVariants.{Whole, Ended, Failed}
use Rattle.session_wire.specs.declared.reply_reader.ReplyRead.{ReplyRead}
use Rattle.session_wire.specs.declared.reply_reader.ReplyRead.TheVariants as read
use Rattle.session_wire.specs.Frames.{HasFittingNumbers, IsReplyFrameOf, framed, length_bytes, reply_payload}
use Rattle.session_wire.specs.Replies.{IsLengthOf, IsNoReply, IsReplyLength, IsReplyPart, count_of_kind}
use Rattle.session_wire.specs.Replies as answer
use Rattle.session_wire.specs.Answers.{IsAtReplysEnd, IsTakenForReply, over_after_reply, over_after_taking}
use Rattle.session_wire.specs.Inner.Taking.{EndsAtEnd, FillsWithin, Takes, TakesForReply, early_reply, filled, over_after_fill, reply_end_after}
use Rattle.session_wire.proofs.Taking.{takes-then}
use Rattle.session_wire.proofs.Answered.{IsHead, over-then}

-- a buffer for which there is no early answer was filled
pub reply_was_filled : (f : Filled) (before : ℕ) → early_reply f before ≡ None → f ≡ Whole
reply_was_filled Whole before e = refl
reply_was_filled (Ended n) before e = cc
reply_was_filled (Failed n) before e = cc

ended : (gain : List ℕ) (left : Option (List ℕ)) (over : Bool) → IsReplyPart gain → IsAtEnd left
    → IsTakenForReply (reply_end_after (length gain)) gain × IsAtReplysEnd (reply_end_after (length gain)) left × (over_after_reply (reply_end_after (length gain)) gain over ≡ true)
ended [] left over part at_end = (refl, at_end, refl)
ended (b ∷ bs) left over part at_end = (((λ e. cc), part), at_end, refl)

-- these bytes were taken so far, and each take gave some
pub record SoFar (left left_now : Option (List ℕ)) (taken taken_now : List ℕ) (over over_now : Bool) (gain : List ℕ) : Type 0 where
  pub bytes : Takes left left_now taken taken_now gain
  pub over_is : over_now ≡ over_after_taking gain over

pub so_far : {l m : Option (List ℕ)} {t u : List ℕ} {o p : Bool} (f : Filled) (into : List ℕ) → f ≡ Whole → Takes l m t u (filled f into) → p ≡ over_after_fill f into o → SoFar l m t u o p into
so_far {l} {m} {t} {u} {o} {p} f into w h e = record {
  bytes = subst (λ (x : Filled). Takes l m t u (filled x into)) w h;
  over_is = e ∙ ap (λ (x : Filled). over_after_fill x into o) w;
}

module _ {l m n : Option (List ℕ)} {t u v : List ℕ} {o p q : Bool} (before : List ℕ) (h : SoFar l m t u o p before) where
  -- another buffer was filled
  pub more_so_far : (f : Filled) (into : List ℕ) → f ≡ Whole → Takes m n u v (filled f into) → q ≡ over_after_fill f into p → SoFar l n t v o q (before ++ into)
  more_so_far f into w a e = record {
    bytes = takes-then h.bytes (subst (λ (x : Filled). Takes m n u v (filled x into)) w a);
    over_is = e ∙ ap (λ (x : Filled). over_after_fill x into p) w ∙ ap (over_after_taking into) h.over_is ∙ sym (over-then before into o);
  }

  -- another buffer was not filled
  pub early_reply_takes : (f : Filled) (into : List ℕ) (a : ReplyRead) (k : ℕ) → k ≡ length before → early_reply f k ≡ Some a → FillsWithin f into → Takes m n u v (filled f into)
      → ((i : ℕ) → i < length into → IsReplyPart (before ++ take i into)) → EndsAtEnd f n → q ≡ over_after_fill f into p → TakesForReply a l n t v o q
  early_reply_takes Whole into a k s e within b part at_end qo = cc
  early_reply_takes (Ended i) into a k s e within b part at_end qo =
      let gain = before ++ take i into in
      let size : k + i ≡ length gain = omega (arith, s, length-append before (take i into), length-take-le i into (omega arith)) in
      let told = ended gain n o (part i within) at_end in
      let answer_is : reply_end_after (k + i) ≡ a = cc in
      let same : reply_end_after (length gain) ≡ a = ap reply_end_after (sym size) ∙ answer_is in
      record {
        gain = gain;
        bytes = takes-then h.bytes b;
        front = subst (λ (x : ReplyRead). IsTakenForReply x gain) same told.0;
        end_is = subst (λ (x : ReplyRead). IsAtReplysEnd x n) same told.1;
        over_is = qo ∙ sym (subst (λ (x : ReplyRead). over_after_reply x gain o ≡ true) same told.2);
      }
  early_reply_takes (Failed i) into a k s e within b part at_end qo =
      let gain = before ++ take i into in
      let same : read.ReadFault ≡ a = cc in
      record {
        gain = gain;
        bytes = takes-then h.bytes b;
        front = subst (λ (x : ReplyRead). IsTakenForReply x gain) same (part i within);
        end_is = subst (λ (x : ReplyRead). IsAtReplysEnd x n) same tt;
        over_is = qo ∙ ap (over_after_taking (take i into)) h.over_is ∙ sym (over-then before (take i into) o) ∙ ap (λ (x : ReplyRead). over_after_reply x gain o) same;
      }

module _ {l m : Option (List ℕ)} {t u : List ℕ} {o p : Bool} (gain : List ℕ) (h : SoFar l m t u o p gain) where
  -- it is known that this is no reply
  pub bad_takes : IsNoReply gain → TakesForReply read.Bad l m t u o p
  bad_takes none = record { gain = gain; bytes = h.bytes; front = none; end_is = tt; over_is = h.over_is }

  -- a whole reply was taken
  pub reply_takes : (r : Reply) → IsReplyFrameOf r gain → TakesForReply (read.Reply r) l m t u o p
  reply_takes r whole = record { gain = gain; bytes = h.bytes; front = whole; end_is = tt; over_is = h.over_is }

-- one byte was taken
one_byte : (kind : List ℕ) → length kind ≡ 1 → kind ≡ get_or kind 0 0 ∷ []
one_byte [] e = absurd (omega (arith, e))
one_byte (k ∷ []) e = refl
one_byte (k ∷ l ∷ ls) e = absurd (omega (arith, e))

module _ (head : List ℕ) (n : ℕ) (h : IsHead head n) where
  -- no reply has the length
  pub length_is_none : ¬ IsReplyLength n → IsNoReply head
  length_is_none other = answer.bad_length n h.fits other h.head_is

  module _ (kind : List ℕ) (size : length kind ≡ 1) where
    -- the length and the kind
    head_and_kind : head ++ kind ≡ length_bytes n ++ get_or kind 0 0 ∷ []
    head_and_kind = ap (λ (xs : List ℕ). xs ++ kind) h.head_is ∙ ap (λ (xs : List ℕ). length_bytes n ++ xs) (one_byte kind size)

    pub part_of_kind : IsReplyLength n → (i : ℕ) → i < length kind → IsReplyPart (head ++ take i kind)
    part_of_kind some i below =
        answer.without_kind n some (ap (λ (k : ℕ). head ++ take k kind) (let none : i ≡ 0 = omega (arith, size) in none) ∙ append-nil head ∙ h.head_is)

    -- no reply has the kind and the length
    pub kind_is_none : IsReplyLength n → ¬ IsLengthOf (get_or kind 0 0) n → IsNoReply (head ++ kind)
    kind_is_none some other = answer.bad_kind n (get_or kind 0 0) some other head_and_kind

    pub size_so_far : 5 ≡ length (head ++ kind)
    size_so_far = omega (arith, length-append head kind, h.size, size)

    pub part_of_numbers : (numbers : List ℕ) → IsLengthOf (get_or kind 0 0) n → n ≡ 1 + length numbers → (i : ℕ) → i < length numbers → IsReplyPart ((head ++ kind) ++ take i numbers)
    part_of_numbers numbers known all i below =
        answer.cut n (get_or kind 0 0) (take i numbers) known
        (ap (λ (xs : List ℕ). xs ++ take i numbers) head_and_kind ∙ append_assoc (length_bytes n) (get_or kind 0 0 ∷ []) (take i numbers))
        (omega (arith, length-take-le i numbers (omega arith)))

    -- length, kind and numbers are the frame of a reply
    pub is_reply_frame : (numbers : List ℕ) (r : Reply) → n ≡ 1 + length numbers → HasFittingNumbers r → reply_payload r ≡ get_or kind 0 0 ∷ numbers → IsReplyFrameOf r ((head ++ kind) ++ numbers)
    is_reply_frame numbers r all fits payload = (
      fits,
      ap (λ (xs : List ℕ). xs ++ numbers) head_and_kind ∙ append_assoc (length_bytes n) (get_or kind 0 0 ∷ []) numbers
          ∙ ap (λ (k : ℕ). length_bytes k ++ get_or kind 0 0 ∷ numbers) (let same : n ≡ length (get_or kind 0 0 ∷ numbers) = omega (arith, all) in same) ∙ ap framed (sym payload),
    )

-- a kind that is unknown, or of another length, has not this one
pub unknown_kind : (kind n : ℕ) → count_of_kind kind ≡ None → ¬ IsLengthOf kind n
unknown_kind kind n none h = let known = h.1 in cc

pub other_length : (kind n count : ℕ) → count_of_kind kind ≡ Some count → n ≢ 1 + 8 * count → ¬ IsLengthOf kind n
other_length kind n count known other h =
    let found = h.1 in
    let same : h.0 ≡ count = cc in
    other (h.2 ∙ ap (λ (k : ℕ). 1 + 8 * k) same)

-- the buffer of the numbers has the size that the length tells
pub numbers_size : (numbers : List ℕ) (n count : ℕ) → length numbers ≡ length {A = ℕ} (take (8 * count) (replicate 32 0)) → count ≤ 4 → n ≡ 1 + 8 * count → n ≡ 1 + length numbers
numbers_size numbers n count size few e =
    let all : length {A = ℕ} (take (8 * count) (replicate 32 0)) ≡ 8 * count = length-take-le (8 * count) (replicate 32 0) (omega arith) in
    omega (arith, size, all, e)
