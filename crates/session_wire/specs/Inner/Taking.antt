-- What a link does while a buffer is filled from it.
use Rattle.std.specs.Prelude.{◌≡◌, ◌<◌, ◌+◌, ℕ, zero, suc, List, ◌++◌, length, take, slice_index, Bool, true, Some, None}
use Rattle.std.specs.Io.KnownBytes.{IsAtEnd}
use Rattle.std.specs.declared.option.Option.{Option}
use Rattle.nx_io.specs.Streams.{one_more, prepended}
use Rattle.session_wire.specs.declared.filling.Filled.{Filled}
use Rattle.session_wire.specs.declared.filling.Filled.TheVariants.{Whole, Ended, Failed}
use Rattle.session_wire.specs.declared.frame_reader.Framed.{Framed}
use Rattle.session_wire.specs.declared.frame_reader.Framed.TheVariants as framed
use Rattle.session_wire.specs.declared.reply_reader.ReplyRead.{ReplyRead}
use Rattle.session_wire.specs.declared.reply_reader.ReplyRead.TheVariants as read
use Rattle.session_wire.specs.Answers.{IsAtItsEnd, IsAtReplysEnd, IsTakenFor, IsTakenForReply, over_after_frame, over_after_reply, over_after_taking}

-- bytes are numbers below 256
abbrev pub AreBytes : List ℕ → Type 0
AreBytes bytes = (i : ℕ) → slice_index bytes i < 256

-- these bytes were taken: they came off the front of those to come
pub record Takes (left left_now : Option (List ℕ)) (taken taken_now gain : List ℕ) : Type 0 where
  pub taken_is : taken_now ≡ taken ++ gain
  pub left_is : left ≡ prepended gain left_now

-- the part of a buffer that was filled
abbrev pub filled : Filled → List ℕ → List ℕ
filled Whole into = into
filled (Ended n) into = take n into
filled (Failed n) into = take n into

-- a buffer that was not filled has room
abbrev pub FillsWithin : Filled → List ℕ → Type 0
FillsWithin Whole into = Unit {0}
FillsWithin (Ended n) into = n < length into
FillsWithin (Failed n) into = n < length into

-- fewer bytes than k were put into a buffer that was not filled
abbrev pub FillsFewer : Filled → ℕ → Type 0
FillsFewer Whole k = Unit {0}
FillsFewer (Ended n) k = n < k
FillsFewer (Failed n) k = n < k

-- the end came where no byte was to come
abbrev pub EndsAtEnd : Filled → Option (List ℕ) → Type 0
EndsAtEnd Whole left = Unit {0}
EndsAtEnd (Ended n) left = IsAtEnd left
EndsAtEnd (Failed n) left = Unit {0}

-- whether the link is over afterwards
abbrev pub over_after_fill : Filled → List ℕ → Bool → Bool
over_after_fill Whole into over = over_after_taking into over
over_after_fill (Ended n) into over = true
over_after_fill (Failed n) into over = over_after_taking (take n into) over

-- the count of faults afterwards: one more where the link failed
abbrev pub faults_after_fill : Filled → ℕ → ℕ
faults_after_fill Whole faults = faults
faults_after_fill (Ended n) faults = faults
faults_after_fill (Failed n) faults = one_more faults

-- the answer at the end of a link that gave so many bytes of a frame
abbrev pub end_after : ℕ → Framed
end_after zero = framed.End
end_after (suc n) = framed.Torn

-- the answer where a buffer was not filled, and how many bytes were taken for it, so many of them before: none where it was
abbrev pub early_answer : Filled → ℕ → Option (Framed × ℕ)
early_answer Whole before = None
early_answer (Ended n) before = Some (end_after (before + n), before + n)
early_answer (Failed n) before = Some (framed.ReadFault, before + n)

-- what was taken for an answer
pub record TakesFor (answer : Framed) (count start : ℕ) (left left_now : Option (List ℕ)) (taken taken_now : List ℕ) (over over_now : Bool) : Type 0 where
  pub gain : List ℕ
  pub size : count ≡ length gain
  pub bytes : Takes left left_now taken taken_now gain
  pub front : IsTakenFor answer start gain
  pub end_is : IsAtItsEnd answer left_now
  pub over_is : over_now ≡ over_after_frame answer gain over

-- the answer at the end of a link that gave so many bytes of a reply
abbrev pub reply_end_after : ℕ → ReplyRead
reply_end_after zero = read.End
reply_end_after (suc n) = read.Torn

-- the answer where a buffer was not filled, so many bytes being taken before: none where it was
abbrev pub early_reply : Filled → ℕ → Option ReplyRead
early_reply Whole before = None
early_reply (Ended n) before = Some (reply_end_after (before + n))
early_reply (Failed n) before = Some read.ReadFault

-- what was taken for an answer
pub record TakesForReply (answer : ReplyRead) (left left_now : Option (List ℕ)) (taken taken_now : List ℕ) (over over_now : Bool) : Type 0 where
  pub gain : List ℕ
  pub bytes : Takes left left_now taken taken_now gain
  pub front : IsTakenForReply answer gain
  pub end_is : IsAtReplysEnd answer left_now
  pub over_is : over_now ≡ over_after_reply answer gain over
