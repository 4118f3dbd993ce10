-- What a session over a link comes to by one turn more, whoever answers its requests.
use Rattle.std.proofs.Common.{◌≡◌, ◌+◌, ◌<◌, ℕ, List, [], ◌∷◌, ◌++◌, length, take, Option, Some, None, refl, sym, ap, subst, ◌∙◌, arith, inl, inr}
use Rattle.std.specs.Prelude.{◌⊎◌, false}
use Rattle.std.proofs.lemmas.List.{append-nil, length-append}
use Rattle.nx_io.specs.Streams.{gained, Grows}
use Rattle.session_wire.specs.declared.requests.Request.{Request}
use Rattle.session_wire.specs.declared.replies.Reply.{Reply}
use Rattle.session_wire.specs.declared.replies.Reply.TheVariants.{Bad}
use Rattle.session_wire.specs.declared.fields.FrameFault.{FrameFault}
use Rattle.session_wire.specs.declared.frame_reader.Framed.{Framed}
use Rattle.session_wire.specs.declared.frame_reader.Framed.TheVariants as framed
use Rattle.session_wire.specs.Frames.{IsFrameOf, reply_frame, request_frames}
use Rattle.session_wire.specs.Answers.{IsTakenFor, faults_after_frame, over_after_frame, over_after_taking}
use Rattle.session_wire.specs.Beginnings.{IsBad, Spells}
use Rattle.session_wire.proofs.ForCallers.{reply_frames_then, spells_more}
use Rattle.session_core.specs.declared.ends.SessionEnd.{SessionEnd}
use Rattle.session_core.specs.declared.ends.SessionEnd.TheVariants.{BadFrame, Closed, ReadFault, Torn, WriteFault}
use Rattle.session_core.specs.Ends.{HasEnded, IsBadBehind, faults_after_end, is_over, most_requests}
use Rattle.session_core.specs.Ends as ends
use Rattle.session_core.specs.Inner.Serving.{IsRefused, IsSent, faults_after_sending}
use Rattle.session_core.specs.Inner.Sittings.{HasSat, IsReplied, IsSitting, IsTurnOf, Telling, TellsNoMore}

-- bytes that are the frames of requests, and nothing else
all_frames : (taken : List ℕ) (requests : List Request) → Spells taken requests [] → taken ≡ request_frames requests
all_frames taken requests h = h.frames ∙ append-nil (request_frames requests)

-- what stands behind the frames of requests
behind_them : (taken gain : List ℕ) (requests : List Request) → Spells taken requests [] → Spells (taken ++ gain) requests gain
behind_them taken gain requests h = record { fit = h.fit; frames = ap (λ (xs : List ℕ). xs ++ gain) (all_frames taken requests h) }

bad_behind : (taken gain : List ℕ) (requests : List Request) (fault : FrameFault) (place : ℕ) → Spells taken requests [] → IsBad (length taken) gain fault place
    → IsBadBehind (taken ++ gain) requests place
bad_behind taken gain requests fault place h bad = record {
  rest = gain;
  fault = fault;
  spelled = behind_them taken gain requests h;
  bad = subst (λ (xs : List ℕ). IsBad (length xs) gain fault place) (all_frames taken requests h) bad;
}

-- what a session comes to by a turn: it goes on, or it has ended so
abbrev pub Comes : Telling → Option SessionEnd → ℕ → List ℕ → List ℕ → Type 0
Comes Now None count taken sent = IsSitting Now taken sent (count + 1)
Comes Now (Some end) count taken sent = HasSat Now end taken sent

-- it goes on behind a request whose reply was sent
goes_on : (Told Now : Telling) (count : ℕ) (taken gain sent sent_now : List ℕ) (q : Request) (end : Option SessionEnd)
    → IsSitting Told taken sent count → IsFrameOf q gain → (a : IsReplied Told Now sent sent_now q end) → sent_now ≡ sent ++ reply_frame a.reply
    → Comes Now None count (taken ++ gain) sent_now
goes_on Told Now count taken gain sent sent_now q end v frame a whole = record {
  requests = v.requests ++ q ∷ [];
  replies = v.replies ++ a.reply ∷ [];
  spelled = spells_more taken gain v.requests q v.spelled frame;
  many = omega (arith, length-append v.requests (q ∷ []), v.many);
  sent_is = whole ∙ ap (λ (xs : List ℕ). xs ++ reply_frame a.reply) v.sent_is ∙ sym (reply_frames_then v.replies a.reply);
  told = a.told v.requests v.replies v.told;
}

-- it ends within the reply to a request
breaks_off : (Told Now : Telling) (count : ℕ) (taken gain sent sent_now : List ℕ) (q : Request) (end : Option SessionEnd) (n : ℕ)
    → IsSitting Told taken sent count → count < most_requests → IsFrameOf q gain → (a : IsReplied Told Now sent sent_now q end) → n < length (reply_frame a.reply)
    → sent_now ≡ sent ++ take n (reply_frame a.reply) → Comes Now (Some WriteFault) count (taken ++ gain) sent_now
breaks_off Told Now count taken gain sent sent_now q end n v few frame a short part = record {
  requests = v.requests ++ q ∷ [];
  replies = v.replies ++ a.reply ∷ [];
  ended = ends.reply_unsent v.replies a.reply n refl (spells_more taken gain v.requests q v.spelled frame) (omega (arith, length-append v.requests (q ∷ []), v.many, few)) refl short
      (part ∙ ap (λ (xs : List ℕ). xs ++ take n (reply_frame a.reply)) v.sent_is);
  told = a.told v.requests v.replies v.told;
}

replied_turn : (Told Now : Telling) (count : ℕ) (taken gain sent sent_now : List ℕ) (q : Request) (end : Option SessionEnd)
    → IsSitting Told taken sent count → count < most_requests → IsFrameOf q gain → (a : IsReplied Told Now sent sent_now q end) → IsSent a.reply end sent sent_now
    → Comes Now end count (taken ++ gain) sent_now
replied_turn Told Now count taken gain sent sent_now q end v few frame a (inl whole) =
    subst (λ (e : Option SessionEnd). Comes Now e count (taken ++ gain) sent_now) (sym whole.0) (goes_on Told Now count taken gain sent sent_now q end v frame a whole.1)
replied_turn Told Now count taken gain sent sent_now q end v few frame a (inr part) =
    subst (λ (e : Option SessionEnd). Comes Now e count (taken ++ gain) sent_now) (sym part.0)
    (breaks_off Told Now count taken gain sent sent_now q end part.1.0 v few frame a part.1.1 part.1.2)

-- it ends so where nothing more was told
ends_still : (Told Now : Telling) (count : ℕ) (taken now sent sent_now : List ℕ) (end : SessionEnd) → (v : IsSitting Told taken sent count) → TellsNoMore Told Now
    → HasEnded end now sent_now v.requests v.replies → Comes Now (Some end) count now sent_now
ends_still Told Now count taken now sent sent_now end v still ended = record {
  requests = v.requests;
  replies = v.replies;
  ended = ended;
  told = still v.requests v.replies v.told;
}

refused_turn : (Told Now : Telling) (count : ℕ) (taken gain sent sent_now : List ℕ) (end : Option SessionEnd) (fault : FrameFault) (place : ℕ)
    → IsSitting Told taken sent count → count < most_requests → IsBad (length taken) gain fault place → TellsNoMore Told Now → IsRefused place end sent sent_now
    → Comes Now end count (taken ++ gain) sent_now
refused_turn Told Now count taken gain sent sent_now end fault place v few bad still (inl whole) =
    subst (λ (e : Option SessionEnd). Comes Now e count (taken ++ gain) sent_now) (sym whole.0)
    (ends_still Told Now count taken (taken ++ gain) sent sent_now (BadFrame place) v still (ends.bad_frame place refl (bad_behind taken gain v.requests fault place v.spelled bad)
    (omega (arith, v.many, few)) (whole.1 ∙ ap (λ (xs : List ℕ). xs ++ reply_frame (Bad place)) v.sent_is)))
refused_turn Told Now count taken gain sent sent_now end fault place v few bad still (inr part) =
    subst (λ (e : Option SessionEnd). Comes Now e count (taken ++ gain) sent_now) (sym part.0)
    (ends_still Told Now count taken (taken ++ gain) sent sent_now WriteFault v still (ends.bad_unsent place part.1.0 refl (bad_behind taken gain v.requests fault place v.spelled bad)
    (omega (arith, v.many, few)) part.1.1 (part.1.2 ∙ ap (λ (xs : List ℕ). xs ++ take part.1.0 (reply_frame (Bad place))) v.sent_is)))

turn_of : (read : Framed) (Told Now : Telling) (count : ℕ) (taken gain sent sent_now : List ℕ) (end : Option SessionEnd)
    → IsSitting Told taken sent count → count < most_requests → IsTurnOf read Told Now sent sent_now end → IsTakenFor read (length taken) gain
    → Comes Now end count (taken ++ gain) sent_now
turn_of (framed.Request q) Told Now count taken gain sent sent_now end v few a frame = replied_turn Told Now count taken gain sent sent_now q end v few frame a a.reply_sent
turn_of framed.Memory Told Now count taken gain sent sent_now end v few a frame =
    replied_turn Told Now count taken gain sent sent_now frame.0 end v few frame.1 (a frame.0 frame.2) (a frame.0 frame.2).reply_sent
turn_of (framed.Bad fault place) Told Now count taken gain sent sent_now end v few t bad = refused_turn Told Now count taken gain sent sent_now end fault place v few bad t.0 t.1
turn_of framed.End Told Now count taken gain sent sent_now end v few t none =
    let spelled : Spells (taken ++ gain) v.requests [] =
    subst (λ (xs : List ℕ). Spells xs v.requests []) (sym (ap (λ (xs : List ℕ). taken ++ xs) none ∙ append-nil taken)) v.spelled in
    subst (λ (e : Option SessionEnd). Comes Now e count (taken ++ gain) sent_now) (sym t.2)
    (ends_still Told Now count taken (taken ++ gain) sent sent_now Closed v t.0 (ends.closed refl spelled (omega (arith, v.many, few)) (t.1 ∙ v.sent_is)))
turn_of framed.Torn Told Now count taken gain sent sent_now end v few t part =
    subst (λ (e : Option SessionEnd). Comes Now e count (taken ++ gain) sent_now) (sym t.2)
    (ends_still Told Now count taken (taken ++ gain) sent sent_now Torn v t.0
    (ends.torn gain refl (behind_them taken gain v.requests v.spelled) part.0 part.1 (omega (arith, v.many, few)) (t.1 ∙ v.sent_is)))
turn_of framed.ReadFault Told Now count taken gain sent sent_now end v few t part =
    subst (λ (e : Option SessionEnd). Comes Now e count (taken ++ gain) sent_now) (sym t.2)
    (ends_still Told Now count taken (taken ++ gain) sent sent_now ReadFault v t.0
    (ends.read_fault gain refl (behind_them taken gain v.requests v.spelled) part (omega (arith, v.many, few)) (t.1 ∙ v.sent_is)))

-- one turn, by what the reader gave
pub sat : (read : Framed) (Told Now : Telling) (count : ℕ) (taken now sent sent_now : List ℕ) (end : Option SessionEnd)
    → IsSitting Told taken sent count → count < most_requests → IsTurnOf read Told Now sent sent_now end → Grows taken now → IsTakenFor read (length taken) (gained taken now)
    → Comes Now end count now sent_now
sat read Told Now count taken now sent sent_now end v few turn grown_by frame =
    subst (λ (xs : List ℕ). Comes Now end count xs sent_now) (sym grown_by) (turn_of read Told Now count taken (gained taken now) sent sent_now end v few turn frame)

-- bytes that were taken leave a link that was not over as it was
not_over : (bytes : List ℕ) → over_after_taking bytes false ≡ false
not_over [] = refl
not_over (b ∷ bytes) = refl

-- why a turn is the last
same_end : (end last : SessionEnd) → Some end ≡ Some last → last ≡ end
same_end end last same = cc

unsent : (reply : Reply) (end : SessionEnd) (sent now : List ℕ) → IsSent reply (Some end) sent now → end ≡ WriteFault
unsent reply end sent now (inl whole) = let no = whole.0 in cc
unsent reply end sent now (inr part) = let same = part.0 in cc

refused_as : (place : ℕ) (end : SessionEnd) (sent now : List ℕ) → IsRefused place (Some end) sent now → (end ≡ BadFrame place) ⊎ (end ≡ WriteFault)
refused_as place end sent now (inl whole) = let same = whole.0 in inl cc
refused_as place end sent now (inr part) = let same = part.0 in inr cc

-- whether the link is over, and its faults, are by the end of the session
abbrev pub IsEndOf : Framed → List ℕ → ℕ → SessionEnd → Type 0
IsEndOf read bytes faults end =
    (over_after_frame read bytes false ≡ is_over end) × (faults_after_sending (Some end) (faults_after_frame read faults) ≡ faults_after_end end faults)

refused_end : (fault : FrameFault) (place : ℕ) (end : SessionEnd) (bytes : List ℕ) (faults : ℕ) → (end ≡ BadFrame place) ⊎ (end ≡ WriteFault)
    → IsEndOf (framed.Bad fault place) bytes faults end
refused_end fault place end bytes faults (inl same) =
    subst (λ (e : SessionEnd). IsEndOf (framed.Bad fault place) bytes faults e) (sym same) (not_over bytes, refl)
refused_end fault place end bytes faults (inr same) =
    subst (λ (e : SessionEnd). IsEndOf (framed.Bad fault place) bytes faults e) (sym same) (not_over bytes, refl)

-- a turn behind which the session goes on leaves the link as it was
abbrev pub GoesOn : Framed → List ℕ → ℕ → Type 0
GoesOn read bytes faults = (over_after_frame read bytes false ≡ false) × (faults_after_frame read faults ≡ faults)

not_refused : (place : ℕ) (sent now : List ℕ) → ¬ IsRefused place None sent now
not_refused place sent now (inl whole) = let no = whole.0 in cc
not_refused place sent now (inr part) = let no = part.0 in cc

-- why a turn is the last
pub last_sat : (read : Framed) (Told Now : Telling) (end : SessionEnd) (start : ℕ) (bytes sent sent_now : List ℕ) (faults : ℕ)
    → IsTurnOf read Told Now sent sent_now (Some end) → IsTakenFor read start bytes → IsEndOf read bytes faults end
last_sat (framed.Request q) Told Now end start bytes sent sent_now faults a frame =
    subst (λ (e : SessionEnd). IsEndOf (framed.Request q) bytes faults e) (sym (unsent a.reply end sent sent_now a.reply_sent)) (not_over bytes, refl)
last_sat framed.Memory Told Now end start bytes sent sent_now faults a frame =
    subst (λ (e : SessionEnd). IsEndOf framed.Memory bytes faults e) (sym (unsent (a frame.0 frame.2).reply end sent sent_now (a frame.0 frame.2).reply_sent)) (not_over bytes, refl)
last_sat (framed.Bad fault place) Told Now end start bytes sent sent_now faults t frame = refused_end fault place end bytes faults (refused_as place end sent sent_now t.1)
last_sat framed.End Told Now end start bytes sent sent_now faults t frame = subst (λ (e : SessionEnd). IsEndOf framed.End bytes faults e) (same_end end Closed t.2) (refl, refl)
last_sat framed.Torn Told Now end start bytes sent sent_now faults t frame = subst (λ (e : SessionEnd). IsEndOf framed.Torn bytes faults e) (same_end end Torn t.2) (refl, refl)
last_sat framed.ReadFault Told Now end start bytes sent sent_now faults t frame =
    subst (λ (e : SessionEnd). IsEndOf framed.ReadFault bytes faults e) (same_end end ReadFault t.2) (not_over bytes, refl)

-- a turn behind which the session goes on leaves the link as it was
pub no_last_sat : (read : Framed) (Told Now : Telling) (bytes sent sent_now : List ℕ) (faults : ℕ) → IsTurnOf read Told Now sent sent_now None → GoesOn read bytes faults
no_last_sat (framed.Request q) Told Now bytes sent sent_now faults t = (not_over bytes, refl)
no_last_sat framed.Memory Told Now bytes sent sent_now faults t = (not_over bytes, refl)
no_last_sat (framed.Bad fault place) Told Now bytes sent sent_now faults t = absurd (not_refused place sent sent_now t.1)
no_last_sat framed.End Told Now bytes sent sent_now faults t = let no = t.2 in cc
no_last_sat framed.Torn Told Now bytes sent sent_now faults t = let no = t.2 in cc
no_last_sat framed.ReadFault Told Now bytes sent sent_now faults t = let no = t.2 in cc
