-- Laws of frames, which the proofs of other crates may cite.
use Rattle.std.proofs.Common.{◌≡◌, ◌≢◌, ℕ, List, [], ◌∷◌, ◌++◌, length, refl, sym, ap, ◌∙◌, subst, append_assoc}
use Rattle.std.proofs.lemmas.Grind.{flat_map-append}
use Rattle.std.proofs.lemmas.List.{append-nil}
use Rattle.std.proofs.lemmas.List.Elements.{All-append, All-cons, All-head, All-nil, All-tail}
use Rattle.session_wire.specs.declared.requests.Request.{Request}
use Rattle.session_wire.specs.declared.replies.Reply.{Reply}
use Rattle.session_wire.specs.declared.fields.FrameFault.{FrameFault}
use Rattle.session_wire.specs.Frames.{HasFrame, IsFrameOf, reply_frame, reply_frames, request_frame, request_frames}
use Rattle.session_wire.specs.Beginnings.{AreRequests, Beginning, Begins, IsBad, IsPart, Spells}
use Rattle.session_wire.specs.Beginnings as first
use Rattle.session_wire.specs.Laws.{AnswersAreBeginnings, OneReading, ReplyAnswersAreBeginnings}
use Rattle.session_wire.proofs.OneBeginning.{one_beginning}

-- the frames of requests, and one more
pub request_frames_then : (qs : List Request) (q : Request) → request_frames (qs ++ q ∷ []) ≡ request_frames qs ++ request_frame q
request_frames_then qs q =
    flat_map-append request_frame qs (q ∷ []) ∙ ap (λ (xs : List ℕ). request_frames qs ++ xs) (append-nil (request_frame q))

-- the frames of replies, and one more
pub reply_frames_then : (rs : List Reply) (r : Reply) → reply_frames (rs ++ r ∷ []) ≡ reply_frames rs ++ reply_frame r
reply_frames_then rs r =
    flat_map-append reply_frame rs (r ∷ []) ∙ ap (λ (xs : List ℕ). reply_frames rs ++ xs) (append-nil (reply_frame r))

-- no frame
pub spells_none : (bytes : List ℕ) → Spells bytes [] bytes
spells_none bytes = record { fit = All-nil HasFrame; frames = refl }

-- the frames of requests, and one more that follows
pub spells_then : (bytes rest more : List ℕ) (qs : List Request) (q : Request) → Spells bytes qs rest → HasFrame q → rest ≡ request_frame q ++ more → Spells bytes (qs ++ q ∷ []) more
spells_then bytes rest more qs q h fits e = record {
  fit = All-append HasFrame qs (q ∷ []) h.fit (All-cons HasFrame q [] fits (All-nil HasFrame));
  frames = h.frames ∙ ap (λ (xs : List ℕ). request_frames qs ++ xs) e ∙ sym (append_assoc (request_frames qs) (request_frame q) more)
      ∙ ap (λ (xs : List ℕ). xs ++ more) (sym (request_frames_then qs q));
}

-- bytes that are the frames of requests gain that of one more
pub spells_more : (taken gain : List ℕ) (qs : List Request) (q : Request) → Spells taken qs [] → IsFrameOf q gain → Spells (taken ++ gain) (qs ++ q ∷ []) []
spells_more taken gain qs q h f = record {
  fit = All-append HasFrame qs (q ∷ []) h.fit (All-cons HasFrame q [] f.0 (All-nil HasFrame));
  frames = ap (λ (xs : List ℕ). xs ++ gain) (h.frames ∙ append-nil (request_frames qs)) ∙ ap (λ (xs : List ℕ). request_frames qs ++ xs) f.1 ∙ sym (request_frames_then qs q)
      ∙ sym (append-nil (request_frames (qs ++ q ∷ [])));
}

-- bytes that are the frames of requests, and nothing follows
frames_of : (taken : List ℕ) (qs : List Request) → Spells taken qs [] → taken ≡ request_frames qs
frames_of taken qs h = h.frames ∙ append-nil (request_frames qs)

-- what follows the frames of requests
follow : (taken gain : List ℕ) (qs : List Request) (last : Beginning) (rest : List ℕ) → Spells taken qs [] → Begins (length taken) gain last rest → ((q : Request) → last ≢ first.request q)
    → AreRequests (taken ++ gain) qs last
follow taken gain qs last rest h b none = record {
  rest = gain;
  more = rest;
  spelled = record { fit = h.fit; frames = ap (λ (xs : List ℕ). xs ++ gain) (frames_of taken qs h) };
  then = subst (λ (xs : List ℕ). Begins (length xs) gain last rest) (frames_of taken qs h) b;
  none = none;
}

-- the connection ends behind the frames of requests
pub ends_there : (taken : List ℕ) (qs : List Request) → Spells taken qs [] → AreRequests (taken ++ []) qs first.edge
ends_there taken qs h = follow taken [] qs first.edge [] h (refl, refl) (λ q e. cc)

-- a part of a frame follows the frames of requests
pub torn_there : (taken gain : List ℕ) (qs : List Request) → Spells taken qs [] → gain ≢ [] → IsPart gain → AreRequests (taken ++ gain) qs first.torn
torn_there taken gain qs h some part = follow taken gain qs first.torn [] h (some, part, refl) (λ q e. cc)

-- bytes that no request has follow the frames of requests
pub bad_there : (taken gain : List ℕ) (qs : List Request) (fault : FrameFault) (place : ℕ) → Spells taken qs [] → IsBad (length taken) gain fault place
    → AreRequests (taken ++ gain) qs (first.bad fault place)
bad_there taken gain qs fault place h bad = follow taken gain qs (first.bad fault place) [] h (gain, bad, sym (append-nil gain)) (λ q e. cc)

-- no request's frame is first
BeginsNone : List ℕ → Type 0
BeginsNone bytes = (q : Request) (rest : List ℕ) → HasFrame q → bytes ≢ request_frame q ++ rest

begins_none : (start : ℕ) (bytes : List ℕ) (last : Beginning) (more : List ℕ) → Begins start bytes last more → ((q : Request) → last ≢ first.request q) → BeginsNone bytes
unfolding BeginsNone
begins_none start bytes last more b none q rest fits e =
    none q (one_beginning start bytes last (first.request q) more rest b (fits, e)).0

-- the frame of the first request, and the others
rest_spelled : (bytes rest : List ℕ) (q : Request) (qs : List Request) → Spells bytes (q ∷ qs) rest → bytes ≡ request_frame q ++ (request_frames qs ++ rest)
rest_spelled bytes rest q qs h = h.frames ∙ append_assoc (request_frame q) (request_frames qs) rest

one_spelling : (bytes x y : List ℕ) (qs rs : List Request) → Spells bytes qs x → Spells bytes rs y → BeginsNone x → BeginsNone y → (qs ≡ rs) × (x ≡ y)
unfolding BeginsNone
one_spelling bytes x y [] [] h k none none2 = (refl, sym h.frames ∙ k.frames)
one_spelling bytes x y [] (r ∷ rs) h k none none2 =
    absurd (none r (request_frames rs ++ y) (All-head HasFrame r rs k.fit) (sym h.frames ∙ rest_spelled bytes y r rs k))
one_spelling bytes x y (q ∷ qs) [] h k none none2 =
    absurd (none2 q (request_frames qs ++ x) (All-head HasFrame q qs h.fit) (sym k.frames ∙ rest_spelled bytes x q qs h))
one_spelling bytes x y (q ∷ qs) (r ∷ rs) h k none none2 =
    let same = one_beginning 0 bytes (first.request q) (first.request r) (request_frames qs ++ x) (request_frames rs ++ y)
    (All-head HasFrame q qs h.fit, rest_spelled bytes x q qs h) (All-head HasFrame r rs k.fit, rest_spelled bytes y r rs k) in
    let heads : q ≡ r = let e = same.0 in cc in
    let tails = one_spelling (request_frames qs ++ x) x y qs rs (record { fit = All-tail HasFrame q qs h.fit; frames = refl })
    (record { fit = All-tail HasFrame r rs k.fit; frames = same.1 }) none none2 in
    (ap (λ (z : Request). z ∷ qs) heads ∙ ap (λ (zs : List Request). r ∷ zs) tails.0, tails.1)

pub one_reading : OneReading
one_reading bytes qs rs a b h k =
    let same = one_spelling bytes h.rest k.rest qs rs h.spelled k.spelled (begins_none (length (request_frames qs)) h.rest a h.more h.then h.none)
    (begins_none (length (request_frames rs)) k.rest b k.more k.then k.none) in
    let begins = subst (λ (zs : List Request). Begins (length (request_frames zs)) h.rest a h.more) same.0 h.then in
    (same.0, (one_beginning (length (request_frames rs)) k.rest a b h.more k.more (subst (λ (z : List ℕ). Begins (length (request_frames rs)) z a h.more) same.1 begins) k.then).0)

-- what is taken for an answer begins as the answer tells
pub answers_are_beginnings : AnswersAreBeginnings
answers_are_beginnings = record {
  request = λ start q taken rest h. (h.0, ap (λ (xs : List ℕ). xs ++ rest) h.1);
  bad = λ start fault place taken rest h. (taken, h, refl);
  end_is = λ start taken h. (h, refl);
  torn = λ start taken h. (h.0, h.1, refl);
}

pub reply_answers_are_beginnings : ReplyAnswersAreBeginnings
reply_answers_are_beginnings = record {
  reply = λ r taken rest h. (h.0, ap (λ (xs : List ℕ). xs ++ rest) h.1);
  bad = λ taken rest h. (taken, h, refl);
  end_is = λ taken h. (h, refl);
  torn = λ taken h. (h.0, h.1, refl);
}
