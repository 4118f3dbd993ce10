-- What is taken for an answer.
use Rattle.std.proofs.Common.{◌≡◌, ◌≢◌, ◌<◌, ◌≤◌, ◌+◌, ◌^◌, ℕ, List, [], ◌∷◌, ◌++◌, length, take, Bool, true, Some, None, inr, refl, sym, ap, ◌∙◌, subst, arith, length-append}
use Rattle.std.specs.declared.option.Option.{Option}
use Rattle.std.proofs.lemmas.List.{append-nil, length-take-le, take_all}
use Rattle.std.specs.Io.KnownBytes.{IsAtEnd}
use Rattle.byteorder.specs.Endian.{big_number}
use Rattle.byteorder.specs.Numbers.{big_from-lt}
use Rattle.session_wire.specs.declared.requests.Request.{Request}
use Rattle.session_wire.specs.declared.fields.FrameFault.TheVariants.{TooLong}
use Rattle.session_wire.specs.declared.filling.Filled.{Filled}
use Rattle.session_wire.specs.declared.filling.Filled.TheVariants.{Whole, Ended, Failed}
use Rattle.session_wire.specs.declared.frame_reader.Framed.{Framed}
use Rattle.session_wire.specs.declared.frame_reader.Framed.TheVariants as framed_
use Rattle.session_wire.specs.Frames.{IsFrameOf, framed, length_bytes, most_payload, number_bytes, request_payload}
use Rattle.session_wire.specs.Fields.{IsGoodPayload}
use Rattle.session_wire.specs.Beginnings.{IsPart}
use Rattle.session_wire.specs.Answers.{IsAtItsEnd, IsTakenFor, WantsMemory, faults_after_frame, over_after_frame, over_after_taking}
use Rattle.session_wire.specs.Inner.Taking.{AreBytes, EndsAtEnd, FillsFewer, FillsWithin, Takes, TakesFor, early_answer, end_after, filled, over_after_fill}
use Rattle.session_wire.proofs.Numbers.{length-length_bytes, length_read}
use Rattle.session_wire.proofs.Taking.{takes-then}
use Rattle.session_wire.proofs.OneBeginning.{part_is_no_frame}
use Rattle.session_wire.proofs.Payloads.{good_is_of_request}

-- a good payload is that of a request, whose frame is there; it wants memory, where it is none of kind 13
pub frame_wants : (payload body : List ℕ) (kind : ℕ) → payload ≡ kind ∷ body → kind ≢ 13 → IsGoodPayload payload → length payload ≤ most_payload
    → (q : Request) × IsFrameOf q (framed payload) × WantsMemory q
frame_wants payload body kind is other good short =
    let q = good_is_of_request payload good in
    let first : kind ∷ body ≡ request_payload q.0 = sym is ∙ q.2 in
    (q.0, ((q.1, subst (λ (p : List ℕ). length p ≤ most_payload) q.2 short), ap framed q.2), λ k same. other (kind_of k (first ∙ ap request_payload same)))
  where
    kind_of : (k : ℕ) → kind ∷ body ≡ 13 ∷ number_bytes k → kind ≡ 13
    kind_of k e = cc e

-- a buffer holds fewer bytes than its length where it was not filled
pub fewer : (f : Filled) (into : List ℕ) (k : ℕ) → length into ≤ k → FillsWithin f into → FillsFewer f k
fewer Whole into k fits h = tt
fewer (Ended n) into k fits h = omega arith
fewer (Failed n) into k fits h = omega arith

whole_is_no_part : (payload : List ℕ) → length payload ≤ most_payload → IsPart (framed payload) → ⊥
whole_is_no_part payload short h = part_is_no_frame (framed payload) payload [] h short (sym (append-nil (framed payload)))

-- what is answered to a whole frame is no end and no failure
pub whole_is_answered : (a : Framed) (start : ℕ) (payload : List ℕ) (left : Option (List ℕ)) (over : Bool) (faults : ℕ) → length payload ≤ most_payload → IsTakenFor a start (framed payload)
    → IsAtItsEnd a left × (over_after_frame a (framed payload) over ≡ over_after_taking (framed payload) over) × (faults_after_frame a faults ≡ faults)
whole_is_answered (framed_.Request q) start payload left over faults short h = (tt, refl, refl)
whole_is_answered framed_.End start payload left over faults short h =
    absurd (omega (arith, ap length h, length-append (length_bytes (length payload)) payload, length-length_bytes (length payload)))
whole_is_answered framed_.Torn start payload left over faults short h = absurd (whole_is_no_part payload short h.1)
whole_is_answered (framed_.Bad fault place) start payload left over faults short h = (tt, refl, refl)
whole_is_answered framed_.ReadFault start payload left over faults short h = absurd (whole_is_no_part payload short h)
whole_is_answered framed_.Memory start payload left over faults short h = (tt, refl, refl)

-- the four bytes of a length were taken
pub record IsHead (head : List ℕ) (n : ℕ) : Type 0 where
  pub size : length head ≡ 4
  pub fits : n < 2 ^ 32
  pub head_is : head ≡ length_bytes n

pub head_read : (head : List ℕ) (n : ℕ) → length head ≡ 4 → AreBytes head → n ≡ big_number 4 head → IsHead head n
head_read head n size are e =
    let small : big_number 4 head < 2 ^ 32 = big_from-lt 0 4 head are in
    record {
      size = size;
      fits = subst (λ (m : ℕ). m < 2 ^ 32) (sym e) small;
      head_is = sym (take_all 4 head (omega arith)) ∙ sym (length_read head (omega arith) are) ∙ ap length_bytes (sym e);
    }

-- a buffer for which there is no early answer was filled
pub was_filled : (f : Filled) (before : ℕ) → early_answer f before ≡ None → f ≡ Whole
was_filled Whole before e = refl
was_filled (Ended n) before e = cc
was_filled (Failed n) before e = cc

pub over-then : (a b : List ℕ) (over : Bool) → over_after_taking (a ++ b) over ≡ over_after_taking b (over_after_taking a over)
over-then [] b over = refl
over-then (x ∷ a) [] over = refl
over-then (x ∷ a) (y ∷ b) over = refl

-- the end of a link that gave these bytes
ended : (start : ℕ) (gain : List ℕ) (left : Option (List ℕ)) (over : Bool) → IsPart gain → IsAtEnd left
    → IsTakenFor (end_after (length gain)) start gain × IsAtItsEnd (end_after (length gain)) left × (over_after_frame (end_after (length gain)) gain over ≡ true)
ended start [] left over part at_end = (refl, at_end, refl)
ended start (b ∷ bs) left over part at_end = (((λ e. cc), part), at_end, refl)

-- the length is at fault
pub too_long_takes : {l m : Option (List ℕ)} {t u : List ℕ} (start : ℕ) (o p : Bool) (f : Filled) (head : List ℕ) (k : ℕ) → f ≡ Whole → IsHead head k → most_payload < k → Takes l m t u (filled f head) → p ≡ over_after_fill f head o
    → TakesFor (framed_.Bad TooLong start) 4 start l m t u o p
too_long_takes {l} {m} {t} {u} start o p f head k w h over a po = record {
  gain = head;
  size = sym h.size;
  bytes = subst (λ (x : Filled). Takes l m t u (filled x head)) w a;
  front = record { n = k; long = over; fits = h.fits; whole = h.head_is; at = refl };
  end_is = tt;
  over_is = po ∙ ap (λ (x : Filled). over_after_fill x head o) w;
}

module _ {l m n : Option (List ℕ)} {t u v : List ℕ} (start : ℕ) (o p q : Bool) where
  -- a buffer behind these bytes was not filled
  pub early_takes : (f : Filled) (before into : List ℕ) (answer : Framed) (count k : ℕ) → k ≡ length before → early_answer f k ≡ Some (answer, count) → FillsWithin f into
      → Takes l m t u before → Takes m n u v (filled f into) → ((i : ℕ) → i < length into → IsPart (before ++ take i into)) → EndsAtEnd f n
      → p ≡ over_after_taking before o → q ≡ over_after_fill f into p → TakesFor answer count start l n t v o q
  early_takes Whole before into answer count k s e within a b part at_end po qo = cc
  early_takes (Ended i) before into answer count k s e within a b part at_end po qo =
      let gain = before ++ take i into in
      let size : k + i ≡ length gain = omega (arith, s, length-append before (take i into), length-take-le i into (omega arith)) in
      let told = ended start gain n o (part i within) at_end in
      let pair : (let x : Framed × ℕ = (end_after (k + i), k + i) in x) ≡ (answer, count) = cc in
      let answer_is : end_after (k + i) ≡ answer = ap (λ (x : Framed × ℕ). x.0) pair in
      let count_is : k + i ≡ count = ap (λ (x : Framed × ℕ). x.1) pair in
      let same : end_after (length gain) ≡ answer = ap end_after (sym size) ∙ answer_is in
      record {
        gain = gain;
        size = sym count_is ∙ size;
        bytes = takes-then a b;
        front = subst (λ (x : Framed). IsTakenFor x start gain) same told.0;
        end_is = subst (λ (x : Framed). IsAtItsEnd x n) same told.1;
        over_is = qo ∙ sym (subst (λ (x : Framed). over_after_frame x gain o ≡ true) same told.2);
      }
  early_takes (Failed i) before into answer count k s e within a b part at_end po qo =
      let gain = before ++ take i into in
      let size : k + i ≡ length gain = omega (arith, s, length-append before (take i into), length-take-le i into (omega arith)) in
      let pair : (let x : Framed × ℕ = (framed_.ReadFault, k + i) in x) ≡ (answer, count) = cc in
      let same : framed_.ReadFault ≡ answer = ap (λ (x : Framed × ℕ). x.0) pair in
      let count_is : k + i ≡ count = ap (λ (x : Framed × ℕ). x.1) pair in
      record {
        gain = gain;
        size = sym count_is ∙ size;
        bytes = takes-then a b;
        front = subst (λ (x : Framed). IsTakenFor x start gain) same (part i within);
        end_is = subst (λ (x : Framed). IsAtItsEnd x n) same tt;
        over_is = qo ∙ ap (over_after_taking (take i into)) po ∙ sym (over-then before (take i into) o) ∙ ap (λ (x : Framed). over_after_frame x gain o) same;
      }

  -- a whole frame was taken
  pub whole_takes : (f g : Filled) (head payload : List ℕ) (k : ℕ) (answer : Framed) → f ≡ Whole → g ≡ Whole → IsHead head k → k ≤ most_payload → length payload ≡ k
      → Takes l m t u (filled f head) → Takes m n u v (filled g payload) → p ≡ over_after_fill f head o → q ≡ over_after_fill g payload p → IsTakenFor answer start (framed payload)
      → TakesFor answer (4 + k) start l n t v o q
  whole_takes f g head payload k answer w x h short size a b po qo taken =
      let gain : head ++ payload ≡ framed payload = ap (λ (xs : List ℕ). xs ++ payload) (h.head_is ∙ ap length_bytes (sym size)) in
      let told = whole_is_answered answer start payload n o 0 (omega arith) taken in
      record {
        gain = framed payload;
        size = omega (arith, length-append (length_bytes (length payload)) payload, length-length_bytes (length payload), size);
        bytes = subst (λ (xs : List ℕ). Takes l n t v xs) gain
            (takes-then (subst (λ (y : Filled). Takes l m t u (filled y head)) w a) (subst (λ (y : Filled). Takes m n u v (filled y payload)) x b));
        front = taken;
        end_is = told.0;
        over_is = qo ∙ ap (λ (y : Filled). over_after_fill y payload p) x ∙ ap (over_after_taking payload) (po ∙ ap (λ (y : Filled). over_after_fill y head o) w)
            ∙ sym (over-then head payload o) ∙ ap (λ (xs : List ℕ). over_after_taking xs o) gain ∙ sym told.1;
      }

-- a length, and less bytes than it tells
pub head_and_part : (head payload : List ℕ) (k : ℕ) → IsHead head k → k ≤ most_payload → length payload ≡ k → (i : ℕ) → i < length payload → IsPart (head ++ take i payload)
head_and_part head payload k h short size i below =
    inr (k, take i payload, ap (λ (xs : List ℕ). xs ++ take i payload) h.head_is, short, omega (arith, length-take-le i payload (omega arith)))

-- the first bytes of a buffer
pub part_size : (part rest : List ℕ) (n : ℕ) → length part ≡ length (take n rest) → n ≤ length rest → length part ≡ n
part_size part rest n e fits = e ∙ length-take-le n rest fits

-- what was taken where a buffer was filled
pub taken_whole : {l m : Option (List ℕ)} {t u : List ℕ} (f : Filled) (into : List ℕ) → f ≡ Whole → Takes l m t u (filled f into) → Takes l m t u into
taken_whole {l} {m} {t} {u} f into w h = subst (λ (x : Filled). Takes l m t u (filled x into)) w h

pub over_whole : {p : Bool} (f : Filled) (into : List ℕ) (o : Bool) → f ≡ Whole → p ≡ over_after_fill f into o → p ≡ over_after_taking into o
over_whole f into o w h = h ∙ ap (λ (x : Filled). over_after_fill x into o) w
