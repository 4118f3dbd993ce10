-- No bytes begin with a reply in two ways.
use Rattle.std.proofs.Common.{◌≡◌, ◌≢◌, ◌<◌, ◌≤◌, ◌+◌, ◌-◌, ◌^◌, ℕ, zero, suc, Bool, true, false, cond, nat_lt, List, [], ◌∷◌, ◌++◌, length, Some, None, refl, sym, ap, ◌∙◌, subst, arith, append_assoc, length-append}
use Rattle.std.specs.Prelude.{slice_get}
use Rattle.std.specs.List.{flat_map}
use Rattle.std.proofs.lemmas.List.{append-nil}
use Rattle.session_wire.specs.declared.replies.Reply.{Reply}
use Rattle.session_wire.specs.declared.replies.Reply.TheVariants.{Welcome, Done, Allowed, Denied, Refused, Down, NoMemory, Bad, Seen}
use Rattle.session_wire.specs.Frames.{HasFittingNumbers, length_bytes, number_bytes, reply_frame, reply_kind, reply_numbers, reply_payload}
use Rattle.session_wire.specs.Replies.{BeginsReply, IsLengthOf, IsNoReply, IsReplyLength, IsReplyPart, ReplyBeginning, count_of_kind, counts_by_kind}
use Rattle.session_wire.specs.Replies as answer
use Rattle.session_wire.specs.Laws.{OneReplyBeginning, RepliesAreReadBack, RepliesAreWrittenBack}
use Rattle.session_wire.proofs.Numbers.{length-length_bytes, one_length, one_number, same_fronts}
use Rattle.session_wire.proofs.Putting.{length_numbers}

-- the payload of a reply has the length of its kind
pub reply_has_length : (r : Reply) → IsLengthOf (reply_kind r) (length (reply_payload r))
unfolding count_of_kind
reply_has_length (Welcome a b) = (2, refl, omega (arith, length_numbers (reply_numbers (Welcome a b))))
reply_has_length (Done a b) = (2, refl, omega (arith, length_numbers (reply_numbers (Done a b))))
reply_has_length (Allowed a b c) = (3, refl, omega (arith, length_numbers (reply_numbers (Allowed a b c))))
reply_has_length (Denied a b c d) = (4, refl, omega (arith, length_numbers (reply_numbers (Denied a b c d))))
reply_has_length (Refused a b) = (2, refl, omega (arith, length_numbers (reply_numbers (Refused a b))))
reply_has_length (Down a b) = (2, refl, omega (arith, length_numbers (reply_numbers (Down a b))))
reply_has_length NoMemory = (0, refl, omega (arith, length_numbers (reply_numbers NoMemory)))
reply_has_length (Bad a) = (1, refl, omega (arith, length_numbers (reply_numbers (Bad a))))
reply_has_length (Seen a) = (1, refl, omega (arith, length_numbers (reply_numbers (Seen a))))

-- a kind has at most four numbers
pub reply_is_short : (r : Reply) → IsReplyLength (length (reply_payload r))
reply_is_short (Welcome a b) = (2, omega arith, omega (arith, length_numbers (reply_numbers (Welcome a b))))
reply_is_short (Done a b) = (2, omega arith, omega (arith, length_numbers (reply_numbers (Done a b))))
reply_is_short (Allowed a b c) = (3, omega arith, omega (arith, length_numbers (reply_numbers (Allowed a b c))))
reply_is_short (Denied a b c d) = (4, omega arith, omega (arith, length_numbers (reply_numbers (Denied a b c d))))
reply_is_short (Refused a b) = (2, omega arith, omega (arith, length_numbers (reply_numbers (Refused a b))))
reply_is_short (Down a b) = (2, omega arith, omega (arith, length_numbers (reply_numbers (Down a b))))
reply_is_short NoMemory = (0, omega arith, omega (arith, length_numbers (reply_numbers NoMemory)))
reply_is_short (Bad a) = (1, omega arith, omega (arith, length_numbers (reply_numbers (Bad a))))
reply_is_short (Seen a) = (1, omega arith, omega (arith, length_numbers (reply_numbers (Seen a))))

same_head : (x y : ℕ) (xs ys : List ℕ) → x ∷ xs ≡ y ∷ ys → x ≡ y
same_head x y xs ys e = cc

-- two replies with one payload, whatever follows it, are one
one_reply : (r s : Reply) → HasFittingNumbers r → HasFittingNumbers s → reply_payload r ≡ reply_payload s → r ≡ s
one_reply (Welcome a b) (Welcome u v) h k e =
    let e0 : flat_map number_bytes (a ∷ b ∷ []) ≡ flat_map number_bytes (u ∷ v ∷ []) = cc in
    let e1 = one_number a u (flat_map number_bytes (b ∷ [])) (flat_map number_bytes (v ∷ [])) h.0 k.0 e0 in
    let e2 = one_number b v [] [] h.1 k.1 e1.1 in cc
one_reply (Done a b) (Done u v) h k e =
    let e0 : flat_map number_bytes (a ∷ b ∷ []) ≡ flat_map number_bytes (u ∷ v ∷ []) = cc in
    let e1 = one_number a u (flat_map number_bytes (b ∷ [])) (flat_map number_bytes (v ∷ [])) h.0 k.0 e0 in
    let e2 = one_number b v [] [] h.1 k.1 e1.1 in cc
one_reply (Allowed a b c) (Allowed u v w) h k e =
    let e0 : flat_map number_bytes (a ∷ b ∷ c ∷ []) ≡ flat_map number_bytes (u ∷ v ∷ w ∷ []) = cc in
    let e1 = one_number a u (flat_map number_bytes (b ∷ c ∷ [])) (flat_map number_bytes (v ∷ w ∷ [])) h.0 k.0 e0 in
    let e2 = one_number b v (flat_map number_bytes (c ∷ [])) (flat_map number_bytes (w ∷ [])) h.1 k.1 e1.1 in
    let e3 = one_number c w [] [] h.2 k.2 e2.1 in cc
one_reply (Denied a b c d) (Denied u v w z) h k e =
    let e0 : flat_map number_bytes (a ∷ b ∷ c ∷ d ∷ []) ≡ flat_map number_bytes (u ∷ v ∷ w ∷ z ∷ []) = cc in
    let e1 = one_number a u (flat_map number_bytes (b ∷ c ∷ d ∷ [])) (flat_map number_bytes (v ∷ w ∷ z ∷ [])) h.0 k.0 e0 in
    let e2 = one_number b v (flat_map number_bytes (c ∷ d ∷ [])) (flat_map number_bytes (w ∷ z ∷ [])) h.1 k.1 e1.1 in
    let e3 = one_number c w (flat_map number_bytes (d ∷ [])) (flat_map number_bytes (z ∷ [])) h.2 k.2 e2.1 in
    let e4 = one_number d z [] [] h.3 k.3 e3.1 in cc
one_reply (Refused a b) (Refused u v) h k e =
    let e0 : flat_map number_bytes (a ∷ b ∷ []) ≡ flat_map number_bytes (u ∷ v ∷ []) = cc in
    let e1 = one_number a u (flat_map number_bytes (b ∷ [])) (flat_map number_bytes (v ∷ [])) h.0 k.0 e0 in
    let e2 = one_number b v [] [] h.1 k.1 e1.1 in cc
one_reply (Down a b) (Down u v) h k e =
    let e0 : flat_map number_bytes (a ∷ b ∷ []) ≡ flat_map number_bytes (u ∷ v ∷ []) = cc in
    let e1 = one_number a u (flat_map number_bytes (b ∷ [])) (flat_map number_bytes (v ∷ [])) h.0 k.0 e0 in
    let e2 = one_number b v [] [] h.1 k.1 e1.1 in cc
one_reply NoMemory NoMemory h k e = refl
one_reply (Bad a) (Bad u) h k e =
    let e0 : flat_map number_bytes (a ∷ []) ≡ flat_map number_bytes (u ∷ []) = cc in
    let e1 = one_number a u [] [] h k e0 in cc
one_reply (Seen a) (Seen u) h k e =
    let e0 : flat_map number_bytes (a ∷ []) ≡ flat_map number_bytes (u ∷ []) = cc in
    let e1 = one_number a u [] [] h k e0 in cc
one_reply r s h k e =
    absurd (omega (arith, same_head (reply_kind r) (reply_kind s) (flat_map number_bytes (reply_numbers r)) (flat_map number_bytes (reply_numbers s)) e))

small_count : (i k : ℕ) → slice_get counts_by_kind i ≡ Some k → k ≤ 4
small_count zero k e = let f : 2 ≡ k = cc in omega arith
small_count (suc zero) k e = let f : 2 ≡ k = cc in omega arith
small_count (suc (suc zero)) k e = let f : 3 ≡ k = cc in omega arith
small_count (suc (suc (suc zero))) k e = let f : 4 ≡ k = cc in omega arith
small_count (suc (suc (suc (suc zero)))) k e = let f : 2 ≡ k = cc in omega arith
small_count (suc (suc (suc (suc (suc zero))))) k e = let f : 2 ≡ k = cc in omega arith
small_count (suc (suc (suc (suc (suc (suc zero)))))) k e = let f : 0 ≡ k = cc in omega arith
small_count (suc (suc (suc (suc (suc (suc (suc zero))))))) k e = let f : 1 ≡ k = cc in omega arith
small_count (suc (suc (suc (suc (suc (suc (suc (suc zero)))))))) k e = let f : 1 ≡ k = cc in omega arith
small_count (suc (suc (suc (suc (suc (suc (suc (suc (suc i))))))))) k e = cc

small_by : (b : Bool) (i k : ℕ) → cond b None (slice_get counts_by_kind i) ≡ Some k → k ≤ 4
small_by true i k e = cc
small_by false i k e = small_count i k e

-- the length of a kind is that of a reply
pub length_is_short : (kind n : ℕ) → IsLengthOf kind n → IsReplyLength n
unfolding count_of_kind
length_is_short kind n h = (h.0, small_by (nat_lt kind 65) (kind - 65) h.0 h.1, h.2)

-- how bytes end that are no whole reply
ending : List ℕ → ReplyBeginning
ending [] = answer.edge
ending (b ∷ bs) = answer.torn

-- what follows the length
data Follows (n : ℕ) (tail : List ℕ) (b : ReplyBeginning) (rest : List ℕ) : Type 0 where
  nothing : IsReplyLength n → tail ≡ [] → b ≡ answer.torn → rest ≡ [] → Follows n tail b rest
  a_part : (kind : ℕ) (more : List ℕ) → IsLengthOf kind n → tail ≡ kind ∷ more → length more + 1 < n → b ≡ answer.torn → rest ≡ [] → Follows n tail b rest
  no_length : ¬ IsReplyLength n → tail ≡ rest → b ≡ answer.bad → Follows n tail b rest
  no_kind : (kind : ℕ) → IsReplyLength n → ¬ IsLengthOf kind n → tail ≡ kind ∷ rest → b ≡ answer.bad → Follows n tail b rest
  a_reply : (r : Reply) → HasFittingNumbers r → n ≡ length (reply_payload r) → tail ≡ reply_payload r ++ rest → b ≡ answer.reply r → Follows n tail b rest

data IsSeen (bytes : List ℕ) (b : ReplyBeginning) (rest : List ℕ) : Type 0 where
  in_part : length bytes < 4 → rest ≡ [] → b ≡ ending bytes → IsSeen bytes b rest
  behind : (n : ℕ) (tail : List ℕ) → n < 2 ^ 32 → bytes ≡ length_bytes n ++ tail → Follows n tail b rest → IsSeen bytes b rest

small : (n : ℕ) → IsReplyLength n → n < 2 ^ 32
small n h = omega (arith, h.1, h.2)

alone : (bytes front : List ℕ) → bytes ≡ front → bytes ≡ front ++ []
alone bytes front e = e ∙ sym (append-nil front)

seen_torn : (bytes rest : List ℕ) → bytes ≢ [] → IsReplyPart bytes → rest ≡ [] → IsSeen bytes answer.torn rest
unfolding ending
seen_torn [] rest some part e = absurd (some refl)
seen_torn (x ∷ bytes) rest some (answer.few less) e = in_part less e refl
seen_torn (x ∷ bytes) rest some (answer.without_kind n h f) e = behind n [] (small n h) (alone (x ∷ bytes) (length_bytes n) f) (nothing h refl refl e)
seen_torn (x ∷ bytes) rest some (answer.cut n kind more h f less) e =
    behind n (kind ∷ more) (small n (length_is_short kind n h)) f (a_part kind more h refl less refl e)

seen_bad : (bytes front rest : List ℕ) → IsNoReply front → bytes ≡ front ++ rest → IsSeen bytes answer.bad rest
seen_bad bytes front rest (answer.bad_length n fits h f) e = behind n rest fits (e ∙ ap (λ (xs : List ℕ). xs ++ rest) f) (no_length h refl refl)
seen_bad bytes front rest (answer.bad_kind n kind h other f) e =
    behind n (kind ∷ rest) (small n h) (e ∙ ap (λ (xs : List ℕ). xs ++ rest) f ∙ append_assoc (length_bytes n) (kind ∷ []) rest) (no_kind kind h other refl refl)

seen : (bytes : List ℕ) (b : ReplyBeginning) (rest : List ℕ) → BeginsReply bytes b rest → IsSeen bytes b rest
unfolding ending
seen bytes (answer.reply r) rest h =
    behind (length (reply_payload r)) (reply_payload r ++ rest) (small (length (reply_payload r)) (reply_is_short r)) (h.1 ∙ append_assoc (length_bytes (length (reply_payload r))) (reply_payload r) rest)
    (a_reply r h.0 refl refl refl)
seen [] answer.edge rest h = in_part (omega arith) h.1 refl
seen (x ∷ bytes) answer.edge rest h = cc
seen bytes answer.torn rest h = seen_torn bytes rest h.0 h.1 h.2
seen bytes answer.bad rest h = seen_bad bytes h.0 rest h.1 h.2

module _ (n : ℕ) (tail : List ℕ) where
  part_is_no_reply : (kind : ℕ) (more rest : List ℕ) (r : Reply) → tail ≡ kind ∷ more → length more + 1 < n → n ≡ length (reply_payload r) → tail ≡ reply_payload r ++ rest → ⊥
  part_is_no_reply kind more rest r e less size f =
      absurd (omega (arith, ap length (sym e ∙ f), length-append (reply_payload r) rest, size))

  kind_is_no_reply : (kind : ℕ) (more rest : List ℕ) (r : Reply) → tail ≡ kind ∷ more → ¬ IsLengthOf kind n → n ≡ length (reply_payload r) → tail ≡ reply_payload r ++ rest → ⊥
  kind_is_no_reply kind more rest r e other size f =
      let same : kind ≡ reply_kind r = same_head kind (reply_kind r) more (flat_map number_bytes (reply_numbers r) ++ rest) (sym e ∙ f) in
      other (subst (λ (k : ℕ). IsLengthOf k n) (sym same) (subst (λ (m : ℕ). IsLengthOf (reply_kind r) m) (sym size) (reply_has_length r)))

  two_replies : (r s : Reply) (x y : List ℕ) → HasFittingNumbers r → HasFittingNumbers s → n ≡ length (reply_payload r) → n ≡ length (reply_payload s) → tail ≡ reply_payload r ++ x → tail ≡ reply_payload s ++ y → (r ≡ s) × (x ≡ y)
  two_replies r s x y h k i j e f =
      let same = same_fronts (reply_payload r) (reply_payload s) x y (sym i ∙ j) (sym e ∙ f) in
      (one_reply r s h k same.0, same.1)

  two_kinds : (k l : ℕ) (x y : List ℕ) → tail ≡ k ∷ x → tail ≡ l ∷ y → (k ≡ l) × (x ≡ y)
  two_kinds k l x y e f = let g : k ∷ x ≡ l ∷ y = sym e ∙ f in (cc, cc)

  one_follows : (a b : ReplyBeginning) (x y : List ℕ) → Follows n tail a x → Follows n tail b y → (a ≡ b) × (x ≡ y)
  one_follows a b x y (nothing h e f g) (nothing i j k l) = (f ∙ sym k, g ∙ sym l)
  one_follows a b x y (nothing h e f g) (a_part kind more i j k l m) = cc
  one_follows a b x y (nothing h e f g) (no_length i j k) = absurd (i h)
  one_follows a b x y (nothing h e f g) (no_kind kind i j k l) = cc
  one_follows a b x y (nothing h e f g) (a_reply r i j k l) = cc
  one_follows a b x y (a_part kind more i j k l m) (nothing h e f g) = cc
  one_follows a b x y (a_part kind more i j k l m) (a_part kind2 more2 i2 j2 k2 l2 m2) = (l ∙ sym l2, m ∙ sym m2)
  one_follows a b x y (a_part kind more i j k l m) (no_length h e f) = absurd (h (length_is_short kind n i))
  one_follows a b x y (a_part kind more i j k l m) (no_kind kind2 h e f g) =
      absurd (e (subst (λ (c : ℕ). IsLengthOf c n) (two_kinds kind kind2 more y j f).0 i))
  one_follows a b x y (a_part kind more i j k l m) (a_reply r h e f g) = absurd (part_is_no_reply kind more y r j k e f)
  one_follows a b x y (no_length h e f) (nothing i j k l) = absurd (h i)
  one_follows a b x y (no_length h e f) (a_part kind more i j k l m) = absurd (h (length_is_short kind n i))
  one_follows a b x y (no_length h e f) (no_length i j k) = (f ∙ sym k, sym e ∙ j)
  one_follows a b x y (no_length h e f) (no_kind kind i j k l) = absurd (h i)
  one_follows a b x y (no_length h e f) (a_reply r i j k l) = absurd (h (subst IsReplyLength (sym j) (reply_is_short r)))
  one_follows a b x y (no_kind kind h e f g) (nothing i j k l) = cc
  one_follows a b x y (no_kind kind h e f g) (a_part kind2 more i j k l m) =
      absurd (e (subst (λ (c : ℕ). IsLengthOf c n) (two_kinds kind2 kind more x j f).0 i))
  one_follows a b x y (no_kind kind h e f g) (no_length i j k) = absurd (i h)
  one_follows a b x y (no_kind kind h e f g) (no_kind kind2 h2 e2 f2 g2) = (g ∙ sym g2, (two_kinds kind kind2 x y f f2).1)
  one_follows a b x y (no_kind kind h e f g) (a_reply r i j k l) = absurd (kind_is_no_reply kind x y r f e j k)
  one_follows a b x y (a_reply r i j k l) (nothing h e f g) = cc
  one_follows a b x y (a_reply r i j k l) (a_part kind more h e f g m) = absurd (part_is_no_reply kind more x r e f j k)
  one_follows a b x y (a_reply r i j k l) (no_length h e f) = absurd (h (subst IsReplyLength (sym j) (reply_is_short r)))
  one_follows a b x y (a_reply r i j k l) (no_kind kind h e f g) = absurd (kind_is_no_reply kind y x r f e j k)
  one_follows a b x y (a_reply r i j k l) (a_reply s h e f g) =
      let same = two_replies r s x y i h j e k f in
      (l ∙ ap answer.reply same.0 ∙ sym g, same.1)

few_have_no_length : (bytes tail : List ℕ) (n : ℕ) → length bytes < 4 → bytes ≡ length_bytes n ++ tail → ⊥
few_have_no_length bytes tail n less e = absurd (omega (arith, ap length e, length-append (length_bytes n) tail, length-length_bytes n))

one_seen : (bytes : List ℕ) (a b : ReplyBeginning) (x y : List ℕ) → IsSeen bytes a x → IsSeen bytes b y → (a ≡ b) × (x ≡ y)
one_seen bytes a b x y (in_part h e f) (in_part i j k) = (f ∙ sym k, e ∙ sym j)
one_seen bytes a b x y (in_part h e f) (behind n tail i j k) = absurd (few_have_no_length bytes tail n h j)
one_seen bytes a b x y (behind n tail i j k) (in_part h e f) = absurd (few_have_no_length bytes tail n h j)
one_seen bytes a b x y (behind n tail i j k) (behind m tail2 h e f) =
    let same = one_length n m tail tail2 i h (sym j ∙ e) in
    one_follows m tail2 a b x y (subst (λ (t : List ℕ). Follows m t a x) same.1 (subst (λ (k2 : ℕ). Follows k2 tail a x) same.0 k)) f

pub one_reply_beginning : OneReplyBeginning
one_reply_beginning bytes a b x y h k = one_seen bytes a b x y (seen bytes a x h) (seen bytes b y k)

pub replies_are_read_back : RepliesAreReadBack
replies_are_read_back r rest h =
    ((h, refl), λ b y k. one_reply_beginning (reply_frame r ++ rest) b (answer.reply r) y rest k (h, refl))

pub replies_are_written_back : RepliesAreWrittenBack
replies_are_written_back bytes r rest h = h.1
