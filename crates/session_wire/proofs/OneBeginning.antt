-- No bytes begin in two ways.
use Rattle.std.proofs.Common.{◌≡◌, ◌<◌, ◌≤◌, ◌+◌, ◌^◌, ℕ, List, [], ◌∷◌, ◌++◌, length, inl, inr, refl, sym, ap, ◌∙◌, subst, arith, append_assoc, length-append}
use Rattle.session_wire.specs.declared.fields.FrameFault.{FrameFault}
use Rattle.session_wire.specs.declared.fields.FrameFault.TheVariants.{TooLong, BadKind, BadField, Trailing}
use Rattle.session_wire.specs.Frames.{HasFittingParts, framed, length_bytes, most_payload, request_frame, request_payload}
use Rattle.session_wire.specs.Fields.{HasFault}
use Rattle.session_wire.specs.Beginnings.{Beginning, Begins, IsBad, IsFaulty, IsPart, IsTooLong}
use Rattle.session_wire.specs.Beginnings as first
use Rattle.session_wire.specs.Laws.{FramesAreReadBack, OneBeginning, RequestsAreWrittenBack}
use Rattle.session_wire.proofs.Numbers.{length-length_bytes, one_length, same_fronts}
use Rattle.session_wire.proofs.Payloads.{no_fault, one_fault, one_payload, request_is_good}

-- what a payload is found to be: a request, or none for a fault
Finds : ℕ → List ℕ → Beginning → Type 0
Finds start payload (first.request q) = HasFittingParts q × (payload ≡ request_payload q)
Finds start payload first.edge = ⊥
Finds start payload first.torn = ⊥
Finds start payload (first.bad fault place) = (within : ℕ) × HasFault fault payload within × (place ≡ start + 4 + within)

-- how bytes end that are no whole frame
ending : List ℕ → Beginning
ending [] = first.edge
ending (b ∷ bs) = first.torn

-- what bytes begin with, by what their length says
data Seen (start : ℕ) (bytes : List ℕ) (b : Beginning) (rest : List ℕ) : Type 0 where
  in_part : IsPart bytes → rest ≡ [] → b ≡ ending bytes → Seen start bytes b rest
  too_long : (n : ℕ) → most_payload < n → n < 2 ^ 32 → bytes ≡ length_bytes n ++ rest → b ≡ first.bad TooLong start → Seen start bytes b rest
  in_whole : (payload : List ℕ) → length payload ≤ most_payload → bytes ≡ framed payload ++ rest → Finds start payload b → Seen start bytes b rest

faulty : (start : ℕ) (bytes : List ℕ) (fault : FrameFault) (place : ℕ) (front rest : List ℕ) → IsFaulty start front fault place → bytes ≡ front ++ rest → Seen start bytes (first.bad fault place) rest
unfolding Finds
faulty start bytes fault place front rest h e =
    in_whole h.payload h.short (e ∙ ap (λ xs. xs ++ rest) h.whole) (h.within, h.has, h.at)

seen : (start : ℕ) (bytes : List ℕ) (b : Beginning) (rest : List ℕ) → Begins start bytes b rest → Seen start bytes b rest
unfolding ending Finds
seen start bytes (first.request q) rest h = in_whole (request_payload q) h.0.1 h.1 (h.0.0, refl)
seen start [] first.edge rest h = in_part (inl (omega arith)) h.1 refl
seen start (b ∷ bs) first.edge rest h = cc
seen start [] first.torn rest h = absurd (h.0 refl)
seen start (b ∷ bs) first.torn rest h = in_part h.1 h.2 refl
seen start bytes (first.bad TooLong place) rest h =
    too_long h.1.n h.1.long h.1.fits (h.2 ∙ ap (λ xs. xs ++ rest) h.1.whole) (ap (first.bad TooLong) h.1.at)
seen start bytes (first.bad BadKind place) rest h = faulty start bytes BadKind place h.0 rest h.1 h.2
seen start bytes (first.bad BadField place) rest h = faulty start bytes BadField place h.0 rest h.1 h.2
seen start bytes (first.bad Trailing place) rest h = faulty start bytes Trailing place h.0 rest h.1 h.2

-- a length and what follows it are one
same_length : (bytes : List ℕ) (n m : ℕ) (x y : List ℕ) → bytes ≡ length_bytes n ++ x → bytes ≡ length_bytes m ++ y → n < 2 ^ 32 → m < 2 ^ 32 → (n ≡ m) × (x ≡ y)
same_length bytes n m x y e f n_fits m_fits = one_length n m x y n_fits m_fits (sym e ∙ f)

-- a part of a frame does not hold what its length tells, and that is the length of a payload
no_part : (bytes : List ℕ) (n : ℕ) (more : List ℕ) → IsPart bytes → bytes ≡ length_bytes n ++ more → n < 2 ^ 32 → (n ≤ most_payload → n ≤ length more) → ⊥
no_part bytes n more (inl short) e fits enough =
    absurd (omega (arith, ap length e, length-append (length_bytes n) more, length-length_bytes n))
no_part bytes n more (inr part) e fits enough =
    let same = same_length bytes n part.0 more part.1 e part.2 fits (omega arith) in
    absurd (omega (arith, ap length same.1, same.0))

-- a whole frame begins with its length
framed_front : (bytes payload rest : List ℕ) → bytes ≡ framed payload ++ rest → bytes ≡ length_bytes (length payload) ++ (payload ++ rest)
framed_front bytes payload rest e = e ∙ append_assoc (length_bytes (length payload)) payload rest

pub part_is_no_frame : (bytes payload rest : List ℕ) → IsPart bytes → length payload ≤ most_payload → bytes ≡ framed payload ++ rest → ⊥
part_is_no_frame bytes payload rest h short e =
    no_part bytes (length payload) (payload ++ rest) h (framed_front bytes payload rest e) (omega arith) (λ s. omega (arith, length-append payload rest))

part_is_not_long : (bytes rest : List ℕ) (n : ℕ) → IsPart bytes → most_payload < n → n < 2 ^ 32 → bytes ≡ length_bytes n ++ rest → ⊥
part_is_not_long bytes rest n h long fits e = no_part bytes n rest h e fits (λ s. omega arith)

long_is_no_frame : (bytes payload rest more : List ℕ) (n : ℕ) → most_payload < n → n < 2 ^ 32 → bytes ≡ length_bytes n ++ more → length payload ≤ most_payload → bytes ≡ framed payload ++ rest → ⊥
long_is_no_frame bytes payload rest more n long fits e short f =
    let same = same_length bytes n (length payload) more (payload ++ rest) e (framed_front bytes payload rest f) fits (omega arith) in
    absurd (omega (arith, same.0))

-- frames have one payload
pub one_frame : (bytes p q x y : List ℕ) → length p ≤ most_payload → length q ≤ most_payload → bytes ≡ framed p ++ x → bytes ≡ framed q ++ y → (p ≡ q) × (x ≡ y)
one_frame bytes p q x y s t e f =
    let same = same_length bytes (length p) (length q) (p ++ x) (q ++ y) (framed_front bytes p x e) (framed_front bytes q y f) (omega arith) (omega arith) in
    same_fronts p q x y same.0 same.1

finds_one : (start : ℕ) (payload : List ℕ) (a b : Beginning) → Finds start payload a → Finds start payload b → a ≡ b
unfolding Finds
finds_one start payload (first.request q) (first.request r) h k = ap first.request (one_payload q r h.0 k.0 (sym h.1 ∙ k.1))
finds_one start payload (first.request q) (first.bad g j) h k =
    absurd (no_fault (request_payload q) g k.0 (request_is_good q h.0) (subst (λ (p : List ℕ). HasFault g p k.0) h.1 k.1))
finds_one start payload (first.bad f i) (first.request r) h k =
    absurd (no_fault (request_payload r) f h.0 (request_is_good r k.0) (subst (λ (p : List ℕ). HasFault f p h.0) k.1 h.1))
finds_one start payload (first.bad f i) (first.bad g j) h k =
    let same = one_fault payload f g h.0 k.0 h.1 k.1 in
    let places : i ≡ j = omega (arith, h.2, k.2, same.1) in
    cc
finds_one start payload first.edge b h k = absurd h
finds_one start payload first.torn b h k = absurd h
finds_one start payload a first.edge h k = absurd k
finds_one start payload a first.torn h k = absurd k

one_seen : (start : ℕ) (bytes : List ℕ) (a b : Beginning) (x y : List ℕ) → Seen start bytes a x → Seen start bytes b y → (a ≡ b) × (x ≡ y)
one_seen start bytes a b x y (in_part h e s) (in_part k f t) = (s ∙ sym t, e ∙ sym f)
one_seen start bytes a b x y (in_part h e s) (too_long n l m f t) = absurd (part_is_not_long bytes y n h l m f)
one_seen start bytes a b x y (in_part h e s) (in_whole p l f t) = absurd (part_is_no_frame bytes p y h l f)
one_seen start bytes a b x y (too_long n l m f t) (in_part h e s) = absurd (part_is_not_long bytes x n h l m f)
one_seen start bytes a b x y (too_long n l m f t) (too_long o i j g u) =
    (t ∙ sym u, (same_length bytes n o x y f g m j).1)
one_seen start bytes a b x y (too_long n l m f t) (in_whole p i g u) = absurd (long_is_no_frame bytes p y x n l m f i g)
one_seen start bytes a b x y (in_whole p i g u) (in_part h e s) = absurd (part_is_no_frame bytes p x h i g)
one_seen start bytes a b x y (in_whole p i g u) (too_long n l m f t) = absurd (long_is_no_frame bytes p x y n l m f i g)
one_seen start bytes a b x y (in_whole p i g u) (in_whole q j h v) =
    let same = one_frame bytes p q x y i j g h in
    (finds_one start q a b (subst (λ (r : List ℕ). Finds start r a) same.0 u) v, same.1)

pub one_beginning : OneBeginning
one_beginning start bytes a b x y h k = one_seen start bytes a b x y (seen start bytes a x h) (seen start bytes b y k)

pub frames_are_read_back : FramesAreReadBack
frames_are_read_back start q rest h =
    ((h, refl), λ b y k. one_beginning start (request_frame q ++ rest) b (first.request q) y rest k (h, refl))

pub requests_are_written_back : RequestsAreWrittenBack
requests_are_written_back start bytes q rest h = h.1
