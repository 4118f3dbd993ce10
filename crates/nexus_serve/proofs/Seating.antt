-- Workers at their desks, and the memory for what they leave.
use Rattle.std.proofs.Common.{◌≡◌, ◌+◌, ◌++◌, ℕ, suc, List, [], ◌∷◌, length, refl, sym, ap, ◌∙◌, arith, append-nil}
use Rattle.policy_history.specs.declared.events.Entry.{Entry}
use Rattle.policy_history.specs.declared.heads.Head.{Head}
use Rattle.verdict_words.specs.Values.{Identity}
use Rattle.nx_io.specs.Views.{DoorView}
use Rattle.nexus_serve.specs.Inner.Desks.{AreLaid, DeskValue, seated, seated_at}
use Rattle.nexus_serve.specs.Inner.Gathering.{GatheredValue, IsRoomFor, nothing}
use Rattle.nexus_serve.specs.Inner.Serving.{AreHired, doors_of, means_of}
use Rattle.nexus_serve.specs.Inner.Working.{IsHired, WorkerValue}

module _ {M : Type 0} where
  -- who sits at a desk that was laid is hired
  pub seated_hired : (board : Identity Entry Head) (first most : ℕ) (desks : List DeskValue) (doors : List DoorView) (means : List M) → AreLaid board first most desks → AreHired board first most (seated desks doors means)
  seated_hired board first most [] doors means laid = tt
  seated_hired board first most (k ∷ ks) [] means laid = tt
  seated_hired board first most (k ∷ ks) (d ∷ ds) [] laid = tt
  seated_hired board first most (k ∷ ks) (d ∷ ds) (p ∷ ps) (here, others) =
      let one : IsHired board first most (seated_at k d p) = record { first_is = here.first_is; numbered = here.numbered; count = here.count; unused = here.unused; reports = refl; failed = refl; short = refl; has_part = omega arith; recorded = refl } in
      (one, seated_hired board (first + most) most ks ds ps others)

  -- where there are as many of each, all have a place
  pub seated_doors : (desks : List DeskValue) (doors : List DoorView) (means : List M) → length doors ≡ length desks → length means ≡ length desks → doors_of (seated desks doors means) ≡ doors
  seated_doors [] [] means same pairs = refl
  seated_doors [] (d ∷ ds) means same pairs = absurd (cc same)
  seated_doors (k ∷ ks) [] means same pairs = refl
  seated_doors (k ∷ ks) (d ∷ ds) [] same pairs = absurd (cc pairs)
  seated_doors (k ∷ ks) (d ∷ ds) (p ∷ ps) same pairs = ap (λ l. d ∷ l) (seated_doors ks ds ps (cc same) (cc pairs))

  pub seated_means : (desks : List DeskValue) (doors : List DoorView) (means : List M) → length doors ≡ length desks → length means ≡ length desks → means_of (seated desks doors means) ≡ means
  seated_means [] doors [] same pairs = refl
  seated_means [] doors (p ∷ ps) same pairs = absurd (cc pairs)
  seated_means (k ∷ ks) [] means same pairs = absurd (cc same)
  seated_means (k ∷ ks) (d ∷ ds) [] same pairs = absurd (cc pairs)
  seated_means (k ∷ ks) (d ∷ ds) (p ∷ ps) same pairs = ap (λ l. p ∷ l) (seated_means ks ds ps (cc same) (cc pairs))

  pub seated_count : (desks : List DeskValue) (doors : List DoorView) (means : List M) → length doors ≡ length desks → length means ≡ length desks → length (seated desks doors means) ≡ length desks
  seated_count [] doors means same pairs = refl
  seated_count (k ∷ ks) [] means same pairs = absurd (cc same)
  seated_count (k ∷ ks) (d ∷ ds) [] same pairs = absurd (cc pairs)
  seated_count (k ∷ ks) (d ∷ ds) (p ∷ ps) same pairs = ap suc (seated_count ks ds ps (cc same) (cc pairs))

  -- where no desk is left, all are seated
  pub all_seated : (workers all : List (WorkerValue M)) (desks : List DeskValue) (doors : List DoorView) (means : List M) → length desks ≡ 0 → workers ++ seated desks doors means ≡ all → workers ≡ all
  all_seated workers all [] doors means none is = sym (append-nil workers) ∙ is
  all_seated workers all (k ∷ ks) doors means none is = absurd (omega (arith, none))

  -- there is memory for what they leave
  pub room_hired : (n : ℕ) (workers : List (WorkerValue M)) (room : GatheredValue M) → length workers ≡ n → room ≡ nothing n → IsRoomFor workers room
  room_hired n workers room count is = rw (is) (record { empty = refl; places = omega (arith, count) })

  pub room_done : (hired workers : List (WorkerValue M)) (room : GatheredValue M) → length workers ≡ length hired → IsRoomFor hired room → IsRoomFor workers room
  room_done hired workers room long is =
      let places = is.places in
      record { empty = is.empty; places = omega (arith, long, places) }
