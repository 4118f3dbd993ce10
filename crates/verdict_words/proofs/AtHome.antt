-- A pass that is of a board has a seat that rests, and what each step leaves of it.
use Rattle.std.proofs.Common.{◌≡◌, ℕ, ◌≤◌, List, [], ◌∷◌, ◌++◌, length, sym, ap, ◌∙◌, subst, inl, inr, refl, arith}
use Rattle.atomic_table.specs.Table.{Me}
use Rattle.atomic_table.specs.declared.shared.Seat.{Seat}
use Rattle.verdict_words.specs.Histories.{IsPrefix}
use Rattle.verdict_words.specs.Words.{word_count, most_entries}
use Rattle.verdict_words.specs.Values.{Identity, PassValue, IsPass, board_of, seen_of, trail_of, known_of, resting}
use Rattle.verdict_words.specs.declared.places.CasePlace.{CasePlace}
use Rattle.verdict_words.specs.Orders.{Steps}
use Rattle.verdict_words.specs.declared.views.AtomicStep.{AtomicStep}
use Rattle.verdict_words.specs.declared.views.Item.{Item}
use Rattle.verdict_words.specs.declared.views.Item.TheVariants.{Loaded}
use Rattle.verdict_words.specs.declared.views.Origin.{Origin}
use Rattle.verdict_words.specs.declared.views.View.{View}

module _ {E H : Type 0} where
  -- the seat of a pass that is of the board `whose`
  pub record AtHome (whose board : Identity E H) (place : Seat (Unit {0}) (View E H)) (session : ℕ) : Type 0 where
    pub me : place.me ≡ (resting board.origin session (seen_of place.me.0) (trail_of place.me.0) (known_of place.me.0), [])
    pub same : board ≡ whose
    pub table : place.table_id ≡ whose.table
    pub first : board.origin.first ≤ session
    pub begins : IsPrefix board.origin.opening (seen_of place.me.0)

  pub at_home : (whose board : Identity E H) (place : Seat (Unit {0}) (View E H)) (session at : ℕ) → IsPass board place session at → board_of place.me.0 board ≡ whose → whose.table.words ≡ word_count → AtHome whose board place session
  at_home whose board place session at ok is wide = elim ok.view [
    | inl v ↦ let here : board_of place.me.0 board ≡ board = ap (λ (z : Me (Unit {0}) (View E H)). board_of z.0 board) v in record {
      me = v;
      same = sym here ∙ is;
      table = ok.table ∙ ap (λ (z : Identity E H). z.table) (sym here ∙ is);
      first = subst (λ (z : Identity E H). z.origin.first ≤ session) here ok.numbered.1;
      begins = subst (λ (z : Identity E H). IsPrefix z.origin.opening (seen_of place.me.0)) here ok.begins;
    }
    | inr v ↦ let none : (board_of place.me.0 board).table.words ≡ 0 = ap (λ (z : Me (Unit {0}) (View E H)). (board_of z.0 board).table.words) v in
        let all : (board_of place.me.0 board).table.words ≡ word_count = ap (λ (z : Identity E H). z.table.words) is ∙ wide in absurd (omega (arith, none, all))
  ]

  pub pass_ok : (board : Identity E H) (place : Seat (Unit {0}) (View E H)) (session at : ℕ) (seen : List E) (trail : List Item) (known : List AtomicStep) → place.table_id ≡ board.table → place.me ≡ (resting board.origin session seen trail known, [])
      → at ≡ length seen → at ≤ most_entries → 1 ≤ session → board.origin.first ≤ session → IsPrefix board.origin.opening seen → IsPass board place session at
  pass_ok board place session at seen trail known table is long short some first begins = record {
    table = table;
    view = inl (subst (λ (z : Me (Unit {0}) (View E H)). z ≡ (resting board.origin session (seen_of z.0) (trail_of z.0) (known_of z.0), [])) (sym is) refl);
    count = long ∙ sym (ap (λ (z : Me (Unit {0}) (View E H)). length (seen_of z.0)) is);
    short = short;
    numbered = (some, subst (λ (z : Me (Unit {0}) (View E H)). (board_of z.0 board).origin.first ≤ session) (sym is) first);
    begins = subst (λ (z : Me (Unit {0}) (View E H)). IsPrefix (board_of z.0 board).origin.opening (seen_of z.0)) (sym is) begins;
  }

  -- a pass as contracts see it, by what its seat knows
  abbrev pub value : Identity E H → ℕ → Me (Unit {0}) (View E H) → PassValue E H
  value board session z = record { board = board_of z.0 board; session = session; seen = seen_of z.0; trail = trail_of z.0; known = known_of z.0 }

  -- the value of the pass after a step that adds an item to its trail
  pub item_value : (old : PassValue E H) (board : Identity E H) (session : ℕ) (m m' : Me (Unit {0}) (View E H)) (origin : Origin E H) (seen : List E) (trail : List Item) (known knows : List AtomicStep) (item : Item)
      → value board session m ≡ old → m ≡ (resting origin session seen trail known, []) → m' ≡ (resting origin session seen (trail ++ item ∷ []) knows, [])
      → value board session m' ≡ record old { trail = old.trail ++ item ∷ []; known = known_of m'.0 }
  item_value old board session m m' origin seen trail known knows item view was is =
      (λ i. record { board = board_of (is i).0 board; session = session; seen = seen_of (is i).0; trail = trail_of (is i).0; known = known_of m'.0 })
      ∙ ap (λ (v : PassValue E H). record v { trail = v.trail ++ item ∷ []; known = known_of m'.0 }) (sym (ap (value board session) was) ∙ view)

  -- the value of the pass after a look
  pub look_value : (old : PassValue E H) (board : Identity E H) (session : ℕ) (m m' : Me (Unit {0}) (View E H)) (origin : Origin E H) (before seen : List E) (trail : List Item) (known knows : List AtomicStep) (place : CasePlace) (slot count object store : ℕ)
      → value board session m ≡ old → m ≡ (resting origin session before trail known, []) → m' ≡ (resting origin session seen (trail ++ Loaded place slot count object store ∷ []) knows, []) → length seen ≡ count
      → value board session m' ≡ record old { seen = seen_of m'.0; trail = old.trail ++ Loaded place slot (length (seen_of m'.0)) object store ∷ []; known = known_of m'.0 }
  look_value old board session m m' origin before seen trail known knows place slot count object store view was is long =
      let n : count ≡ length (seen_of m'.0) = sym long ∙ ap length (sym (ap (λ (z : Me (Unit {0}) (View E H)). seen_of z.0) is)) in
      let told : trail_of m'.0 ≡ trail ++ Loaded place slot (length (seen_of m'.0)) object store ∷ [] = ap (λ (z : Me (Unit {0}) (View E H)). trail_of z.0) is ∙ ap (λ k. trail ++ Loaded place slot k object store ∷ []) n in
      let here : board_of m'.0 board ≡ board = ap (λ (z : Me (Unit {0}) (View E H)). board_of z.0 board) is in
      (λ i. record { board = here i; session = session; seen = seen_of m'.0; trail = told i; known = known_of m'.0 })
      ∙ ap (λ (v : PassValue E H). record v { seen = seen_of m'.0; trail = v.trail ++ Loaded place slot (length (seen_of m'.0)) object store ∷ []; known = known_of m'.0 }) (sym (ap (value board session) was) ∙ view)

  -- what the pass knows after a call that made these steps
  pub steps_shown : (old : PassValue E H) (board : Identity E H) (session : ℕ) (m m' : Me (Unit {0}) (View E H)) (knows : List AtomicStep) (made : ℕ → List AtomicStep)
      → value board session m ≡ old → known_of m'.0 ≡ knows → Steps (known_of m.0) (made session) knows → Steps old.known (made old.session) (known_of m'.0)
  steps_shown old board session m m' knows made view is steps =
      subst (λ (z : List AtomicStep × ℕ × List AtomicStep). Steps z.0 (made z.1) z.2) (λ i. (ap (λ (v : PassValue E H). v.known) view i, ap (λ (v : PassValue E H). v.session) view i, sym is i)) steps
