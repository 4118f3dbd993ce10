-- Passes that are taken in and given back one by one.
use Rattle.std.proofs.Common.{◌≡◌, ℕ, zero, suc, ◌<◌, ◌≤◌, List, [], ◌∷◌, ◌++◌, length, map, take, drop, set, get_or, refl, sym, ap, ◌∙◌, subst, inr, arith}
use Rattle.std.specs.Prelude.{All}
use Rattle.std.proofs.lemmas.List.{append_assoc, append-nil, take_all, drop_all, drop-map, get_or-take, length-append, length-map, length-take-le}
use Rattle.std.proofs.lemmas.List.Elements.{All-drop}
use Rattle.verdict_words.specs.Histories.{IsPrefix}
use Rattle.std.proofs.Math.Seq.{drop-append_seam}
use Rattle.atomic_table.specs.Table.{Me}
use Rattle.atomic_table.specs.declared.shared.Seat.{Seat}
use Rattle.verdict_words.specs.Rule.{IsSeated}
use Rattle.verdict_words.specs.Inner.Steps.{receiving, releasing, released, returning, returned}
use Rattle.verdict_words.specs.Settling.{without}
use Rattle.verdict_words.specs.Values.{Identity, PassValue, IsPass, board_of, seen_of, trail_of, known_of, resting}
use Rattle.verdict_words.specs.Settling.{met_of, last_turn, without_all}
use Rattle.verdict_words.specs.Inner.Settling.{met_held, view_of, away, receiving_all, releasing_all, held_of, sessions_of, IsHolding}
use Rattle.verdict_words.specs.declared.views.Origin.{Origin}
use Rattle.verdict_words.specs.declared.views.AtomicStep.{AtomicStep}
use Rattle.verdict_words.specs.declared.views.Item.{Item}
use Rattle.verdict_words.specs.declared.views.Item.TheVariants.{Met}
use Rattle.verdict_words.specs.declared.views.Loading.TheVariants.{Nothing}
use Rattle.verdict_words.specs.declared.views.PassView.{PassView}
use Rattle.verdict_words.specs.declared.views.BookView.{BookView}
use Rattle.verdict_words.specs.declared.views.View.{View}
use Rattle.verdict_words.specs.declared.views.View.TheVariants.{Book, Spent}
use Rattle.verdict_words.proofs.AtHome.{value}
use Rattle.verdict_words.proofs.BookKept.{seated_meets}

module _ {A : Type 0} where
  -- the first i items are new, and the others old
  abbrev pub progress : List A → List A → ℕ → List A
  progress new old i = take i new ++ drop i old

  pub progress_at : (new old : List A) (i : ℕ) (d : A) → length new ≡ length old → i < length old → get_or (progress new old i) i d ≡ get_or old i d
  progress_at [] [] i d e lt = absurd (omega arith)
  progress_at [] (y ∷ ys) i d e lt = absurd (omega arith)
  progress_at (x ∷ xs) [] i d e lt = absurd (omega arith)
  progress_at (x ∷ xs) (y ∷ ys) zero d e lt = refl
  progress_at (x ∷ xs) (y ∷ ys) (suc i) d e lt = progress_at xs ys i d (omega arith) (omega arith)

  pub progress_next : (new old : List A) (i : ℕ) (d : A) → length new ≡ length old → i < length old → set (progress new old i) i (get_or new i d) ≡ progress new old (suc i)
  progress_next [] [] i d e lt = absurd (omega arith)
  progress_next [] (y ∷ ys) i d e lt = absurd (omega arith)
  progress_next (x ∷ xs) [] i d e lt = absurd (omega arith)
  progress_next (x ∷ xs) (y ∷ ys) zero d e lt = refl
  progress_next (x ∷ xs) (y ∷ ys) (suc i) d e lt = ap (λ l. x ∷ l) (progress_next xs ys i d (omega arith) (omega arith))

  pub progress_end : (new old : List A) (i : ℕ) → length new ≡ length old → length old ≤ i → progress new old i ≡ new
  progress_end new old i e le = (λ k. take_all i new (omega arith) k ++ drop_all i old le k) ∙ append-nil new

module _ {E H : Type 0} where
  -- what the seat of a pass knows that rests with it
  pub shown : (old : PassValue E H) (board : Identity E H) (session : ℕ) (m : Me (Unit {0}) (View E H)) → value board session m ≡ old
      → m ≡ (resting board.origin session (seen_of m.0) (trail_of m.0) (known_of m.0), []) → m ≡ (view_of old, [])
  shown old board session m view is =
      let here : board_of m.0 board ≡ board = ap (λ (z : Me (Unit {0}) (View E H)). board_of z.0 board) is in
      is ∙ ((λ i. (resting (sym here i).origin session (seen_of m.0) (trail_of m.0) (known_of m.0), [])) ∙ ap (λ (v : PassValue E H). (view_of v, [])) view)

  -- a pass without what it knows
  pub away_value : (old : PassValue E H) (board : Identity E H) (session : ℕ) (m m' : Me (Unit {0}) (View E H)) (origin : Origin E H) (seen : List E) (trail : List Item) (known : List AtomicStep) → value board session m ≡ old
      → m ≡ (resting origin session seen trail known, []) → m' ≡ (Spent, []) → value board session m' ≡ away old
  away_value old board session m m' origin seen trail known view was is = ap (value board session) is ∙ ap away (sym (ap (value board session) was) ∙ view)

  pub spent_ok : (board : Identity E H) (place : Seat (Unit {0}) (View E H)) (session : ℕ) → place.table_id ≡ board.table → place.me ≡ (Spent, []) → 1 ≤ session → board.origin.first ≤ session → IsPass board place session 0
  spent_ok board place session table is some first = record {
    table = table;
    view = inr is;
    count = sym (ap (λ (z : Me (Unit {0}) (View E H)). length (seen_of z.0)) is);
    short = omega arith;
    numbered = (some, subst (λ (z : Me (Unit {0}) (View E H)). (board_of z.0 board).origin.first ≤ session) (sym is) first);
    begins = subst (λ (z : Me (Unit {0}) (View E H)). (more : List E) × (seen_of z.0 ≡ (board_of z.0 board).origin.opening ++ more)) (sym is) ([], refl);
  }

  -- one pass after those before it
  pub receiving_next : (v : View E H) (passes : List (PassValue E H)) (i : ℕ) (d : PassValue E H) → i < length passes → receiving_all v (take (suc i) passes) ≡ receiving (receiving_all v (take i passes)) (view_of (get_or passes i d))
  receiving_next v [] i d lt = absurd (omega arith)
  receiving_next v (p ∷ ps) zero d lt = refl
  receiving_next v (p ∷ ps) (suc i) d lt = receiving_next (receiving v (view_of p)) ps i d (omega arith)

  abbrev pub pass_view : PassValue E H → PassView E H
  pass_view pass = record { origin = pass.board.origin; session = pass.session; seen = pass.seen; trail = pass.trail; known = pass.known; loading = Nothing }

  -- the book with all passes that were taken in
  abbrev pub holding : BookView E H → List (PassValue E H) → BookView E H
  holding b passes = record b { turn = last_turn b.turn passes; held = b.held ++ map pass_view passes }

  pub received : (b : BookView E H) (passes : List (PassValue E H)) → receiving_all (Book b) passes ≡ Book (holding b passes)
  received b [] = ap (λ h. Book (record b { held = h })) (sym (append-nil b.held))
  received b (p ∷ ps) = received (record b { turn = p.session; held = b.held ++ pass_view p ∷ [] }) ps
      ∙ ap (λ h. Book (record b { turn = last_turn p.session ps; held = h })) (append_assoc b.held (pass_view p ∷ []) (map pass_view ps))

  -- one pass after those that were given back before it
  pub releasing_next : (ps : List (PassView E H)) (v : View E H) (i : ℕ) → i < length ps → releasing_all (take (suc i) ps) v ≡ releasing (releasing_all (take i ps) v)
  releasing_next [] v i lt = absurd (omega arith)
  releasing_next (p ∷ ps) v zero lt = refl
  releasing_next (p ∷ ps) v (suc i) lt = releasing_next ps (releasing v) i (omega arith)

  -- the book after it gave the first i of its passes back
  pub record After (b : BookView E H) (i : ℕ) (v : View E H) : Type 0 where
    pub book : BookView E H
    pub is : v ≡ Book book
    pub history : book.history ≡ b.history
    pub known : book.known ≡ b.known
    pub held : book.held ≡ drop i b.held

  pub after_some : (ps : List (PassView E H)) (i : ℕ) (b : BookView E H) → b.held ≡ ps → After b i (releasing_all (take i ps) (Book b))
  after_some ps zero b e = record { book = b; is = refl; history = refl; known = refl; held = refl }
  after_some [] (suc i) b e = record { book = b; is = refl; history = refl; known = refl; held = e ∙ sym (ap (drop (suc i)) e) }
  after_some (p ∷ ps) (suc i) b e =
      let next : BookView E H = record b { lag = without p.session b.lag; held = ps } in
      let rest = after_some ps i next refl in record {
        book = rest.book;
        is = ap (λ h. releasing_all (take i ps) (Book (released b h))) e ∙ rest.is;
        history = rest.history;
        known = rest.known;
        held = rest.held ∙ sym (ap (drop (suc i)) e);
      }

  -- the book after it gave all passes back
  pub given : (passes : List (PassValue E H)) (b : BookView E H) → b.held ≡ map pass_view passes → releasing_all (map pass_view passes) (Book b) ≡ Book (record b { lag = without_all passes b.lag; held = [] })
  given [] b e = ap (λ h. Book (record b { held = h })) e
  given (p ∷ ps) b e = ap (λ h. releasing_all (map pass_view ps) (Book (released b h))) e ∙ given ps (record b { lag = without p.session b.lag; held = map pass_view ps }) refl

  -- the turn is of the session that was met last
  pub seated_all : (session : E → ℕ) (o : Origin E H) (entries : List E) (next turn : ℕ) (passes : List (PassValue E H)) → All (λ (p : PassValue E H). (o.first ≤ p.session) × (p.session < next)) passes
      → IsSeated session o entries next turn → IsSeated session o entries next (last_turn turn passes)
  seated_all session o entries next turn [] range ok = ok
  seated_all session o entries next turn (p ∷ ps) range ok = let r = range 0 p (omega arith) in
      seated_all session o entries next p.session ps (λ k d lt. range (suc k) d (omega arith)) (seated_meets session o entries next turn p.session ok r.0 r.1)

module _ {E H : Type 0} where
  -- the first of the passes that a book holds, by the list of their sessions
  pub first_held : (session : ℕ) (rest : List ℕ) (held : List (PassView E H)) → session ∷ rest ≡ map (λ (p : PassView E H). p.session) held
      → (p : PassView E H) × (ps : List (PassView E H)) × (held ≡ p ∷ ps) × (session ≡ p.session)
  first_held session rest [] e = absurd (omega (arith, ap length e))
  first_held session rest (p ∷ ps) e = (p, ps, refl, ap (λ l. get_or l 0 0) e)

  -- what the seat knows that was given back
  pub gave_me : (board : Identity E H) (session : ℕ) (m m' : Me (Unit {0}) (View E H)) (b : BookView E H) (p : PassView E H) (ps : List (PassView E H)) → m ≡ (Book b, []) → b.held ≡ p ∷ ps → p.origin ≡ board.origin → session ≡ p.session
      → m' ≡ (returning m.0, []) → m' ≡ (resting board.origin session b.history (p.trail ++ Met (length b.history) ∷ []) b.known, [])
  gave_me board session m m' b p ps is holds origin same told =
      told ∙ ((λ i. (returning (is i).0, [])) ∙ ((λ i. (returned b (holds i), [])) ∙ (λ i. (resting (origin i) (sym same i) b.history (p.trail ++ Met (length b.history) ∷ []) b.known, []))))

  pub gave_value : (whose board : Identity E H) (session : ℕ) (m m' : Me (Unit {0}) (View E H)) (b : BookView E H) (p : PassView E H) (ps : List (PassView E H)) → board ≡ whose → m ≡ (Book b, []) → b.held ≡ p ∷ ps → session ≡ p.session
      → m' ≡ (resting board.origin session b.history (p.trail ++ Met (length b.history) ∷ []) b.known, [])
      → value board session m' ∷ [] ≡ map (met_held whose (seen_of m.0) (known_of m.0)) (take 1 (held_of m.0))
  gave_value whose board session m m' b p ps of is holds same now =
      let one : value board session m' ≡ met_of whose b.history b.known p.session p.trail = ap (value board session) now ∙ (λ i. met_of (of i) b.history b.known (same i) p.trail) in
      ap (λ v. v ∷ []) one ∙ ((λ i. map (met_held whose b.history b.known) (take 1 (sym holds i)))
      ∙ (λ i. map (met_held whose (seen_of (sym is i).0) (known_of (sym is i).0)) (take 1 (held_of (sym is i).0))))

-- what the book gave is the one that it held first
one_of : {A B : Type 0} (f : A → B) (xs : List A) (i : ℕ) (y d : B) → i < length xs → y ∷ [] ≡ map f (take 1 (drop i xs)) → y ≡ get_or (map f xs) i d
one_of f [] i y d lt e = absurd (omega arith)
one_of f (x ∷ xs) zero y d lt e = ap (λ l. get_or l 0 d) e
one_of f (x ∷ xs) (suc i) y d lt e = one_of f xs i y d (omega arith) e

-- what stands before one of the items, it, and what stands behind it
map_around : {A B : Type 0} (f : A → B) (xs : List A) (rest : List B) (i : ℕ) (d : A) → i < length xs → d ≡ get_or xs i d → map f xs ++ rest ≡ map f (take i xs) ++ (f d ∷ (map f (drop (suc i) xs) ++ rest))
map_around f [] rest i d lt e = absurd (omega arith)
map_around f (x ∷ xs) rest zero d lt e = ap (λ y. f y ∷ (map f xs ++ rest)) (sym e)
map_around f (x ∷ xs) rest (suc i) d lt e = ap (λ l. f x ∷ l) (map_around f xs rest i d (omega arith) e)

module _ {E H : Type 0} (whose : Identity E H) (count : ℕ) where
  -- the book's seat once it gave the first k of its passes back
  pub record Later (more : List ℕ) (me now : Me (Unit {0}) (View E H)) (k : ℕ) : Type 0 where
    pub holds : IsHolding whose count more now
    pub seen : seen_of now.0 ≡ seen_of me.0
    pub known : known_of now.0 ≡ known_of me.0
    pub held : held_of now.0 ≡ drop k (held_of me.0)

  later_book : (first more : List ℕ) (b : BookView E H) (now : Me (Unit {0}) (View E H)) (k : ℕ) → count ≡ length b.history → IsPrefix whose.origin.opening b.history
      → All (λ (p : PassView E H). (p.origin ≡ whose.origin) × (whose.origin.first ≤ p.session)) b.held → first ++ more ≡ map (λ (p : PassView E H). p.session) b.held
      → length first ≡ k → now ≡ (releasing_all (take k b.held) (Book b), []) → Later more (Book b, []) now k
  later_book first more b now k long begins of sessions many is =
      let after = after_some b.held k b refl in
      let here : now ≡ (Book after.book, []) = is ∙ ap (λ (v : View E H). (v, [])) after.is in
      record {
        holds = record {
          book = after.book;
          is = here;
          long = long ∙ sym (ap length after.history);
          begins = subst (λ (h : List E). IsPrefix whose.origin.opening h) (sym after.history) begins;
          of = subst (All (λ (p : PassView E H). (p.origin ≡ whose.origin) × (whose.origin.first ≤ p.session))) (sym after.held) (All-drop (λ (p : PassView E H). (p.origin ≡ whose.origin) × (whose.origin.first ≤ p.session)) k b.held of);
          sessions_are = sym (drop-append_seam first more) ∙ (ap (λ n. drop n (first ++ more)) many ∙ (ap (drop k) sessions ∙ (drop-map (λ (p : PassView E H). p.session) k b.held
              ∙ sym (ap (map (λ (p : PassView E H). p.session)) after.held))));
        };
        seen = ap (λ (z : Me (Unit {0}) (View E H)). seen_of z.0) here ∙ after.history;
        known = ap (λ (z : Me (Unit {0}) (View E H)). known_of z.0) here ∙ after.known;
        held = ap (λ (z : Me (Unit {0}) (View E H)). held_of z.0) here ∙ after.held;
      }

  pub later : (first more : List ℕ) (me now : Me (Unit {0}) (View E H)) (k : ℕ) → IsHolding whose count (first ++ more) me → length first ≡ k → now ≡ (releasing_all (take k (held_of me.0)) me.0, []) → Later more me now k
  later first more me now k holds many is = subst (λ (z : Me (Unit {0}) (View E H)). Later more z now k) (sym holds.is)
      (later_book first more holds.book now k holds.long holds.begins holds.of holds.sessions_are many (is ∙ (λ j. (releasing_all (take k (held_of (holds.is j).0)) (holds.is j).0, []))))

  -- a book that can give these passes back holds as many, and maybe more
  pub many_held : (items : List (PassValue E H)) (rest : List ℕ) (me : Me (Unit {0}) (View E H)) → IsHolding whose count (sessions_of items ++ rest) me → length items ≤ length (held_of me.0)
  many_held items rest me holds =
      let mine = length-append (sessions_of items) rest in
      let one = length-map items (λ (pass : PassValue E H). pass.session) in
      let two = length-map holds.book.held (λ (p : PassView E H). p.session) in
      let same = ap length holds.sessions_are in
      let held : length (held_of me.0) ≡ length holds.book.held = ap (λ (z : Me (Unit {0}) (View E H)). length (held_of z.0)) holds.is in
      omega (arith, mine, one, two, same, held)

module _ {E H : Type 0} (whose : Identity E H) (count i : ℕ) (items : List (PassValue E H)) (rest : List ℕ) (d : PassValue E H) where
  -- what is owed and known where the next pass is given back
  pub record Next (me now : Me (Unit {0}) (View E H)) : Type 0 where
    pub rest_then : List ℕ
    pub holds : IsHolding whose count (d.session ∷ rest_then) now
    pub pass : (new : PassValue E H) → new ∷ [] ≡ map (met_held whose (seen_of now.0) (known_of now.0)) (take 1 (held_of now.0))
        → new ≡ get_or (take (length items) (map (met_held whose (seen_of me.0) (known_of me.0)) (held_of me.0))) i d

  pub next : (me now : Me (Unit {0}) (View E H)) → IsHolding whose count (sessions_of items ++ rest) me → now ≡ (releasing_all (take i (held_of me.0)) me.0, []) → i < length items → d ≡ get_or items i d → Next me now
  next me now holds is lt mine =
      let first : List ℕ = sessions_of (take i items) in
      let last : List ℕ = sessions_of (drop (suc i) items) ++ rest in
      let long : length first ≡ i = length-map (take i items) (λ (pass : PassValue E H). pass.session) ∙ length-take-le i items (omega arith) in
      let l = later whose count first (d.session ∷ last) me now i (subst (λ (s : List ℕ). IsHolding whose count s me) (map_around (λ (pass : PassValue E H). pass.session) items rest i d lt mine) holds) long is in
      let many = many_held whose count items rest me holds in
      record {
        rest_then = last;
        holds = l.holds;
        pass = λ new told.
            one_of (met_held whose (seen_of me.0) (known_of me.0)) (held_of me.0) i new d (omega arith) (told ∙ (λ k. map (met_held whose (l.seen k) (l.known k)) (take 1 (l.held k))))
            ∙ sym (get_or-take (length items) (map (met_held whose (seen_of me.0) (known_of me.0)) (held_of me.0)) i d lt);
      }
