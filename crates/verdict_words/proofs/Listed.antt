-- Lists of lists, and passes that are taken in and given back list by list.
use Rattle.std.proofs.Common.{◌≡◌, ℕ, zero, suc, ◌+◌, ◌<◌, List, [], ◌∷◌, ◌++◌, length, map, take, drop, set, get_or, refl, sym, ap, ◌∙◌, arith, append_assoc, length-append, length-drop}
use Rattle.std.specs.Prelude.{All}
use Rattle.std.specs.declared.vec.Vec.{Vec}
use Rattle.std.proofs.lemmas.List.{append-nil, get_or-map, length-map, length-take, take-append-drop, map-append, map-set}
use Rattle.std.proofs.lemmas.List.Elements.{All-cons, All-nil}
use Rattle.std.proofs.Math.Seq.{take-add, take-append_seam, drop-append_seam, drop-nil}
use Rattle.atomic_table.specs.Table.{Me}
use Rattle.verdict_words.specs.Inner.Steps.{receiving, released, releasing}
use Rattle.verdict_words.specs.Settling.{all_of, flat, items_of}
use Rattle.verdict_words.specs.Values.{PassValue}
use Rattle.verdict_words.specs.Inner.Settling.{IsHoldingMany, away, cut_as, held_of, receiving_all, releasing_all, sessions_of, view_of}
use Rattle.verdict_words.specs.declared.views.BookView.{BookView}
use Rattle.verdict_words.specs.declared.views.PassView.{PassView}
use Rattle.verdict_words.specs.declared.views.View.{View}
use Rattle.verdict_words.specs.declared.views.View.TheVariants.{Book}
use Rattle.verdict_words.proofs.Settled.{after_some, pass_view, progress, progress_at, progress_next}
use Rattle.verdict_words.proofs.Together.{sessions_away}

module _ {A : Type 0} (P : A → Type 0) where
  pub all_left : (xs ys : List A) → All P (xs ++ ys) → All P xs
  all_left [] ys all = All-nil P
  all_left (x ∷ xs) ys all = All-cons P x xs (all 0 x (omega arith)) (all_left xs ys (λ j e l. all (suc j) e (omega arith)))

  pub all_right : (xs ys : List A) → All P (xs ++ ys) → All P ys
  all_right [] ys all = all
  all_right (x ∷ xs) ys all = all_right xs ys (λ j e l. all (suc j) e (omega arith))

  -- what holds of all holds of each list
  pub all_at : (lists : List (List A)) (i : ℕ) (d : List A) → i < length lists → All P (flat lists) → All P (get_or lists i d)
  all_at [] i d lt all = absurd (omega arith)
  all_at (x ∷ xs) zero d lt all = all_left x (flat xs) all
  all_at (x ∷ xs) (suc i) d lt all = all_at xs i d (omega arith) (all_right x (flat xs) all)

module _ {A : Type 0} where
  -- one list more
  pub flat_next : (lists : List (List A)) (i : ℕ) (d : List A) → i < length lists → flat (take (suc i) lists) ≡ flat (take i lists) ++ get_or lists i d
  flat_next [] i d lt = absurd (omega arith)
  flat_next (x ∷ xs) zero d lt = append-nil x
  flat_next (x ∷ xs) (suc i) d lt = ap (λ l. x ++ l) (flat_next xs i d (omega arith)) ∙ sym (append_assoc x (flat (take i xs)) (get_or xs i d))

  -- the lists before one, that one, and the lists behind it
  pub flat_around : (lists : List (List A)) (i : ℕ) (d : List A) → i < length lists → flat lists ≡ flat (take i lists) ++ (get_or lists i d ++ flat (drop (suc i) lists))
  flat_around [] i d lt = absurd (omega arith)
  flat_around (x ∷ xs) zero d lt = refl
  flat_around (x ∷ xs) (suc i) d lt = ap (λ l. x ++ l) (flat_around xs i d (omega arith)) ∙ sym (append_assoc x (flat (take i xs)) (get_or xs i d ++ flat (drop (suc i) xs)))

drop_twice : {Y : Type 0} (n m : ℕ) (l : List Y) → drop m (drop n l) ≡ drop (n + m) l
drop_twice zero m l = let none : 0 + m ≡ m = omega arith in ap (λ k. drop k l) (sym none)
drop_twice (suc n) m [] = drop-nil m ∙ sym (drop-nil (suc n + m))
drop_twice (suc n) m (y ∷ l) = let more : suc n + m ≡ suc (n + m) = omega arith in drop_twice n m l ∙ ap (λ k. drop k (y ∷ l)) (sym more)

length_progress : {A : Type 0} (new old : List A) (i : ℕ) → length new ≡ length old → length (progress new old i) ≡ length old
length_progress new old i same =
    let front = length-take i new in
    let back = length-drop i old in
    let whole = length-append (take i new) (drop i old) in
    omega (arith, front, back, whole)

module _ {X Z : Type 0} where
  -- the items of the list that comes next
  pub items_at : (now : List (Vec X Z)) (new old : List (List X)) (i : ℕ) (d : Vec X Z) → items_of now ≡ progress new old i → d ≡ get_or now i d → length new ≡ length old → i < length old → d.items ≡ get_or old i d.items
  items_at now new old i d is at same lt =
      let many : length now ≡ length old = sym (length-map now (λ (v : Vec X Z). v.items)) ∙ (ap length is ∙ length_progress new old i same) in
      ap (λ (v : Vec X Z). v.items) at ∙ (sym (get_or-map (λ (v : Vec X Z). v.items) now i d d.items (omega (arith, many)))
      ∙ (ap (λ l. get_or l i d.items) is ∙ progress_at new old i d.items same lt))

  -- the items of all lists once that list is new
  pub items_next : (now : List (Vec X Z)) (new old : List (List X)) (i : ℕ) (v : Vec X Z) → items_of now ≡ progress new old i → v.items ≡ get_or new i v.items → length new ≡ length old → i < length old → items_of (set now i v) ≡ progress new old (suc i)
  items_next now new old i v is value same lt =
      map-set (λ (w : Vec X Z). w.items) now i v ∙ ((λ k. set (is k) i (value k)) ∙ progress_next new old i v.items same lt)

-- a list that has something is not empty
pub some_first : {A : Type 0} (xs : List A) → 0 < length xs → (x : A) × (rest : List A) × (xs ≡ x ∷ rest)
some_first [] lt = absurd (omega arith)
some_first (x ∷ xs) lt = (x, xs, refl)

pub none_left : {A : Type 0} (xs : List A) → length xs ≡ 0 → xs ≡ []
none_left [] none = refl
none_left (x ∷ xs) none = absurd (omega (arith, none))

-- what is made of the lists before one, of that one, and of the lists behind it
pub map_around : {X Y : Type 0} (f : X → Y) (lists : List (List X)) (rest : List Y) (i : ℕ) (d : List X) → i < length lists → d ≡ get_or lists i d
    → map f (flat lists) ++ rest ≡ map f (flat (take i lists)) ++ (map f d ++ (map f (flat (drop (suc i) lists)) ++ rest))
map_around f lists rest i d lt mine =
    let first = flat (take i lists) in
    let last = flat (drop (suc i) lists) in
    ap (λ l. map f l ++ rest) (flat_around lists i d lt ∙ (λ k. first ++ (sym mine k ++ last)))
    ∙ (ap (λ l. l ++ rest) (map-append f first (d ++ last) ∙ ap (λ l. map f first ++ l) (map-append f d last))
    ∙ (append_assoc (map f first) (map f d ++ map f last) rest ∙ ap (λ l. map f first ++ l) (append_assoc (map f d) (map f last) rest)))

module _ {X Y : Type 0} where
  pub length_cut : (lists : List (List X)) (ys : List Y) → length (cut_as lists ys) ≡ length lists
  length_cut [] ys = refl
  length_cut (x ∷ xs) ys = ap suc (length_cut xs (drop (length x) ys))

  -- one of the parts
  pub cut_at : (lists : List (List X)) (ys : List Y) (i : ℕ) (d : List X) (e : List Y) → i < length lists → get_or (cut_as lists ys) i e ≡ take (length (get_or lists i d)) (drop (length (flat (take i lists))) ys)
  cut_at [] ys i d e lt = absurd (omega arith)
  cut_at (x ∷ xs) ys zero d e lt = refl
  cut_at (x ∷ xs) ys (suc i) d e lt =
      cut_at xs (drop (length x) ys) i d e (omega arith)
      ∙ ap (take (length (get_or xs i d))) (drop_twice (length x) (length (flat (take i xs))) ys ∙ ap (λ n. drop n ys) (sym (length-append x (flat (take i xs)))))

module _ {W X Y : Type 0} where
  -- a list that was made end to end, in its parts
  pub cut_flat : (g : W → X) (f : W → Y) (lists : List (List W)) (rest : List Y) → cut_as (map (map g) lists) (map f (flat lists) ++ rest) ≡ map (map f) lists
  cut_flat g f [] rest = refl
  cut_flat g f (x ∷ xs) rest =
      let long : length (map g x) ≡ length (map f x) = length-map x g ∙ sym (length-map x f) in
      let parts : map f (x ++ flat xs) ++ rest ≡ map f x ++ (map f (flat xs) ++ rest) = ap (λ l. l ++ rest) (map-append f x (flat xs)) ∙ append_assoc (map f x) (map f (flat xs)) rest in
      (λ k. take (long k) (parts k) ∷ cut_as (map (map g) xs) (drop (long k) (parts k)))
      ∙ ((λ k. take-append_seam (map f x) (map f (flat xs) ++ rest) k ∷ cut_as (map (map g) xs) (drop-append_seam (map f x) (map f (flat xs) ++ rest) k))
      ∙ ap (λ l. map f x ∷ l) (cut_flat g f xs rest))

pub flat_maps : {X Y : Type 0} (f : X → Y) (lists : List (List X)) → flat (map (map f) lists) ≡ map f (flat lists)
flat_maps f [] = refl
flat_maps f (x ∷ xs) = ap (λ l. map f x ++ l) (flat_maps f xs) ∙ sym (map-append f x (flat xs))

module _ {E H : Type 0} where
  pub receiving_append : (xs ys : List (PassValue E H)) (v : View E H) → receiving_all v (xs ++ ys) ≡ receiving_all (receiving_all v xs) ys
  receiving_append [] ys v = refl
  receiving_append (x ∷ xs) ys v = receiving_append xs ys (receiving v (view_of x))

  pub releasing_append : (xs ys : List (PassView E H)) (v : View E H) → releasing_all (xs ++ ys) v ≡ releasing_all ys (releasing_all xs v)
  releasing_append [] ys v = refl
  releasing_append (x ∷ xs) ys v = releasing_append xs ys (releasing v)

  -- what was given back before, and more
  pub releasing_more : (held : List (PassView E H)) (v : View E H) (k n m : ℕ) → k + n ≡ m → releasing_all (take n (drop k held)) (releasing_all (take k held) v) ≡ releasing_all (take m held) v
  releasing_more held v k n m sum = sym (releasing_append (take k held) (take n (drop k held)) v) ∙ (ap (λ l. releasing_all l v) (sym (take-add k n held)) ∙ ap (λ j. releasing_all (take j held) v) sum)

  -- what is left is the same once the first was given back
  pub releasing_left : (m m' : Me (Unit {0}) (View E H)) (b : BookView E H) (p : PassView E H) (ps : List (PassView E H)) → m ≡ (Book b, []) → b.held ≡ p ∷ ps → m' ≡ (Book (released b (p ∷ ps)), [])
      → releasing_all (held_of m'.0) m'.0 ≡ releasing_all (held_of m.0) m.0
  releasing_left m m' b p ps is holds then =
      (λ k. releasing_all (held_of (then k).0) (then k).0)
      ∙ ((λ k. releasing_all ps (Book (released b (sym holds k)))) ∙ ((λ k. releasing_all (sym holds k) (Book b)) ∙ (λ k. releasing_all (held_of (sym is k).0) (sym is k).0)))

  -- all are given back, in two steps
  pub given_twice : (m m' m'' : Me (Unit {0}) (View E H)) (b : BookView E H) (k : ℕ) → m ≡ (Book b, []) → m' ≡ (releasing_all (take k (held_of m.0)) m.0, []) → m'' ≡ (releasing_all (held_of m'.0) m'.0, [])
      → m'' ≡ (releasing_all (held_of m.0) m.0, [])
  given_twice m m' m'' b k is first last =
      let after = after_some b.held k b refl in
      let here : m' ≡ (releasing_all (take k b.held) (Book b), []) = first ∙ (λ j. (releasing_all (take k (held_of (is j).0)) (is j).0, [])) in
      let held : held_of m'.0 ≡ drop k b.held = ap (λ (z : Me (Unit {0}) (View E H)). held_of z.0) here ∙ (ap held_of after.is ∙ after.held) in
      last ∙ ((λ j. (releasing_all (held j) (here j).0, [])) ∙ (ap (λ (v : View E H). (v, [])) (sym (releasing_append (take k b.held) (drop k b.held) (Book b)) ∙ ap (λ l. releasing_all l (Book b)) (take-append-drop k b.held))
      ∙ (λ j. (releasing_all (held_of (sym is j).0) (sym is j).0, []))))

  -- the sessions of the lists that were taken in, and those of the rolls
  pub sessions_lists : (now lists rolls : List (List (PassValue E H))) → now ≡ map (map away) lists
      → sessions_of (flat now) ++ map (λ (p : PassView E H). p.session) (map pass_view (flat rolls)) ≡ map (λ (p : PassView E H). p.session) (map pass_view (all_of lists rolls))
  sessions_lists now lists rolls is =
      let last : List ℕ = map (λ (p : PassView E H). p.session) (map pass_view (flat rolls)) in
      ap (λ l. sessions_of (flat l) ++ last) is ∙ (ap (λ l. sessions_of l ++ last) (flat_maps away lists) ∙ (ap (λ l. l ++ last) (sessions_away (flat lists))
      ∙ (sym (map-append (λ (p : PassView E H). p.session) (map pass_view (flat lists)) (map pass_view (flat rolls))) ∙ ap (map (λ (p : PassView E H). p.session)) (sym (map-append pass_view (flat lists) (flat rolls))))))

  -- once the lists were given back, the book holds those of the rolls
  pub holds_rolls : (m m' : Me (Unit {0}) (View E H)) (b : BookView E H) (now lists rolls : List (List (PassValue E H))) (n : ℕ) → m ≡ (Book b, []) → b.held ≡ map pass_view (all_of lists rolls) → now ≡ map (map away) lists
      → m' ≡ (releasing_all (take (length (flat now)) (held_of m.0)) m.0, []) → n ≡ length (flat rolls) → IsHoldingMany n m'
  holds_rolls m m' b now lists rolls n is holds same told many =
      let k : ℕ = length (flat now) in
      let after = after_some b.held k b refl in
      let first : k ≡ length (flat lists) = ap (λ l. length (flat l)) same ∙ (ap length (flat_maps away lists) ∙ length-map (flat lists) away) in
      let all : length b.held ≡ length (flat lists) + length (flat rolls) = ap length holds ∙ (length-map (all_of lists rolls) pass_view ∙ length-append (flat lists) (flat rolls)) in
      let left = ap length after.held in
      let behind = length-drop k b.held in
      record {
        book = after.book;
        is = told ∙ ((λ j. (releasing_all (take k (held_of (is j).0)) (is j).0, [])) ∙ ap (λ (v : View E H). (v, [])) after.is);
        many = omega (arith, first, all, left, behind, many);
      }
