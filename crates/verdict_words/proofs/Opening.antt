-- The rule holds as the board is made.
use Rattle.std.proofs.Common.{◌≡◌, ◌⊎◌, ℕ, zero, suc, ◌+◌, ◌-◌, ◌<◌, ◌≤◌, List, [], ◌∷◌, ◌++◌, length, take, get_or, replicate, refl, sym, ap, ◌∙◌, subst, inl, arith, length-append}
use Rattle.std.specs.Prelude.{All}
use Rattle.std.proofs.lemmas.List.{take_all, get_or-replicate, get_or_append_left, get_or-append_right}
use Rattle.std.proofs.lemmas.List.Elements.{All-nil}
use mathlib.Core.Option.{some, some-injective, some-ne-none}
use lib.ListN.{get_elem?, length-replicate}
use Rattle.atomic_table.specs.Table.{opening}
use Rattle.verdict_words.specs.Words.{most_entries, first_words, slot_count, region_count, most_objects, first_region, word_count, region_word}
use Rattle.verdict_words.specs.Histories.{own}
use Rattle.verdict_words.specs.Orders.{Replays, IsDone}
use Rattle.verdict_words.specs.Rule.{origin_of, first_book, IsSeated, RegionOk, WordsOk, ViewOk, IsKept, StartsWith}
use Rattle.verdict_words.specs.declared.views.AtomicStep.{AtomicStep}
use Rattle.verdict_words.specs.declared.views.Loading.TheVariants.{Nothing}
use Rattle.verdict_words.specs.declared.places.Held.{Held}
use Rattle.verdict_words.specs.declared.views.Key.{Key}
use Rattle.verdict_words.specs.declared.views.Origin.{Origin}
use Rattle.verdict_words.specs.declared.views.View.{View}
use Rattle.verdict_words.specs.declared.views.View.TheVariants.{Book, Pass}
use Rattle.verdict_words.proofs.Growing.{prefix_whole, each_none, each_of_all}
use Rattle.verdict_words.proofs.BookKept.{none_is_some}
use Rattle.verdict_words.proofs.Ordering.{no_steps}

abbrev front : ℕ → List ℕ
front count = count ∷ replicate (slot_count + most_objects) 0

front_length : (count : ℕ) → length (front count) ≡ first_region
front_length count = omega (arith, length-replicate {A = ℕ} (slot_count + most_objects) 0)

-- the words as they are filled in
pub filled : (count n m : ℕ) (a b c d : List ℕ) → a ≡ [] → b ≡ a ++ count ∷ [] → n ≡ 1 → c ≡ take first_region b ++ replicate (first_region - n) 0 → m ≡ first_region → d ≡ take word_count c ++ replicate (word_count - m) count → d ≡ first_words count
filled count n m a b c d ea eb en ec em ed =
    let b' : b ≡ count ∷ [] = eb ∙ ap (λ (l : List ℕ). l ++ count ∷ []) ea in
    let n' : first_region - n ≡ slot_count + most_objects = omega arith in
    let m' : word_count - m ≡ region_count = omega arith in
    let c' : c ≡ front count = ec ∙ (λ i. take_all first_region b (omega (arith, ap length b')) i ++ replicate (n' i) 0) ∙ (λ i. b' i ++ replicate (slot_count + most_objects) 0) in
    ed ∙ (λ i. take_all word_count c (omega (arith, ap length c', front_length count)) i ++ replicate (m' i) count) ∙ (λ i. c' i ++ replicate region_count count)

pub words_length : (count : ℕ) → length (first_words count) ≡ word_count
words_length count = omega (arith, length-append (front count) (replicate region_count count), front_length count, length-replicate region_count count)

pub words_count : (count : ℕ) → get_or (first_words count) 0 0 ≡ count
words_count count = refl

pub words_slot : (count k : ℕ) → k < slot_count + most_objects → get_or (first_words count) (1 + k) 0 ≡ 0
words_slot count k low = get_or_append_left (front count) (replicate region_count count) 0 (1 + k) (omega (arith, front_length count))
    ∙ (let e : 1 + k ≡ suc k = omega arith in ap (λ (j : ℕ). get_or (front count) j 0) e ∙ get_or-replicate (slot_count + most_objects) k 0 0 low)

pub words_region : (count r : ℕ) → r < region_count → get_or (first_words count) (region_word r) 0 ≡ count
words_region count r low = get_or-append_right (front count) (replicate region_count count) first_region (region_word r) 0 (front_length count) (omega arith)
    ∙ get_or-replicate region_count (region_word r - first_region) count 0 (omega arith)

module _ {E H : Type 0} (session : E → ℕ) where
  pub seated_first : (o : Origin E H) → 1 ≤ o.first → All (λ e. session e < o.first) o.opening → IsSeated session o o.opening o.first 0
  seated_first o numbered below = record {
    begins = prefix_whole o.opening;
    counted = numbered;
    order = omega arith;
    below = each_of_all (λ e. session e < o.first) o.opening below;
    new = each_none (λ before e. o.first ≤ session e) (length o.opening) o.opening (omega arith);
    met = λ n. absurd (n refl);
  }

module _ {E H : Type 0} (session : E → ℕ) (right : List E → ℕ → Held → Type 0) (touches : List E → E → ℕ → Type 0) where
  pub opens : (key : Key E H) (words : List ℕ) → words ≡ first_words (length (origin_of key).opening) → 1 ≤ key.first → All (λ e. session e < key.first) (origin_of key).opening → length (origin_of key).opening ≤ most_entries
      → IsKept session right touches (origin_of key) (opening words [] (Book (first_book (origin_of key))))
  opens key words is numbered below short =
      let o : Origin E H = origin_of key in
      let n : ℕ = length o.opening in record {
        seat = 0;
        book = first_book o;
        holder = λ s. 0;
        order = [];
        place = refl;
        book_ok = record { same = refl; short = short; seated = seated_first session o numbered below };
        words_ok = subst (WordsOk right touches (first_book o)) (sym is) record {
          wide = words_length n;
          count = words_count n;
          slots = λ k lt. inl (words_slot n k (omega arith));
          regions = λ r lt. subst (RegionOk touches (first_book o) r) (sym (words_region n r lt)) record {
            still = each_none (λ before e. ¬ touches before e r) n o.opening (omega arith);
            least = omega arith;
            raised = λ e. absurd (none_is_some r e);
            else = λ _. omega arith;
            set = λ _. inl refl;
          };
        };
        order_ok = record { replays = is; done = All-nil (λ (x : AtomicStep). IsDone x.action x.session x.word); within = All-nil (λ (x : AtomicStep). (x.session ≡ 0) ⊎ ((o.first ≤ x.session) × (x.session < o.first))) };
        book_in = record { known = prefix_whole []; own_steps = refl };
        views_ok = only o (first_book o);
        held_ok = All-nil (λ p. (p.loading ≡ Nothing) × ViewOk session right touches o (first_book o) 0 (λ s. 0) [] 0 (Pass p));
        apart = tt;
        present = λ n low high. absurd (omega arith);
      }
    where
      only : (o : Origin E H) (b : _) (j : ℕ) (v : View E H) → get_elem? (Book b ∷ []) j ≡ some v → ViewOk session right touches o b 0 (λ s. 0) [] j v
      only o b zero v e = subst (ViewOk session right touches o b 0 (λ s. 0) [] 0) (some-injective (Book b) v e) (refl, refl)
      only o b (suc j) v e = absurd (some-ne-none v (sym e))

  -- the rule pins the words at the start
  pub starts : (o : Origin E H) → StartsWith session right touches o (first_words (length o.opening))
  starts o words k =
      let is : k.book ≡ first_book o = sym (k.views_ok 0 (Book (first_book o)) refl).1 in
      let none : own (λ (x : AtomicStep). x.session) k.order 0 ≡ [] = k.book_in.own_steps ∙ ap (λ b. own (λ (x : AtomicStep). x.session) b.known 0) is in
      let within : All (λ (x : AtomicStep). (x.session ≡ 0) ⊎ ((o.first ≤ x.session) × (x.session < o.first))) k.order =
      subst (λ n. All (λ (x : AtomicStep). (x.session ≡ 0) ⊎ ((o.first ≤ x.session) × (x.session < n))) k.order) (ap (λ b. b.next) is) k.order_ok.within in
      subst (λ l. Replays (first_words (length o.opening)) l words) (no_steps o.first k.order k.book_ok.seated.counted within none) k.order_ok.replays
