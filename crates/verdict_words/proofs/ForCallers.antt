-- Lemmas for crates that use a board: histories that grow, a session's own entries in them, and what a pass had seen when it was last met.
use Rattle.std.proofs.Common.{◌≡◌, ◌≢◌, ℕ, ◌≤◌, List, [], ◌∷◌, ◌++◌, length, take, refl, sym, ap, ◌∙◌, subst, false}
use Rattle.std.specs.Prelude.{All, ◌==◌}
use Rattle.std.proofs.lemmas.List.Elements.{filter-append}
use Rattle.std.proofs.lemmas.Bool.{ne_eqb, eq-eqb}
use Rattle.verdict_words.specs.Histories.{IsPrefix, own}
use Rattle.verdict_words.specs.Rule.{met_after, last_met}
use Rattle.verdict_words.specs.Orders.{Steps, Gathers, loads}
use Rattle.verdict_words.specs.Values.{PassValue, met_seen}
use Rattle.verdict_words.specs.declared.views.AtomicStep.{AtomicStep}
use Rattle.verdict_words.specs.declared.views.Item.{Item}
use Rattle.verdict_words.specs.declared.views.Item.TheVariants.{Met}
use Rattle.verdict_words.proofs.Ordering.{filter_in, filter_out, filter_none}
-- what a trail meets, part by part; what holds of all, where another thing does
pub use Rattle.verdict_words.proofs.Kept.{met_append}
pub use Rattle.verdict_words.proofs.Ordering.{all_with}
-- the atomic steps of a trail with more items
pub use Rattle.verdict_words.proofs.Ordering.{trail_steps_append, trail_steps_snoc}
-- the passes of new sessions: how many there are, and what holds of each
pub use Rattle.verdict_words.proofs.Enrolled.{enrolled_all, enrolled_count}
-- prefixes: a list begins itself, a longer list, and what a list begins that it begins; their lengths; what `take` gives of them
pub use Rattle.verdict_words.proofs.Growing.{prefix_whole, prefix_grows, prefix_through, prefix_length, prefix_take, take_whole}

module _ {E : Type 0} (session : E → ℕ) where
  -- a session's entries in two histories, one after the other
  pub own_append : (xs ys : List E) (s : ℕ) → own session (xs ++ ys) s ≡ own session xs s ++ own session ys s
  own_append xs ys s = filter-append (λ e. session e == s) xs ys

  -- one entry more, of the session
  pub own_snoc : (xs : List E) (e : E) (s : ℕ) → session e ≡ s → own session (xs ++ e ∷ []) s ≡ own session xs s ++ e ∷ []
  own_snoc xs e s is = filter_in (λ x. session x == s) xs e (eq-eqb (session e) s is)

  -- one entry more, of another session
  pub own_other : (xs : List E) (e : E) (s : ℕ) → session e ≢ s → own session (xs ++ e ∷ []) s ≡ own session xs s
  own_other xs e s ne = filter_out (λ x. session x == s) xs e (ne_eqb (session e) s ne)

  -- a session with no entry
  pub own_none : (xs : List E) (s : ℕ) → All (λ e. session e ≢ s) xs → own session xs s ≡ []
  own_none xs s none = filter_none (λ e. session e == s) xs (all_with (λ e. session e ≢ s) (λ e. session e == s ≡ false) xs (λ e ne. ne_eqb (session e) s ne) none)

-- a trail that ends with a meeting
pub last_met_now : (trail : List Item) (n : ℕ) → last_met (trail ++ Met n ∷ []) ≡ n
last_met_now trail n = met_append 0 trail (Met n ∷ [])

-- a trail that ends with another item
pub last_met_kept : (trail : List Item) (item : Item) → ((n : ℕ) → met_after n (item ∷ []) ≡ n) → last_met (trail ++ item ∷ []) ≡ last_met trail
last_met_kept trail item quiet = met_append 0 trail (item ∷ []) ∙ quiet (last_met trail)

module _ {E H : Type 0} where
  -- a pass that sees more, and was not met again
  pub met_seen_kept : (old new : PassValue E H) → IsPrefix old.seen new.seen → last_met new.trail ≡ last_met old.trail → last_met old.trail ≤ length old.seen → met_seen new ≡ met_seen old
  met_seen_kept old new grows same met = ap (λ n. take n new.seen) same ∙ prefix_take old.seen new.seen (last_met old.trail) grows met

  -- a pass that was just met
  pub met_seen_now : (pass : PassValue E H) (before : List Item) → pass.trail ≡ before ++ Met (length pass.seen) ∷ [] → met_seen pass ≡ pass.seen
  met_seen_now pass before is = take_whole pass.seen (last_met pass.trail) (ap last_met is ∙ last_met_now before (length pass.seen))

-- what is known behind the steps of a call begins with what was known
pub steps_grow : (known : List AtomicStep) (steps : List AtomicStep) (known_then : List AtomicStep) → Steps known steps known_then → IsPrefix known known_then
steps_grow known [] known_then is = subst (IsPrefix known) (sym is) (prefix_whole known)
steps_grow known (x ∷ xs) known_then (before, first, rest) =
    prefix_through known before known_then first (prefix_through before (before ++ x ∷ []) known_then (x ∷ [], refl) (steps_grow (before ++ x ∷ []) xs known_then rest))

-- the same of a call of one step, and of a look
pub step_grows : (known : List AtomicStep) (x : AtomicStep) (known_then : List AtomicStep) → Steps known (x ∷ []) known_then → IsPrefix known known_then
step_grows known x known_then made = steps_grow known (x ∷ []) known_then made

pub look_grows : (known : List AtomicStep) (a b c d : AtomicStep) (known_then : List AtomicStep) → Steps known (a ∷ b ∷ c ∷ d ∷ []) known_then → IsPrefix known known_then
look_grows known a b c d known_then made = steps_grow known (a ∷ b ∷ c ∷ d ∷ []) known_then made

-- and so it does once passes were met, both for the owner and for each of them
pub gathers_grow : (known : List AtomicStep) (others : List (List AtomicStep)) (count : ℕ) (known_then : List AtomicStep) → Gathers known others count known_then → IsPrefix known known_then × All (λ other. IsPrefix other known_then) others
gathers_grow known others count known_then (before, mine, each, is) =
    let whole : IsPrefix before known_then = (loads 0 0 count ∷ [], is) in (
      prefix_through known before known_then mine whole,
      all_with (λ other. IsPrefix other before) (λ other. IsPrefix other known_then) others (λ other p. prefix_through other before known_then p whole) each,
    )
