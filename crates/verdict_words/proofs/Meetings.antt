-- What the book's seat owes where it makes a pass, takes one in, looks at it, and gives it back.
use Rattle.std.proofs.Common.{◌≡◌, ◌≢◌, ℕ, suc, ◌+◌, ◌<◌, get_or, List, [], ◌∷◌, ◌++◌, length, set, refl, sym, ap, ◌∙◌, subst, inl, inr, ⊎_elim, arith, length-set}
use Rattle.std.specs.Prelude.{All}
use Rattle.std.proofs.lemmas.List.Elements.{All-nil}
use Rattle.std.proofs.lemmas.List.{append_assoc, append-nil}
use Rattle.verdict_words.specs.Histories.{IsPrefix, own}
use mathlib.Core.Logic.{dite}
use native.Mathlib.Decide.{ℕ_discrete}
use mathlib.Core.Option.{some, none}
use lib.ListN.{get_elem?}
use Rattle.atomic_table.specs.Table.{State, step, keeps, Allows, Splits, Joins}
use Rattle.atomic_table.proofs.Lists.{at_set, set_here, set_else, at_longer, at_last}
use Rattle.verdict_words.specs.Orders.{IsOrder, loads, trail_steps, told_of}
use Rattle.verdict_words.specs.declared.views.AtomicStep.{AtomicStep}
use Rattle.verdict_words.specs.Rule.{last_met, pass_steps, IsInOrder, IsBookInOrder, Apart, IsLoaded, PassOk, BookOk, WordsOk, ViewOk, HasPass, IsKept}
use Rattle.verdict_words.specs.Inner.Steps.{new_pass, met_pass, checked}
use Rattle.verdict_words.specs.Settling.{without}
use Rattle.verdict_words.proofs.Ordering.{put, put_here, put_else, at_rest, trail_steps_snoc, order_next, none_of_next, all_map, order_grows, in_order_waits}
use Rattle.verdict_words.specs.declared.views.Loading.TheVariants.{Nothing}
use Rattle.verdict_words.specs.declared.places.Held.{Held}
use Rattle.verdict_words.specs.declared.views.Origin.{Origin}
use Rattle.verdict_words.specs.declared.views.Item.TheVariants.{Met}
use Rattle.verdict_words.specs.declared.views.PassView.{PassView}
use Rattle.verdict_words.specs.declared.views.BookView.{BookView}
use Rattle.verdict_words.specs.declared.views.View.{View}
use Rattle.verdict_words.specs.declared.views.View.TheVariants.{Book, Pass, Spent}
use Rattle.verdict_words.proofs.Growing.{prefix_whole, each_none, all_of_without}
use Rattle.verdict_words.proofs.Kept.{words_loaded, apart, view_once, there_below, known_pass, other_holder, met_append, All-with, All-snoc, loaded_grows, each_set}
use Rattle.verdict_words.proofs.BookKept.{at_last_or_before, Known, known_book, view_moves, stays_else, book_step, seated_meets, seated_next, next_unused}

module _ {E H : Type 0} where
  abbrev first_session : PassView E H → List (PassView E H) → ℕ
  first_session d [] = d.session
  first_session d (p ∷ ps) = p.session

  abbrev rest_of : List (PassView E H) → List (PassView E H)
  rest_of [] = []
  rest_of (p ∷ ps) = ps

module _ {E H : Type 0} (session : E → ℕ) (right : List E → ℕ → Held → Type 0) (touches : List E → E → ℕ → Type 0) (o : Origin E H) where
  abbrev St : Type 0
  St = State (Unit {0}) (View E H)

  abbrev K : St → Type 0
  K = IsKept session right touches o

  abbrev P : BookView E H → PassView E H → Type 0
  P = PassOk session right touches o

  abbrev V : BookView E H → ℕ → (ℕ → ℕ) → List AtomicStep → ℕ → View E H → Type 0
  V = ViewOk session right touches o

  -- the pass is one of these
  abbrev IsIn : List (PassView E H) → PassView E H → Type 0
  IsIn held p = (before after : List (PassView E H)) × (held ≡ before ++ p ∷ after)

  -- a book that knows as much
  same_known : (order : List AtomicStep) (b c : BookView E H) → c.known ≡ b.known → IsBookInOrder order b → IsBookInOrder order c
  same_known order b c is ok = record {
    known = subst (λ l. IsPrefix l order) (sym is) ok.known;
    own_steps = ok.own_steps ∙ ap (λ (l : List AtomicStep). own (λ (step : AtomicStep). step.session) l 0) (sym is);
  }

  -- a meeting is no step of the session
  met_steps : (b : BookView E H) (p : PassView E H) → pass_steps (met_pass b p) ≡ trail_steps p.session p.trail
  met_steps b p = append-nil (trail_steps p.session (p.trail ++ Met (length b.history) ∷ [])) ∙ (trail_steps_snoc p.session p.trail (Met (length b.history)) ∙ append-nil (trail_steps p.session p.trail))

  -- a pass of another session stands behind the first
  behind_first : (p : PassView E H) (ps : List (PassView E H)) (q : PassView E H) → q.session ≢ p.session → IsIn (p ∷ ps) q → IsIn ps q
  behind_first p ps q ne ([], after, e) = absurd (ne (sym (ap (first_session p) e)))
  behind_first p ps q ne (x ∷ before, after, e) = (before, after, ap rest_of e)

  -- The book makes a pass, or gives one back: c is the book afterwards, and q the pass
  gives : (s : St) (id : ℕ) (b c : BookView E H) (q : PassView E H) (k : Known session right touches o id b s) → get_elem? s.views id ≡ some (Book b) → BookOk session o c → WordsOk right touches c s.words
      → IsOrder (length o.opening) o.first c.next k.order s.words → c.known ≡ b.known → IsInOrder k.order q
      → ((p : PassView E H) (j : ℕ) → j ≢ id → k.holder p.session ≡ j → P b p → (p.session ≢ q.session) × P c p)
      → P c q → All (λ p. (p.session ≢ q.session) × (p.loading ≡ Nothing) × V c id k.holder k.order id (Pass p)) c.held → Apart c.held
      → ((n : ℕ) → n ≢ q.session → n < c.next → n < b.next) → ((p : PassView E H) → p.session ≢ q.session → IsIn b.held p → IsIn c.held p)
      → K record { words = s.words; homes = s.homes; views = set s.views id (Book c) ++ Pass q ∷ [] }
  gives s id b c q k at ok words_ok order_ok knows in_order move new held alone low_next keep_held =
      let holder : ℕ → ℕ = put k.holder q.session (length s.views) in
      let others : (j : ℕ) (v : View E H) → get_elem? (set s.views id (Book c)) j ≡ some v → V c id holder k.order j v =
      each_set (V c id holder k.order) s.views id (Book c) (refl, refl)
      (λ j v ne e. view_moves session right touches o b c id j k.holder holder k.order k.order v ne
      (λ p _ h u w. let m = move p j ne h w in (put_else k.holder q.session (length s.views) p.session m.0 ∙ h, u, m.1)) (k.views_ok j v e)) in
      record {
        seat = id;
        book = c;
        holder = holder;
        order = k.order;
        place = at_longer (set s.views id (Book c)) (Pass q ∷ []) id (Book c) (set_here s.views id (Book c) (there_below s.views id (Book b) at));
        book_ok = ok;
        words_ok = words_ok;
        order_ok = order_ok;
        book_in = same_known k.order b c knows k.book_in;
        views_ok = λ j v e. ⊎_elim (λ (t : get_elem? (set s.views id (Book c)) j ≡ some v). others j v t)
            (λ (t : (j ≡ length (set s.views id (Book c))) × (Pass q ≡ v)). subst (V c id holder k.order j) t.1
            (put_here k.holder q.session (length s.views) ∙ (sym (length-set s.views id (Book c)) ∙ sym t.0), in_order, new))
            (at_last_or_before (set s.views id (Book c)) (Pass q) v j e);
        held_ok = All-with (λ p. (p.session ≢ q.session) × (p.loading ≡ Nothing) × V c id k.holder k.order id (Pass p)) (λ p. (p.loading ≡ Nothing) × V c id holder k.order id (Pass p)) c.held
            (λ p h. (h.1, (put_else k.holder q.session (length s.views) p.session h.0 ∙ h.2.0, h.2.1, h.2.2))) held;
        apart = alone;
        present = λ n low high. dite (ℕ_discrete n q.session)
            (λ e. (q, sym e, inl (ap (λ j. get_elem? (set s.views id (Book c) ++ Pass q ∷ []) j) (ap holder e ∙ put_here k.holder q.session (length s.views)) ∙ at_last (set s.views id (Book c)) (Pass q) (length s.views) (length-set s.views id (Book c)))))
            (λ ne. subst (λ j. HasPass (set s.views id (Book c) ++ Pass q ∷ []) c.held j n) (sym (put_else k.holder q.session (length s.views) n ne))
            (goes_on (k.holder n) n ne (stays_else session right touches o s.views b.held (k.holder n) n id b c at (k.present n low (low_next n ne high)))));
      }
    where
      goes_on : (j n : ℕ) → n ≢ q.session → HasPass (set s.views id (Book c)) b.held j n → HasPass (set s.views id (Book c) ++ Pass q ∷ []) c.held j n
      goes_on j n ne (r, is, inl there) = (r, is, inl (at_longer (set s.views id (Book c)) (Pass q ∷ []) j (Pass r) there))
      goes_on j n ne (r, is, inr in_held) = (r, is, inr (keep_held r (λ e. ne (sym is ∙ e)) in_held))

  -- a pass is made
  pub admits : (id : ℕ) (b : BookView E H) → Splits K id (Book b) (Book (record b { next = b.next + 1 })) (Pass (new_pass b))
  admits id b s k at =
      let known = known_book session right touches o s k id b at in
      let u = known.book_ok in
      let c : BookView E H = record b { next = b.next + 1 } in
      let more : (p : PassView E H) → P b p → P c p = λ p v. record { same = v.same; begins = v.begins; seen = v.seen; above = v.above; below = let l = v.below in omega arith; met = v.met; own = v.own; trail = v.trail; loading = v.loading } in
      gives s id b c (new_pass b) known at record { same = u.same; short = u.short; seated = seated_next session o b.history b.next b.turn u.seated }
      (let w = known.words_ok in record { wide = w.wide; count = w.count; slots = w.slots; regions = λ r lt. let x = w.regions r lt in record { still = x.still; least = x.least; raised = x.raised; else = x.else; set = x.set } })
      (order_next (length o.opening) o.first b.next known.order s.words known.order_ok) refl
      record { known = known.book_in.known; own_steps = none_of_next (length o.opening) o.first b.next known.order s.words (let one = u.seated.counted in let low = u.seated.order in omega arith) known.order_ok }
      (λ p j ne h v. ((λ e. let l = v.below in absurd (omega arith)), more p v))
      record {
        same = u.same;
        begins = u.seated.begins;
        seen = prefix_whole b.history;
        above = u.seated.order;
        below = omega arith;
        met = omega arith;
        own = λ _. next_unused session o b.history b.next b.turn u.seated;
        trail = All-nil (IsLoaded right touches b.history);
        loading = tt;
      }
      (All-with (λ p. (p.loading ≡ Nothing) × V b id known.holder known.order id (Pass p)) (λ p. (p.session ≢ b.next) × (p.loading ≡ Nothing) × V c id known.holder known.order id (Pass p)) b.held
      (λ p h. ((λ q. let l = h.1.2.below in absurd (omega arith)), h.0, (h.1.0, h.1.1, more p h.1.2))) known.held_ok)
      known.apart
      (λ n ne high. omega (arith, ne))
      (λ p _ in_held. in_held)

  -- one pass more, of a session of its own
  apart_snoc : (ps : List (PassView E H)) (p : PassView E H) → Apart ps → All (λ q. q.session ≢ p.session) ps → Apart (ps ++ p ∷ [])
  apart_snoc [] p each new = (All-nil (λ q. q.session ≢ p.session), tt)
  apart_snoc (x ∷ xs) p each new = (
    All-snoc (λ q. q.session ≢ x.session) xs p each.0 (λ e. new 0 x (omega arith) (sym e)),
    apart_snoc xs p each.1 (λ k d lt. new (suc k) d (omega arith)),
  )

  -- what a pass knows goes to another seat
  pub yields : (id : ℕ) (p : PassView E H) → Splits K id (Pass p) Spent (Pass p)
  yields id p s k at =
      let mine = known_pass session right touches o s k id p at in
      let seat_apart : k.seat ≢ id = λ e. apart (get_elem? s.views k.seat) k.book p k.place (ap (get_elem? s.views) e ∙ at) in
      let holder : ℕ → ℕ = put k.holder p.session (length s.views) in
      let w : List (View E H) = set s.views id Spent in
      let others : (j : ℕ) (v : View E H) → get_elem? w j ≡ some v → V k.book k.seat holder k.order j v =
      each_set (V k.book k.seat holder k.order) s.views id Spent tt
      (λ j v ne e. other_holder session right touches o k.book k.seat k.holder k.order p.session (length s.views) j v (λ z. ne (z ∙ mine.0)) (k.views_ok j v e)) in record {
        seat = k.seat;
        book = k.book;
        holder = holder;
        order = k.order;
        place = at_longer w (Pass p ∷ []) k.seat (Book k.book) (set_else s.views id k.seat Spent seat_apart ∙ k.place);
        book_ok = k.book_ok;
        words_ok = k.words_ok;
        order_ok = k.order_ok;
        book_in = k.book_in;
        views_ok = λ j v e. ⊎_elim (λ (t : get_elem? w j ≡ some v). others j v t)
            (λ (t : (j ≡ length w) × (Pass p ≡ v)). subst (V k.book k.seat holder k.order j) t.1
            (put_here k.holder p.session (length s.views) ∙ (sym (length-set s.views id Spent) ∙ sym t.0), mine.1, mine.2))
            (at_last_or_before w (Pass p) v j e);
        held_ok = All-with (λ q. (q.loading ≡ Nothing) × V k.book k.seat k.holder k.order k.seat (Pass q)) (λ q. (q.loading ≡ Nothing) × V k.book k.seat holder k.order k.seat (Pass q)) k.book.held
            (λ q u. (u.0, other_holder session right touches o k.book k.seat k.holder k.order p.session (length s.views) k.seat (Pass q) (λ z. seat_apart (z ∙ mine.0)) u.1)) k.held_ok;
        apart = k.apart;
        present = λ n low high. dite (ℕ_discrete n p.session)
            (λ e. (p, sym e, inl (ap (λ j. get_elem? (w ++ Pass p ∷ []) j) (ap holder e ∙ put_here k.holder p.session (length s.views)) ∙ at_last w (Pass p) (length s.views) (length-set s.views id Spent))))
            (λ ne. subst (λ j. HasPass (w ++ Pass p ∷ []) k.book.held j n) (sym (put_else k.holder p.session (length s.views) n ne)) (past s.views k.book.held (k.holder n) n id p at ne (k.present n low high)));
      }
    where
      past : (views : List (View E H)) (held : List (PassView E H)) (j n id : ℕ) (p : PassView E H) → get_elem? views id ≡ some (Pass p) → n ≢ p.session → HasPass views held j n → HasPass (set views id Spent ++ Pass p ∷ []) held j n
      past views held j n id p at ne (r, is, inr in_held) = (r, is, inr in_held)
      past views held j n id p at ne (r, is, inl there) =
          let other : j ≢ id = λ e. ne (sym is ∙ sym (ap (λ (z : PassView E H). z.session) (view_once p r (sym at ∙ (ap (get_elem? views) (sym e) ∙ there))))) in
          (r, is, inl (at_longer (set views id Spent) (Pass p ∷ []) j (Pass r) (set_else views id j Spent other ∙ there)))

  -- a pass is taken in
  pub receives : (id other : ℕ) (b : BookView E H) (p : PassView E H) → p.loading ≡ Nothing → Joins K id (Book b) other (Pass p) (Book (record b { turn = p.session; held = b.held ++ p ∷ [] })) Spent
  receives id other b p rests s k at ne there =
      let known = known_book session right touches o s k id b at in
      let u = known.book_ok in
      let c : BookView E H = record b { turn = p.session; held = b.held ++ p ∷ [] } in
      let w : List (View E H) = set s.views id (Book c) in
      let mine : get_elem? s.views other ≡ some (Pass p) = sym (set_else s.views id other (Book c) ne) ∙ there in
      let was = known.views_ok other (Pass p) mine in
      let same_pass : (q : PassView E H) → P b q → P c q = λ q v. record { same = v.same; begins = v.begins; seen = v.seen; above = v.above; below = v.below; met = v.met; own = v.own; trail = v.trail; loading = v.loading } in
      let holder : ℕ → ℕ = put known.holder p.session id in
      let held_apart : All (λ q. q.session ≢ p.session) b.held = All-with (λ q. (q.loading ≡ Nothing) × V b id known.holder known.order id (Pass q)) (λ q. q.session ≢ p.session) b.held
      (λ q h e. ne (sym was.0 ∙ (ap known.holder (sym e) ∙ h.1.0))) known.held_ok in record {
        seat = id;
        book = c;
        holder = holder;
        order = known.order;
        place = set_else w other id Spent (λ e. ne (sym e)) ∙ set_here s.views id (Book c) (there_below s.views id (Book b) at);
        book_ok = record { same = u.same; short = u.short; seated = seated_meets session o b.history b.next b.turn p.session u.seated was.2.above was.2.below };
        words_ok = let x = known.words_ok in record { wide = x.wide; count = x.count; slots = x.slots; regions = λ r lt. let y = x.regions r lt in record { still = y.still; least = y.least; raised = y.raised; else = y.else; set = y.set } };
        order_ok = known.order_ok;
        book_in = same_known known.order b c refl known.book_in;
        views_ok = each_set (V c id holder known.order) w other Spent tt (λ j v apart e. each_set_but id other c s.views (V c id holder known.order) (refl, refl)
            (λ i x ne_id ne_other f. view_moves session right touches o b c id i known.holder holder known.order known.order x ne_id
            (λ q _ h u y. (put_else known.holder p.session id q.session (λ z. ne_other (sym h ∙ (ap known.holder z ∙ was.0))) ∙ h, u, same_pass q y)) (known.views_ok i x f)) j v apart e);
        held_ok = All-snoc (λ q. (q.loading ≡ Nothing) × V c id holder known.order id (Pass q)) b.held p
            (λ j d lt. let h = known.held_ok j d lt in (h.0, (put_else known.holder p.session id _ (held_apart j d lt) ∙ h.1.0, h.1.1, same_pass _ h.1.2)))
            (rests, (put_here known.holder p.session id, was.1, same_pass p was.2));
        apart = apart_snoc b.held p known.apart held_apart;
        present = λ n low high. dite (ℕ_discrete n p.session)
            (λ e. (p, sym e, inr (b.held, [], refl)))
            (λ ne. subst (λ j. HasPass (set w other Spent) c.held j n) (sym (put_else known.holder p.session id n ne))
            (left s.views (known.holder n) n id other b c p at mine ne (stays_else session right touches o s.views b.held (known.holder n) n id b c at (known.present n low high))));
      }
    where
      book_there : (views : List (View E H)) (j id : ℕ) (b c : BookView E H) (r : PassView E H) → get_elem? views id ≡ some (Book b) → j ≡ id → get_elem? (set views id (Book c)) j ≡ some (Pass r) → ⊥
      book_there views j id b c r at e there = apart (get_elem? (set views id (Book c)) j) c r (ap (get_elem? (set views id (Book c))) e ∙ set_here views id (Book c) (there_below views id (Book b) at)) there

      left : (views : List (View E H)) (j n id other : ℕ) (b c : BookView E H) (p : PassView E H) → get_elem? views id ≡ some (Book b) → get_elem? views other ≡ some (Pass p) → n ≢ p.session → HasPass (set views id (Book c)) b.held j n
          → HasPass (set (set views id (Book c)) other Spent) (b.held ++ p ∷ []) j n
      left views j n id other b c p at mine ne (r, is, inr in_held) = (r, is, inr (in_held.0, in_held.1 ++ p ∷ [], ap (λ l. l ++ p ∷ []) in_held.2 ∙ append_assoc in_held.0 (r ∷ in_held.1) (p ∷ [])))
      left views j n id other b c p at mine ne (r, is, inl there) = dite (ℕ_discrete j id)
          (λ e. absurd (book_there views j id b c r at e there))
          (λ far. let apart : j ≢ other = λ e. ne (sym is ∙ sym (ap (λ (z : PassView E H). z.session) (view_once p r (sym mine ∙ (ap (get_elem? views) (sym e) ∙ (sym (set_else views id j (Book c) far) ∙ there)))))) in
          (r, is, inl (set_else (set views id (Book c)) other j Spent apart ∙ there)))

      each_set_but : (id other : ℕ) (c : BookView E H) (vs : List (View E H)) (F : ℕ → View E H → Type 0) → F id (Book c) → ((j : ℕ) (v : View E H) → j ≢ id → j ≢ other → get_elem? vs j ≡ some v → F j v)
          → (j : ℕ) (v : View E H) → j ≢ other → get_elem? (set vs id (Book c)) j ≡ some v → F j v
      each_set_but id other c vs F here else j v apart e = ⊎_elim (λ (t : (j ≡ id) × (Book c ≡ v)). subst (λ (x : ℕ × View E H). F x.0 x.1) (λ i. (sym t.0 i, t.1 i)) here)
          (λ (t : (j ≢ id) × (get_elem? vs j ≡ some v)). else j v t.0 apart t.1) (at_set vs id j (Book c) v e)

  -- the first of the passes that are held is given back
  pub returns : (id : ℕ) (b : BookView E H) (p : PassView E H) (ps : List (PassView E H)) → b.held ≡ p ∷ ps → Splits K id (Book b) (Book (record b { lag = without p.session b.lag; held = ps })) (Pass (met_pass b p))
  returns id b p ps holds s k at =
      let known = known_book session right touches o s k id b at in
      let u = known.book_ok in
      let held : All (λ q. (q.loading ≡ Nothing) × V b id known.holder known.order id (Pass q)) (p ∷ ps) = subst (All (λ q. (q.loading ≡ Nothing) × V b id known.holder known.order id (Pass q))) holds known.held_ok in
      let alone : Apart (p ∷ ps) = subst Apart holds known.apart in
      let first : (p.loading ≡ Nothing) × V b id known.holder known.order id (Pass p) = held 0 p (omega arith) in
      let mine : V b id known.holder known.order id (Pass p) = first.1 in
      let c : BookView E H = record b { lag = without p.session b.lag; held = ps } in
      let met : last_met (p.trail ++ Met (length b.history) ∷ []) ≡ length b.history = met_append 0 p.trail (Met (length b.history) ∷ []) in
      let keeps_ok : (q : PassView E H) → q.session ≢ p.session → P b q → P c q = λ q other v. record {
        same = v.same;
        begins = v.begins;
        seen = v.seen;
        above = v.above;
        below = v.below;
        met = v.met;
        own = λ out. v.own (all_of_without p.session q.session b.lag (λ e. other (sym e)) out);
        trail = v.trail;
        loading = v.loading;
      } in
      gives s id b c (met_pass b p) known at record { same = u.same; short = u.short; seated = u.seated }
      (let w = known.words_ok in record { wide = w.wide; count = w.count; slots = w.slots; regions = λ r lt. let x = w.regions r lt in record { still = x.still; least = x.least; raised = x.raised; else = x.else; set = x.set } })
      known.order_ok refl record { known = known.book_in.known; own_steps = mine.1.own_steps ∙ (at_rest p first.0 ∙ sym (met_steps b p)) }
      (λ q j ne h v. let other : q.session ≢ p.session = λ e. ne (sym h ∙ (ap known.holder e ∙ mine.0)) in (other, keeps_ok q other v))
      record {
        same = mine.2.same;
        begins = u.seated.begins;
        seen = prefix_whole b.history;
        above = mine.2.above;
        below = mine.2.below;
        met = omega (arith, met);
        own = λ _. each_none (λ before e. session e ≢ p.session) (last_met (p.trail ++ Met (length b.history) ∷ [])) b.history (omega (arith, met));
        trail = All-snoc (IsLoaded right touches b.history) p.trail (Met (length b.history)) (All-with (IsLoaded right touches p.seen) (IsLoaded right touches b.history) p.trail (loaded_grows right touches p.seen b.history mine.2.seen) mine.2.trail) tt;
        loading = tt;
      }
      (λ j d lt. let h = held (suc j) d (omega arith) in let other = alone.0 j d lt in (other, h.0, (h.1.0, h.1.1, keeps_ok _ other h.1.2)))
      alone.1
      (λ n ne high. high)
      (λ q ne in_held. behind_first p ps q ne (subst (λ l. IsIn l q) holds in_held))

module _ {E H : Type 0} (session : E → ℕ) (right : H → List E → ℕ → Held → Type 0) (touches : H → List E → E → ℕ → Type 0) (o : Origin E H) where
  -- a load of the count that tells the book of the passes that it holds
  pub checks : (id : ℕ) (b : BookView E H) → Allows (IsKept session (right o.setting) (touches o.setting) o) 0 id (Book b, []) 0 (λ n. n) (checked session right touches (step 0 0 0 0 none) (Book b, []))
  checks id b s k sized at fits =
      let known = known_book session (right o.setting) (touches o.setting) o s k id b at in
      let same : o ≡ b.origin = sym known.book_ok.same in
      let n : ℕ = get_or s.words 0 0 in
      let count : n ≡ length b.history = known.words_ok.count in
      let x : AtomicStep = loads 0 0 n in
      let order : List AtomicStep = known.order ++ x ∷ [] in
      let c : BookView E H = record b { known = order } in
      let words : List ℕ = set s.words 0 n in
      let moved : (p : PassView E H) → PassOk session (right o.setting) (touches o.setting) o b p → PassOk session (right o.setting) (touches o.setting) o c p =
      λ p v. record { same = v.same; begins = v.begins; seen = v.seen; above = v.above; below = v.below; met = v.met; own = v.own; trail = v.trail; loading = v.loading } in
      let words_ok : WordsOk (right o.setting) (touches o.setting) c words = let w = words_loaded session (right o.setting) (touches o.setting) o b s.words 0 known.words_ok in
      record { wide = w.wide; count = w.count; slots = w.slots; regions = λ r lt. let y = w.regions r lt in record { still = y.still; least = y.least; raised = y.raised; else = y.else; set = y.set } } in
      let grown : IsOrder (length o.opening) o.first b.next order words = order_grows (length o.opening) o.first b.next known.order s.words x refl (omega arith) (inl refl) known.order_ok in
      let Held : PassView E H → Type 0 = λ p. (p.loading ≡ Nothing) × ViewOk session (right o.setting) (touches o.setting) o b id known.holder known.order id (Pass p) in (
        Book c,
        keeps,
        tt,
        book_step session (right o.setting) (touches o.setting) o s id b c x known at refl refl (omega arith) (let u = known.book_ok in record { same = u.same; short = u.short; seated = u.seated }) words_ok moved refl refl refl,
        (
          (refl, refl, refl),
          (
            order,
            refl,
            subst (λ (z : Origin E H). All (PassOk session (right z.setting) (touches z.setting) z b) b.held) same (All-with Held (PassOk session (right o.setting) (touches o.setting) o b) b.held (λ p h. h.1.2) known.held_ok),
            (known.order, known.book_in.known, all_map (λ l. IsPrefix l known.order) (λ (p : PassView E H). p.known) b.held (All-with Held (λ p. IsPrefix p.known known.order) b.held (λ p h. h.1.1.known) known.held_ok), (λ j. known.order ++ loads 0 0 (count j) ∷ [])),
            (words, subst (λ (z : Origin E H). IsOrder (length z.opening) z.first b.next order words) same grown),
            All-with Held (λ p. told_of order p.session ≡ pass_steps p) b.held
                (λ p h. (in_order_waits known.order x p (λ e. let low = h.1.2.above in let one = known.book_ok.seated.counted in absurd (omega arith)) h.1.1).own_steps) known.held_ok,
          ),
        ),
      )
