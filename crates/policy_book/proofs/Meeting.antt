-- What a book learns of a pass, from what its seat does.
use Rattle.std.proofs.Common.{◌≡◌, ◌≢◌, ℕ, List, [], ◌∷◌, ◌++◌, length, refl, sym, ap, ◌∙◌, subst, append_assoc, length-append, arith}
use Rattle.std.specs.List.{All}
use Rattle.std.proofs.lemmas.List.{append-nil}
use Rattle.std.proofs.lemmas.List.Elements.{All-nil}
use Rattle.policy_history.specs.declared.events.Entry.{Entry}
use Rattle.policy_history.specs.declared.heads.Head.{Head}
use Rattle.verdict_words.specs.Histories.{IsPrefix}
use Rattle.verdict_words.specs.Orders.{Steps, publishes}
use Rattle.verdict_words.specs.declared.views.AtomicStep.{AtomicStep}
use Rattle.verdict_words.proofs.ForCallers.{gathers_grow, prefix_through}
use Rattle.verdict_words.specs.Settling.{AreGathered, IsMet, without, without_all}
use Rattle.verdict_words.specs.Values.{Identity, PassValue, SeatValue}
use Rattle.policy_book.specs.Books.{IsMetAt, session_of}
use Rattle.policy_book.specs.Inner.Adding.{IsPublished}

-- where nobody lags, nobody lags after passes were met
pub nobody_lags : (passes : List (PassValue Entry Head)) (lag : List ℕ) → lag ≡ [] → without_all passes lag ≡ []
nobody_lags [] lag none = none
nobody_lags (pass ∷ passes) lag none = nobody_lags passes (without pass.session lag) (subst (λ (xs : List ℕ). without pass.session xs ≡ []) (sym none) refl)

-- a pass that a seat meets, of which nobody lags
pub met_by_seat : (seat : SeatValue Entry Head) (pass : PassValue Entry Head) → seat.lag ≡ [] → IsMet session_of seat pass → IsMetAt seat.board seat.next seat.entries pass
met_by_seat seat pass lag met =
    let none : All (λ s. s ≢ pass.session) seat.lag = subst (λ (xs : List ℕ). All (λ s. s ≢ pass.session) xs) (sym lag) (All-nil (λ s. s ≢ pass.session)) in
    let own_is = met.own_entries none in
    record { seen = met.seen; above = met.above; below = met.below; own_seen = own_is.0; own_met = own_is.1 }

-- what a pass knew begins what is known once it was met
pub gathered_knows : (board : Identity Entry Head) (next : ℕ) (entries : List Entry) (before known : List AtomicStep) (pass : PassValue Entry Head) → AreGathered board next entries before (pass ∷ []) known → IsPrefix pass.known known
gathered_knows board next entries before known pass gathered = (gathers_grow before (pass.known ∷ []) (length entries) known gathered.behind).1 0 pass.known (omega arith)

nothing_more : (xs : List Entry) → length xs ≡ 0 → xs ≡ []
nothing_more [] none = refl
nothing_more (x ∷ xs) none = absurd (omega (arith, none))

-- what begins a history and is as long is the history
pub begins_whole : (seen entries : List Entry) → IsPrefix seen entries → length seen ≡ length entries → entries ≡ seen
begins_whole seen entries (more, is) long =
    let count : length more ≡ 0 = omega (arith, ap length is, length-append seen more, long) in
    is ∙ ap (λ (xs : List Entry). seen ++ xs) (nothing_more more count) ∙ append-nil seen

-- an entry that was published between two meetings
pub published_there : (known mine met raised published last : List AtomicStep) (count here : ℕ) → IsPrefix known met → IsPrefix mine met → IsPrefix met raised → Steps raised (publishes count ∷ []) published → IsPrefix published last → count ≡ here
    → IsPublished known mine here last
published_there known mine met raised published last count here of_book of_pass rose (before, behind, is) (more, whole) same =
    let there : IsPrefix met before = prefix_through met raised before rose behind in
    record {
      before = before;
      after = more;
      behind_book = prefix_through known met before of_book there;
      behind_pass = prefix_through mine met before of_pass there;
      is = whole ∙ ap (λ (l : List AtomicStep). l ++ more) is ∙ append_assoc before (publishes count ∷ []) more ∙ ap (λ (n : ℕ). before ++ publishes n ∷ more) same;
    }
