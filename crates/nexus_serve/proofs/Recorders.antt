-- Shares of a recorder.
use Rattle.std.proofs.Common.{◌≡◌, ◌<◌, ◌+◌, ◌++◌, ◌∷◌, [], ℕ, zero, suc, List, Option, true, false, length, replicate, sym, ap, ◌∙◌, subst, arith, append_assoc, length-append, slice_set}
use Rattle.std.proofs.lemmas.List.{append-nil, length-map, length-replicate, map-append, replicate-append-replicate}
use Rattle.std.proofs.lemmas.List.Elements.{All-map}
use Rattle.std.proofs.Math.Seq.{set-append_seam}
use Rattle.std.specs.Prelude.{All, map}
use Rattle.nx_io.specs.Streams.{one_more}
use Rattle.session_core.specs.Records.{Kept, unwanted}
use Rattle.nexus_serve.specs.declared.means.Means.{Means}
use Rattle.nx_io.specs.Views.{RecorderView}
use Rattle.nexus_serve.specs.Hosting.{HaveShares, asked_more, kept_first, kept_of}
use Rattle.nexus_serve.proofs.Lists.{all_unmap}

-- a share more in the first place where there is none
pub one_lent : (first : Kept) (kept : List Kept) (n others : ℕ) → kept ≡ replicate n first ++ replicate others unwanted → n < length kept
    → (rest : ℕ) × (slice_set kept n first ≡ replicate (n + 1) first ++ replicate rest unwanted)
one_lent first kept n zero is within =
    let long = ap length is ∙ length-append (replicate n first) [] in
    let count = length-replicate n first in
    absurd (omega (arith, long, count, within))
one_lent first kept n (suc rest) is within = (
  rest,
  ap (λ l. slice_set l n first) is
      ∙ ap (λ i. slice_set (replicate n first ++ unwanted ∷ replicate rest unwanted) i first) (sym (length-replicate n first))
      ∙ set-append_seam (replicate n first) unwanted (replicate rest unwanted) first
      ∙ sym (append_assoc (replicate n first) (first ∷ []) (replicate rest unwanted))
      ∙ ap (λ l. l ++ replicate rest unwanted) (replicate-append-replicate n 1 first),
)

-- a keeper over a share that was sent nothing and has not failed yet
pub over_share : (kept : Kept) (sent : List ℕ) (faults : ℕ) → kept ≡ record { wanted = true; sent = sent; faults = faults; broken = false } → sent ≡ [] → faults ≡ 0
    → kept ≡ record { wanted = true; sent = []; faults = 0; broken = false }
over_share kept sent faults is no_bytes no_faults = is ∙ (λ i. record { wanted = true; sent = no_bytes i; faults = no_faults i; broken = false })

-- a recorder that made one share more
pub asked_once : (old before now : RecorderView) (n : ℕ) → before ≡ record old { shares = asked_more n old.shares } → now.sent ≡ before.sent → now.synced ≡ before.synced → now.faults ≡ before.faults → now.shares ≡ one_more before.shares
    → now ≡ record old { shares = asked_more (n + 1) old.shares }
asked_once old before now n is sent synced faults shares =
    (λ i. record { sent = sent i; synced = synced i; faults = faults i; shares = shares i }) ∙ ap (λ (r : RecorderView). record r { shares = one_more r.shares }) is
    ∙ ap (λ k. record old { shares = asked_more k old.shares }) (let next : suc n ≡ n + 1 = omega arith in next)

-- where as many have one as there are, all have
pub all_lent : {P C : Type 0} (n : ℕ) (recorder : Option RecorderView) (means : List (Means P C)) → length means ≡ n → HaveShares n recorder (kept_of means) → kept_of means ≡ replicate n (kept_first recorder)
all_lent {P} {C} n recorder means count (others, is) =
    let first = kept_first recorder in
    let mapped : length (kept_of means) ≡ length means = length-map means (λ (own : Means P C). own.records) in
    let long = ap length is ∙ length-append (replicate n first) (replicate others unwanted) in
    let here = length-replicate n first in
    let there = length-replicate others unwanted in
    let none : others ≡ 0 = omega (arith, count, mapped, long, here, there) in
    is ∙ ap (λ k. replicate n first ++ replicate k unwanted) none ∙ append-nil (replicate n first)

-- nobody has one yet
pub none_lent : (recorder : Option RecorderView) (kept : List Kept) (n : ℕ) → kept ≡ replicate n unwanted → HaveShares 0 recorder kept
none_lent recorder kept n is = (n, is)

-- nobody keeps records in the means of one worker more
pub nobody_more : {P C : Type 0} (before now : List (Means P C)) (own : Means P C) (n : ℕ) → kept_of before ≡ replicate n unwanted → own.records ≡ unwanted → now ≡ before ++ own ∷ [] → kept_of now ≡ replicate (n + 1) unwanted
nobody_more {P} {C} before now own n nobody is items =
    ap kept_of items ∙ map-append (λ (one : Means P C). one.records) before (own ∷ []) ∙ (λ i. nobody i ++ is i ∷ []) ∙ replicate-append-replicate n 1 unwanted

module _ {P C : Type 0} (before now : List (Means P C)) (same : map (λ (own : Means P C). own.panel) now ≡ map (λ (own : Means P C). own.panel) before) where
  -- where the panels are the same there are as many
  pub as_many : length now ≡ length before
  as_many = sym (length-map now (λ (own : Means P C). own.panel)) ∙ ap length same ∙ length-map before (λ (own : Means P C). own.panel)

  -- and what holds of each panel holds still
  pub panels_stay : (Q : P → Type 0) → All (λ (own : Means P C). Q own.panel) before → All (λ (own : Means P C). Q own.panel) now
  panels_stay Q all =
      all_unmap Q (λ (own : Means P C). own.panel) now (subst (All Q) (sym same) (All-map Q (λ (own : Means P C). own.panel) before all))
