-- Laws of what the guard finds, which the proofs of other crates may cite.
use Rattle.std.proofs.Common.{◌≡◌, ◌+◌, ℕ, List, [], ◌∷◌, ◌++◌, map, Bool, true, false, cond, inl, inr, refl, ap, ◌∙◌, arith}
use Rattle.std.proofs.lemmas.List.Sums.{sum_by-cons}
use Rattle.nal_rules.specs.Asking.{Asked}
use Rattle.nal_rules.specs.Verdicts.{CaseTree}
use Rattle.authority_ask.specs.PanelCalls.{downs_in, is_down}
use Rattle.authority_ask.specs.Panels.{Told}
use Rattle.authority_ask.specs.declared.panels.Ask.TheVariants.{Yes, No}
use Rattle.authority_ask.proofs.ForCallers.{downs_append}
use Rattle.guard_core.specs.declared.findings.Finding.{Finding}
use Rattle.guard_core.specs.declared.findings.GuardError.TheVariants.{Down, Memory}
use Rattle.guard_core.specs.Judging.{IsBrokenOff, IsJudged, told_of}

abbrev one_if : Bool → ℕ
one_if b = cond b 1 0

-- one ask and more
downs_first : (t : Told) (ts : List Told) → downs_in (t ∷ ts) ≡ one_if (is_down t.answer) + downs_in ts
downs_first t ts = sum_by-cons (λ (t : Told). one_if (is_down t.answer)) t ts

-- no answer of Yes or No is Down
never_down : (affirmed : Bool) → is_down (cond affirmed Yes No) ≡ false
never_down true = refl
never_down false = refl

none_down : (asks : List Asked) → downs_in (map told_of asks) ≡ 0
none_down [] = refl
none_down (ask ∷ asks) =
    let first = downs_first (told_of ask) (map told_of asks) in
    let later = none_down asks in
    let here : one_if (is_down (cond ask.affirmed Yes No)) ≡ 0 = ap one_if (never_down ask.affirmed) in
    omega (arith, first, later, here)

-- one ask behind asks of which none was Down
last_down : (asks : List Asked) (last : Told) (told : List Told) → told ≡ map told_of asks ++ last ∷ [] → downs_in told ≡ one_if (is_down last.answer)
last_down asks last told e =
    let all : downs_in told ≡ downs_in (map told_of asks) + downs_in (last ∷ []) = ap downs_in e ∙ downs_append (map told_of asks) (last ∷ []) in
    let before = none_down asks in
    let here = downs_first last [] in
    omega (arith, all, before, here)

-- how many asks were answered Down: none where a case was judged
pub judged_downs : (c : CaseTree) (told : List Told) (finding : Finding) → IsJudged c told finding → downs_in told ≡ 0
judged_downs c told finding judged = ap downs_in judged.told_is ∙ none_down judged.asks

-- one where an authority was down
pub broken_downs : (c : CaseTree) (told : List Told) (k : ℕ) → IsBrokenOff c told (Down k) → downs_in told ≡ 1
broken_downs c told k broken = last_down _ _ told broken.1.told_is

-- none where memory was wanting
pub memory_downs : (c : CaseTree) (told : List Told) → IsBrokenOff c told Memory → downs_in told ≡ 0
memory_downs c told (inl none) = ap downs_in none
memory_downs c told (inr broken) = last_down _ _ told broken.2.told_is
