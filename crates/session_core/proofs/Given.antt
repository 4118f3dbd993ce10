-- The answers that authorities gave to a call are those with which its record is right.
use Rattle.std.proofs.Common.{◌≡◌, ◌-◌, ℕ, zero, suc, List, [], ◌∷◌, ◌++◌, length, map, filter, take, Bool, true, false, cond, refl, sym, ap, subst, ◌∙◌, arith}
use Rattle.std.specs.Prelude.{replicate}
use Rattle.std.proofs.lemmas.List.{append-nil, length-map}
use Rattle.nal_term.specs.Trees.{TermTree, FormulaTree, says}
use Rattle.proof_lines.specs.Lines.{LineTree}
use Rattle.nal_rules.specs.Asking.{Asked, ask_first, lines_of}
use Rattle.nal_rules.specs.Faults.{IsSays, is_ask}
use Rattle.nal_rules.specs.Verdicts.{CaseTree}
use Rattle.nal_rules.specs.declared.verdicts.Verdict.{Verdict}
use Rattle.authority_ask.specs.Panels.{Told as Ask}
use Rattle.authority_ask.specs.declared.panels.Ask.TheVariants.{Yes, No, Down as DownAnswer}
use Rattle.guard_core.specs.declared.findings.Finding.{Finding}
use Rattle.guard_core.specs.declared.findings.GuardError.TheVariants.{Down as DownError}
use Rattle.guard_core.specs.Judging.{IsBrokenOff, IsJudged, all_asked, answers_in, told_of, verdict_of}
use Rattle.audit_check.specs.declared.records.Answers.TheVariants.{Known, Unknown}
use Rattle.audit_check.specs.Records.{IsDown, IsTold, IsToldWith, yes_before}
use Rattle.audit_check.proofs.AskLines.{AllSay}
use Rattle.audit_check.proofs.Opened.{all_say}
use Rattle.session_core.specs.Records.{given_first, given_in}

-- ---- A verdict of the guard

given_told : (asks : List Asked) → given_in (map told_of asks) ≡ answers_in (map told_of asks)
given_told [] = refl
given_told (a ∷ asks) = of a.affirmed (given_told asks)
  where
    of : (b : Bool) → given_in (map told_of asks) ≡ answers_in (map told_of asks)
        → given_first (cond b Yes No) (given_in (map told_of asks)) ≡ Rattle.guard_core.specs.Judging.is_yes (cond b Yes No) ∷ answers_in (map told_of asks)
    of true e = ap (λ (bs : List Bool). true ∷ bs) e
    of false e = ap (λ (bs : List Bool). false ∷ bs) e

pub judged : (c : CaseTree) (told : List Ask) (finding : Finding) → IsJudged c told finding → IsToldWith c (given_in told) (verdict_of finding)
judged c told finding j =
    let same : answers_in told ≡ given_in told = ap answers_in j.told_is ∙ sym (given_told j.asks) ∙ ap given_in (sym j.told_is) in
    let long : length j.asks ≡ length (answers_in told) =
    sym (length-map j.asks told_of) ∙ ap length (sym j.told_is) ∙ sym (length-map told (λ (t : Ask). Rattle.guard_core.specs.Judging.is_yes t.answer)) in
    subst (λ (bs : List Bool). IsToldWith c bs (verdict_of finding)) same (record { asks = j.asks; asked = j.asked; all = long; told = j.verdict })

-- ---- An authority that was down

say_later : (x : LineTree) (ls : List LineTree) → AllSay (x ∷ ls) → AllSay ls
say_later x ls say = record { each = λ i l at asks. say.each (suc i) l at asks }

yes_first : (bound : List (TermTree × ℕ)) (f : FormulaTree) (later : List Asked) → IsSays f → given_in (map told_of (ask_first bound f true later)) ≡ true ∷ given_in (map told_of later)
yes_first bound (says p s) later say = refl
yes_first bound _ later say = absurd (cc say.2)

yes_asked : (bound : List (TermTree × ℕ)) (ls : List LineTree) (i : ℕ) → AllSay ls → given_in (map told_of (all_asked bound (filter is_ask (take i ls)))) ≡ replicate (length (filter is_ask (take i ls))) true
yes_asked bound [] zero say = refl
yes_asked bound [] (suc i) say = refl
yes_asked bound (x ∷ ls) zero say = refl
yes_asked bound (x ∷ ls) (suc i) say = of (is_ask x) refl (yes_asked bound ls i (say_later x ls say))
  where
    of : (b : Bool) → is_ask x ≡ b → given_in (map told_of (all_asked bound (filter is_ask (take i ls)))) ≡ replicate (length (filter is_ask (take i ls))) true
        → given_in (map told_of (all_asked bound (filter is_ask (x ∷ take i ls)))) ≡ replicate (length (filter is_ask (x ∷ take i ls))) true
    of true e rest = rw e (yes_first bound x.formula (all_asked bound (filter is_ask (take i ls))) (say.each 0 x refl e) ∙ ap (λ (bs : List Bool). true ∷ bs) rest)
    of false e rest = rw e rest

given_more : (xs ys : List Ask) → given_in (xs ++ ys) ≡ given_in xs ++ given_in ys
given_more [] ys = refl
given_more (a ∷ xs) ys = of a.answer (given_more xs ys)
  where
    of : (x : Rattle.authority_ask.specs.declared.panels.Ask.Ask) → given_in (xs ++ ys) ≡ given_in xs ++ given_in ys → given_first x (given_in (xs ++ ys)) ≡ given_first x (given_in xs) ++ given_in ys
    of Yes e = ap (λ (cs : List Bool). true ∷ cs) e
    of No e = ap (λ (cs : List Bool). false ∷ cs) e
    of _ e = e

module _ (c : CaseTree) (told : List Ask) (k : ℕ) (broken : IsBrokenOff c told (DownError k)) where
  down_given : given_in told ≡ yes_before (lines_of c) k
  down_given = of k broken.1
    where
      of : (j : ℕ) → Rattle.guard_core.specs.Judging.IsStoppedAt (lines_of c) c.bound j DownAnswer told → given_in told ≡ yes_before (lines_of c) j
      of zero stopped = absurd (cc stopped.stands)
      of (suc i) stopped =
          let before : suc i - 1 ≡ i = omega arith in
          let xs : List Ask = map told_of (all_asked c.bound (filter is_ask (take i (lines_of c)))) in
          let last : Ask = record { port = stopped.port; statement = stopped.statement; answer = DownAnswer } in
          let told_is : told ≡ xs ++ last ∷ [] = rw before at stopped.told_is in
          ap given_in told_is ∙ given_more xs (last ∷ []) ∙ append-nil (given_in xs) ∙ yes_asked c.bound (lines_of c) i (all_say c broken.0)

  pub down_known : IsDown c (Known (given_in told)) k
  down_known = record { undecided = broken.0; ask_line = (broken.1.line, broken.1.stands, broken.1.is_ask_line); before = down_given }

  pub down_unknown : IsDown c Unknown k
  down_unknown = record { undecided = broken.0; ask_line = (broken.1.line, broken.1.stands, broken.1.is_ask_line); before = tt }

pub told_known : (c : CaseTree) (answers : List Bool) (verdict : Verdict) → IsToldWith c answers verdict → IsTold c (Known answers) verdict
told_known c answers verdict t = (answers, refl, t)

pub told_unknown : (c : CaseTree) (answers : List Bool) (verdict : Verdict) → IsToldWith c answers verdict → IsTold c Unknown verdict
told_unknown c answers verdict t = (answers, tt, t)
