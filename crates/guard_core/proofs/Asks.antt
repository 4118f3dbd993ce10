-- What was asked, line by line.
use Rattle.std.proofs.Common.{◌≡◌, ◌<◌, ◌≤◌, ◌+◌, ◌-◌, ℕ, zero, suc, List, [], ◌∷◌, ◌++◌, length, map, filter, take, Bool, true, false, Some, refl, sym, ap, ◌∙◌, arith, length-append}
use Rattle.std.specs.List.{slice_get}
use Rattle.std.proofs.lemmas.List.{append-nil, map-append}
use Rattle.nal_term.specs.Trees.{TermTree, FormulaTree, says}
use Rattle.proof_lines.specs.declared.rules.Rule.{Rule}
use Rattle.proof_lines.specs.declared.rules.Rule.TheVariants.{Ask as AskRule}
use Rattle.proof_lines.specs.Lines.{LineTree}
use Rattle.nal_rules.specs.Asking.{Asked, ask_first, port_in}
use Rattle.nal_rules.specs.Faults.{is_ask, line_at}
use Rattle.nal_rules.specs.Verdicts.{IsAskOf}
use Rattle.authority_ask.specs.PanelCalls.{HasOnlyAsked, PanelHistory, asked_since}
use Rattle.authority_ask.specs.Panels.{Told}
use Rattle.authority_ask.proofs.ForCallers.{only_through, since_through}
use Rattle.authority_ask.specs.declared.panels.Ask.{Ask}
use Rattle.authority_ask.specs.declared.panels.Ask.TheVariants.{Yes}
use Rattle.guard_core.specs.Judging.{IsAskedAt, IsStoppedAt, all_asked, told_of}
use Rattle.guard_core.specs.Inner.Stages.{AreAskable}

-- ---- the lines that pass a test

filter_first : (passes : LineTree → Bool) (x : LineTree) (ls : List LineTree) → passes x ≡ true → filter passes (x ∷ ls) ≡ x ∷ filter passes ls
filter_first passes x ls q = rw q refl

filter_later : (passes : LineTree → Bool) (x : LineTree) (ls : List LineTree) → passes x ≡ false → filter passes (x ∷ ls) ≡ filter passes ls
filter_later passes x ls q = rw q refl

filter_front : (passes : LineTree → Bool) (x : LineTree) (a b c : List LineTree) → filter passes a ≡ filter passes b ++ c → filter passes (x ∷ a) ≡ filter passes (x ∷ b) ++ c
filter_front passes x a b c e = of (passes x) refl
  where
    of : (t : Bool) → passes x ≡ t → filter passes (x ∷ a) ≡ filter passes (x ∷ b) ++ c
    of true q = rw (filter_first passes x a q, filter_first passes x b q) (ap (λ (ys : List LineTree). x ∷ ys) e)
    of false q = rw (filter_later passes x a q, filter_later passes x b q) e

-- one line more
pub filter_one_more : (passes : LineTree → Bool) (ls : List LineTree) (i : ℕ) (l : LineTree) → slice_get ls i ≡ Some l → filter passes (take (suc i) ls) ≡ filter passes (take i ls) ++ filter passes (l ∷ [])
filter_one_more passes [] i l e = absurd (cc e)
filter_one_more passes (x ∷ ls) zero l e = let q : x ≡ l = cc e in ap (λ (y : LineTree). filter passes (y ∷ [])) q
filter_one_more passes (x ∷ ls) (suc i) l e = filter_front passes x (take (suc i) ls) (take i ls) (filter passes (l ∷ [])) (filter_one_more passes ls i l e)

pub take_whole : (ls : List LineTree) (n : ℕ) → n ≡ length ls → take n ls ≡ ls
take_whole [] zero e = refl
take_whole [] (suc n) e = refl
take_whole (x ∷ ls) zero e = absurd (omega (arith, e))
take_whole (x ∷ ls) (suc n) e = ap (λ (ys : List LineTree). x ∷ ys) (take_whole ls n (omega (arith, e)))

pub ask_passes : (l : LineTree) → l.rule ≡ AskRule → is_ask l ≡ true
ask_passes l r = rw r refl

pub passes_ask : (l : LineTree) → is_ask l ≡ true → l.rule ≡ AskRule
passes_ask l e = of l.rule refl
  where
    of : (r : Rule) → l.rule ≡ r → l.rule ≡ AskRule
    of AskRule q = q
    of _ q = absurd (cc (rw q at e))

-- ---- what is asked for them

ask_first_more : (bound : List (TermTree × ℕ)) (f : FormulaTree) (a b : List Asked) → ask_first bound f true (a ++ b) ≡ ask_first bound f true a ++ b
ask_first_more bound (says p s) a b = refl
ask_first_more bound _ a b = refl

pub all_more : (bound : List (TermTree × ℕ)) (xs ys : List LineTree) → all_asked bound (xs ++ ys) ≡ all_asked bound xs ++ all_asked bound ys
all_more bound [] ys = refl
all_more bound (x ∷ xs) ys = ap (ask_first bound x.formula true) (all_more bound xs ys) ∙ ask_first_more bound x.formula (all_asked bound xs) (all_asked bound ys)

pub one_asked : (bound : List (TermTree × ℕ)) (l : LineTree) (p : TermTree) (s : FormulaTree) (port : ℕ) → l.formula ≡ says p s → port_in bound p ≡ Some port
    → all_asked bound (l ∷ []) ≡ record { port = port; statement = s; affirmed = true } ∷ []
one_asked bound l p s port f e = rw (f, e) refl

-- the ask lines before a place
abbrev pub asks_before : List LineTree → ℕ → List LineTree
asks_before ls i = filter is_ask (take i ls)

-- what is told where all of them were answered Yes
abbrev pub told_before : List LineTree → List (TermTree × ℕ) → ℕ → List Told
told_before ls bound i = map told_of (all_asked bound (asks_before ls i))

-- within the asks: those of the lines before a place were made, and answered Yes
pub record IsAsking (ls : List LineTree) (bound : List (TermTree × ℕ)) (i : ℕ) (before now : PanelHistory) (count : ℕ) : Type 0 where
  pub only : HasOnlyAsked before now
  pub said_is : asked_since before now ≡ told_before ls bound i
  pub count_is : count ≡ length (asks_before ls i)
  pub few : count ≤ i

some_line : (ls : List LineTree) (i : ℕ) → i < length ls → (l : LineTree) × (slice_get ls i ≡ Some l)
some_line [] i h = absurd (omega (arith, h))
some_line (x ∷ ls) zero h = (x, refl)
some_line (x ∷ ls) (suc i) h = some_line ls i (omega (arith, h))

module _ (ls : List LineTree) (bound : List (TermTree × ℕ)) (i k : ℕ) (next : k ≡ suc i) where
  at_place : (l : LineTree) → line_at ls k ≡ Some l → slice_get ls i ≡ Some l
  at_place l e = rw next at e

  -- a line that is no ask line changes nothing
  pub passed_over : AreAskable ls bound → ((p : TermTree) (s : FormulaTree) → IsAskOf ls k p s → ⊥) → i < length ls → asks_before ls k ≡ asks_before ls i
  passed_over askable none within =
      let l = some_line ls i within in
      let stands : line_at ls k ≡ Some l.0 = rw next l.1 in
      of l.0 l.1 stands (is_ask l.0) refl
    where
      of : (l : LineTree) → slice_get ls i ≡ Some l → line_at ls k ≡ Some l → (b : Bool) → is_ask l ≡ b → asks_before ls k ≡ asks_before ls i
      of l at stands true q =
          let r = passes_ask l q in
          let a = askable k l stands r in
          absurd (none a.0 a.1 (l, stands, r, a.3))
      of l at stands false q =
          ap (λ (n : ℕ). filter is_ask (take n ls)) next ∙ filter_one_more is_ask ls i l at
          ∙ ap (λ (ys : List LineTree). filter is_ask (take i ls) ++ ys) (filter_later is_ask l [] q)
          ∙ append-nil (filter is_ask (take i ls))

  -- an ask line that was answered Yes is one more
  pub one_before : {answer : Ask} {before told : List Told} (a : IsAskedAt ls bound k answer before told) → asks_before ls k ≡ asks_before ls i ++ a.line ∷ []
  one_before a =
      let more : filter is_ask (take (suc i) ls) ≡ filter is_ask (take i ls) ++ filter is_ask (a.line ∷ []) = filter_one_more is_ask ls i a.line (at_place a.line a.stands) in
      ap (λ (n : ℕ). filter is_ask (take n ls)) next ∙ more ∙ ap (λ (ys : List LineTree). filter is_ask (take i ls) ++ ys) (filter_first is_ask a.line [] (ask_passes a.line a.is_ask_line))

  -- what is told where this line was answered Yes too
  pub told_more : {before told : List Told} (a : IsAskedAt ls bound k Yes before told) → told_before ls bound k ≡ told_before ls bound i ++ record { port = a.port; statement = a.statement; answer = Yes } ∷ []
  told_more a =
      ap (λ (ys : List LineTree). map told_of (all_asked bound ys)) (one_before a)
      ∙ ap (map told_of) (all_more bound (asks_before ls i) (a.line ∷ []))
      ∙ ap (λ (ys : List Asked). map told_of (all_asked bound (asks_before ls i) ++ ys)) (one_asked bound a.line a.principal a.statement a.port a.says_is a.port_is)
      ∙ map-append told_of (all_asked bound (asks_before ls i)) (record { port = a.port; statement = a.statement; affirmed = true } ∷ [])

  -- what is asked behind what was asked
  told_on : {start before now : PanelHistory} {count : ℕ} (more : List Told) → IsAsking ls bound i start before count → HasOnlyAsked before now → asked_since before now ≡ more
      → asked_since start now ≡ told_before ls bound i ++ more
  told_on {start = start} {before = before} {now = now} more so_far only told_is =
      since_through start before now so_far.only only ∙ ap (λ (told : List Told). asked_since start before ++ told) told_is ∙ ap (λ (told : List Told). told ++ more) so_far.said_is

  pub asked_yes : {start before now : PanelHistory} {count : ℕ} → IsAsking ls bound i start before count → HasOnlyAsked before now
      → IsAskedAt ls bound k Yes [] (asked_since before now) → IsAsking ls bound k start now (count + 1)
  asked_yes {start = start} {before = before} {now = now} so_far only a =
      let lines = ap length (one_before a) ∙ length-append (asks_before ls i) (a.line ∷ []) in
      let count_is = so_far.count_is in
      let few = so_far.few in
      record {
        only = only_through start before now so_far.only only;
        said_is = told_on _ so_far only a.told_is ∙ sym (told_more a);
        count_is = omega (arith, lines, count_is);
        few = omega (arith, few, next);
      }

  pub asked_nothing : {start before now : PanelHistory} {count : ℕ} → IsAsking ls bound i start before count → AreAskable ls bound
      → ((p : TermTree) (s : FormulaTree) → IsAskOf ls k p s → ⊥) → i < length ls → HasOnlyAsked before now → asked_since before now ≡ []
      → IsAsking ls bound k start now count
  asked_nothing {start = start} {before = before} {now = now} so_far askable none within only silent =
      let over = passed_over askable none within in
      let few = so_far.few in
      record {
        only = only_through start before now so_far.only only;
        said_is =
            told_on [] so_far only silent ∙ append-nil (told_before ls bound i)
            ∙ ap (λ (ys : List LineTree). map told_of (all_asked bound ys)) (sym over);
        count_is = so_far.count_is ∙ ap length (sym over);
        few = omega (arith, few, next);
      }

  -- the asks stop at this line
  pub stopped_at : {answer : Ask} {start before now : PanelHistory} {count : ℕ} → IsAsking ls bound i start before count → HasOnlyAsked before now
      → IsAskedAt ls bound k answer [] (asked_since before now) → IsStoppedAt ls bound k answer (asked_since start now)
  stopped_at so_far only a =
      let place : k - 1 ≡ i = omega (arith, next) in
      record {
        line = a.line;
        principal = a.principal;
        statement = a.statement;
        port = a.port;
        stands = a.stands;
        is_ask_line = a.is_ask_line;
        says_is = a.says_is;
        port_is = a.port_is;
        told_is = rw place (told_on _ so_far only a.told_is);
      }

-- all lines were gone through
module _ {ls : List LineTree} {bound : List (TermTree × ℕ)} {n : ℕ} {before now : PanelHistory} {count : ℕ} (so_far : IsAsking ls bound n before now count) (all : n ≡ length ls) where
  whole : asks_before ls n ≡ filter is_ask ls
  whole = ap (filter is_ask) (take_whole ls n all)

  pub told_whole : asked_since before now ≡ map told_of (all_asked bound (filter is_ask ls))
  told_whole = so_far.said_is ∙ ap (λ (ys : List LineTree). map told_of (all_asked bound ys)) whole

  pub count_whole : count ≡ length (filter is_ask ls)
  count_whole = so_far.count_is ∙ ap length whole
