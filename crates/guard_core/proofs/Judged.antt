-- What the guard finds is the verdict.
use Rattle.std.proofs.Common.{◌≡◌, ◌<◌, ◌-◌, inr, ℕ, zero, suc, List, [], ◌∷◌, ◌++◌, length, map, filter, take, Bool, true, false, Option, Some, None, Result, Ok, Err, IfOk, IfErr, refl, sym, ap, subst, ◌∙◌, arith}
use Rattle.std.specs.List.{slice_get}
use Rattle.std.specs.Prelude.{unwrap_or}
use Rattle.std.proofs.lemmas.List.{append-nil, map-append}
use Rattle.std.proofs.lemmas.Option.{slice_get_within}
use Rattle.nal_term.specs.Trees.{TermTree, FormulaTree, says}
use Rattle.proof_lines.specs.declared.lines.Line.{Line as CodeLine}
use Rattle.proof_lines.specs.Lines.{LineTree, line_trees}
use Rattle.nal_rules.specs.Asking.{Asked, IsDecided, ask_first, asks_for, lines_of, port_in}
use Rattle.nal_rules.specs.Faults.{HasLowestFault, IsFaultless, IsSays, is_ask, line_at}
use Rattle.nal_rules.specs.Verdicts.{CaseTree, HasCause, IsAnsweredNo, IsLowest, IsMissingLabel, IsUnbound, IsVerdict, cause_number}
use Rattle.nal_rules.specs.declared.verdicts.Fault.{Fault}
use Rattle.nal_rules.specs.declared.verdicts.Fault.TheVariants.{NotAsk}
use Rattle.nal_rules.specs.declared.verdicts.Cause.{Cause}
use Rattle.nal_rules.specs.declared.verdicts.Cause.TheVariants.{GoalUnset, NoProof, Line, LabelMissing, NotBound, AuthorityNo}
use Rattle.nal_rules.specs.declared.verdicts.Verdict.TheVariants.{Denied as DeniedVerdict}
use Rattle.authority_ask.specs.Panels.{Told}
use Rattle.authority_ask.specs.declared.panels.Ask.TheVariants.{No}
use Rattle.guard_core.specs.declared.findings.Finding.{Finding}
use Rattle.guard_core.specs.declared.findings.Finding.TheVariants.{Allowed, Denied}
use Rattle.guard_core.specs.declared.findings.GuardError.{GuardError}
use Rattle.guard_core.specs.declared.findings.GuardError.TheVariants.{Down, Memory}
use Rattle.guard_core.specs.Judging.{IsBrokenOff, IsJudged, IsStoppedAt, all_asked, answers_in, is_yes, told_of}
use Rattle.guard_core.specs.Inner.Stages.{AreAskable, HaveAnswered}
use Rattle.proof_check.proofs.ForCallers.{no_port}
use Rattle.guard_core.proofs.Asks.{ask_passes, passes_ask, take_whole}

-- ---- a case that is decided without authorities

pub decided : (c : CaseTree) (cause : Cause) → cause_number cause < 6 → IsVerdict c [] (DeniedVerdict cause) → IsJudged c [] (Denied cause)
decided c cause low v = record {
  verdict = v;
  count = tt;
  asks = [];
  asked = ((λ _. refl), λ undecided. absurd (undecided (cause, low, v.0)));
  told_is = refl;
}

no_lines_stand : (k : ℕ) (l : LineTree) → line_at [] k ≡ Some l → ⊥
no_lines_stand zero l e = cc e
no_lines_stand (suc k) l e = cc e

pub no_lines : (ls : List CodeLine) → line_trees ls ≡ [] → ls ≡ []
no_lines [] e = refl
no_lines (l ∷ ls) e = absurd (cc e)

some_same : {A : Type 0} (p q : A) → Some p ≡ Some q → p ≡ q
some_same p q s = cc

-- ---- the answers to ask lines, in their places

-- each of these lines is a statement of a principal
abbrev AllSay : List LineTree → Type 0
AllSay [] = Unit {0}
AllSay (l ∷ ls) = IsSays l.formula × AllSay ls

all_say : (ls : List LineTree) → ((i : ℕ) (l : LineTree) → slice_get ls i ≡ Some l → is_ask l ≡ true → IsSays l.formula) → (i : ℕ) → AllSay (filter is_ask (take i ls))
all_say [] each zero = tt
all_say [] each (suc i) = tt
all_say (x ∷ ls) each zero = tt
all_say (x ∷ ls) each (suc i) = of (is_ask x) refl (all_say ls (λ j l. each (suc j) l) i)
  where
    of : (b : Bool) → is_ask x ≡ b → AllSay (filter is_ask (take i ls)) → AllSay (filter is_ask (x ∷ take i ls))
    of true q later = rw q (each 0 x refl q, later)
    of false q later = rw q later

-- what is told of lines that were all answered Yes has their answers
answers_all : (bound : List (TermTree × ℕ)) (fs : List LineTree) → AllSay fs → answers_in (map told_of (all_asked bound fs)) ≡ map (λ (_ : LineTree). true) fs
answers_all bound [] say = refl
answers_all bound (x ∷ fs) say = of x.formula say.0.0 say.0.1 say.0.2 (answers_all bound fs say.1)
  where
    of : (f : FormulaTree) (p : TermTree) (s : FormulaTree) → f ≡ says p s → answers_in (map told_of (all_asked bound fs)) ≡ map (λ (_ : LineTree). true) fs
        → answers_in (map told_of (ask_first bound f true (all_asked bound fs))) ≡ true ∷ map (λ (_ : LineTree). true) fs
    of f p s e later = rw e (ap (λ (bs : List Bool). true ∷ bs) later)

true_at : (fs : List LineTree) (bs : List Bool) (n : ℕ) → n < length fs → slice_get (map (λ (_ : LineTree). true) fs ++ bs) n ≡ Some true
true_at [] bs n h = absurd (omega (arith, h))
true_at (x ∷ fs) bs zero h = refl
true_at (x ∷ fs) bs (suc n) h = true_at fs bs n (omega (arith, h))

next_at : (fs : List LineTree) (b : Bool) → slice_get (map (λ (_ : LineTree). true) fs ++ b ∷ []) (length fs) ≡ Some b
next_at [] b = refl
next_at (x ∷ fs) b = next_at fs b

-- an ask line's place is below the number of ask lines before a later place
place_below : (ls : List LineTree) (j i : ℕ) (l : LineTree) → slice_get ls j ≡ Some l → is_ask l ≡ true → j < i → length (filter is_ask (take j ls)) < length (filter is_ask (take i ls))
place_below [] j i l e q h = absurd (cc e)
place_below (x ∷ ls) j zero l e q h = absurd (omega (arith, h))
place_below (x ∷ ls) zero (suc i) l e q h = let same : x ≡ l = cc e in let asks : is_ask x ≡ true = ap is_ask same ∙ q in rw asks (omega arith)
place_below (x ∷ ls) (suc j) (suc i) l e q h = of (is_ask x) refl (place_below ls j i l e q (omega (arith, h)))
  where
    of : (b : Bool) → is_ask x ≡ b → length (filter is_ask (take j ls)) < length (filter is_ask (take i ls)) → length (filter is_ask (x ∷ take j ls)) < length (filter is_ask (x ∷ take i ls))
    of true t later = rw t (omega (arith, later))
    of false t later = rw t later

-- the ask lines before one, it, and those behind it
split_at : (ls : List LineTree) (i : ℕ) (l : LineTree) → slice_get ls i ≡ Some l → is_ask l ≡ true → (rest : List LineTree) × (filter is_ask ls ≡ filter is_ask (take i ls) ++ l ∷ rest)
split_at [] i l e q = absurd (cc e)
split_at (x ∷ ls) zero l e q = let same : x ≡ l = cc e in let asks : is_ask x ≡ true = ap is_ask same ∙ q in (filter is_ask ls, rw asks (ap (λ (y : LineTree). y ∷ filter is_ask ls) same))
split_at (x ∷ ls) (suc i) l e q = of (is_ask x) refl (split_at ls i l e q)
  where
    of : (b : Bool) → is_ask x ≡ b → (rest : List LineTree) × (filter is_ask ls ≡ filter is_ask (take i ls) ++ l ∷ rest) → (rest : List LineTree) × (filter is_ask (x ∷ ls) ≡ filter is_ask (x ∷ take i ls) ++ l ∷ rest)
    of true t later = (later.0, rw t (ap (λ (ys : List LineTree). x ∷ ys) later.1))
    of false t later = (later.0, rw t later.1)

ask_first_more : (bound : List (TermTree × ℕ)) (f : FormulaTree) (a b : List Asked) → ask_first bound f true (a ++ b) ≡ ask_first bound f true a ++ b
ask_first_more bound (says p s) a b = refl
ask_first_more bound _ a b = refl

-- what is asked where a line is the first that is answered No
asked_to_no : (bound : List (TermTree × ℕ)) (xs : List LineTree) (l : LineTree) (rest : List LineTree) (p : TermTree) (s : FormulaTree) (port : ℕ) → l.formula ≡ says p s
    → port_in bound p ≡ Some port → asks_for bound (xs ++ l ∷ rest) (map (λ (_ : LineTree). true) xs ++ false ∷ []) ≡ all_asked bound xs ++ record { port = port; statement = s; affirmed = false } ∷ []
asked_to_no bound [] l rest p s port f e = rw (f, e) refl
asked_to_no bound (x ∷ xs) l rest p s port f e =
    ap (ask_first bound x.formula true) (asked_to_no bound xs l rest p s port f e)
    ∙ ask_first_more bound x.formula (all_asked bound xs) (record { port = port; statement = s; affirmed = false } ∷ [])

no_statement : (f : FormulaTree) → ((IsSays f → ⊥) → ⊥) → IsSays f
no_statement (says p s) n = (p, s, refl)
no_statement _ n = absurd (n (λ m. cc m.2))

some_port_in : (o : Option ℕ) → (o ≡ None → ⊥) → (port : ℕ) × (o ≡ Some port)
some_port_in None n = absurd (n refl)
some_port_in (Some port) n = (port, refl)

-- ---- a case with a goal and a proof

module _ (c : CaseTree) (goal : FormulaTree) (ls : List LineTree) (goal_is : c.goal ≡ Some goal) (proof_is : c.proof ≡ Some ls) where
  goal_set : (answers : List Bool) → ¬ HasCause c answers GoalUnset
  goal_set answers none = cc (sym none ∙ goal_is)

  same_proof : (proof : List LineTree) → c.proof ≡ Some proof → proof ≡ ls
  same_proof proof e = some_same proof ls (sym e ∙ proof_is)

  same_goal : (g : FormulaTree) → c.goal ≡ Some g → g ≡ goal
  same_goal g e = some_same g goal (sym e ∙ goal_is)

  proof_set : (ls ≡ [] → ⊥) → (answers : List Bool) → ¬ HasCause c answers NoProof
  proof_set some answers none = some (none ls proof_is)

  pub faulty : (k : ℕ) (fault : Fault) → HasLowestFault ls goal k fault → IsJudged c [] (Denied (Line k fault))
  faulty k fault lowest = decided c (Line k fault) (omega arith) ((ls, goal, proof_is, goal_is, lowest), lower)
    where
      some : ls ≡ [] → ⊥
      some none = no_lines_stand k lowest.faulty.line (subst (λ (xs : List LineTree). line_at xs k ≡ Some lowest.faulty.line) none lowest.faulty.stands)

      lower : (other : Cause) → cause_number other < 3 → ¬ HasCause c [] other
      lower GoalUnset h has = goal_set [] has
      lower NoProof h has = proof_set some [] has
      lower (Line j f) h has = omega (arith, h)
      lower (LabelMissing j) h has = omega (arith, h)
      lower (NotBound j) h has = omega (arith, h)
      lower (AuthorityNo j) h has = omega (arith, h)

  module _ (some : ls ≡ [] → ⊥) (faultless : (k : ℕ) → IsFaultless ls goal k) where
    no_fault : (answers : List Bool) (k : ℕ) (f : Fault) → ¬ HasCause c answers (Line k f)
    no_fault answers k f has =
        let lowest : HasLowestFault ls goal k f = rw (← same_proof has.0 has.2, ← same_goal has.1 has.3) has.4 in
        faultless k lowest.faulty.line lowest.faulty.stands f lowest.faulty.applies

    pub missing : (k : ℕ) → IsLowest (IsMissingLabel ls c.labels) k → IsJudged c [] (Denied (LabelMissing k))
    missing k lowest = decided c (LabelMissing k) (omega arith) ((ls, proof_is, lowest), lower)
      where
        lower : (other : Cause) → cause_number other < 4 → ¬ HasCause c [] other
        lower GoalUnset h has = goal_set [] has
        lower NoProof h has = proof_set some [] has
        lower (Line j f) h has = no_fault [] j f has
        lower (LabelMissing j) h has = omega (arith, h)
        lower (NotBound j) h has = omega (arith, h)
        lower (AuthorityNo j) h has = omega (arith, h)

    module _ (held : (k : ℕ) → ¬ IsMissingLabel ls c.labels k) where
      no_label : (answers : List Bool) (k : ℕ) → ¬ HasCause c answers (LabelMissing k)
      no_label answers k has = held k (subst (λ (xs : List LineTree). IsMissingLabel xs c.labels k) (same_proof has.0 has.1) has.2.0)

      pub not_bound : (k : ℕ) → IsLowest (IsUnbound ls c.bound) k → IsJudged c [] (Denied (NotBound k))
      not_bound k lowest = decided c (NotBound k) (omega arith) ((ls, proof_is, lowest), lower)
        where
          lower : (other : Cause) → cause_number other < 5 → ¬ HasCause c [] other
          lower GoalUnset h has = goal_set [] has
          lower NoProof h has = proof_set some [] has
          lower (Line j f) h has = no_fault [] j f has
          lower (LabelMissing j) h has = no_label [] j has
          lower (NotBound j) h has = omega (arith, h)
          lower (AuthorityNo j) h has = omega (arith, h)

      module _ (bound : (k : ℕ) → ¬ IsUnbound ls c.bound k) where
        no_unbound : (answers : List Bool) (k : ℕ) → ¬ HasCause c answers (NotBound k)
        no_unbound answers k has = bound k (subst (λ (xs : List LineTree). IsUnbound xs c.bound k) (same_proof has.0 has.1) has.2.0)

        -- no cause applies but that of authorities
        pub left_open : (answers : List Bool) (cause : Cause) → cause_number cause < 6 → ¬ HasCause c answers cause
        left_open answers GoalUnset h has = goal_set answers has
        left_open answers NoProof h has = proof_set some answers has
        left_open answers (Line j f) h has = no_fault answers j f has
        left_open answers (LabelMissing j) h has = no_label answers j has
        left_open answers (NotBound j) h has = no_unbound answers j has
        left_open answers (AuthorityNo j) h has = omega (arith, h)

        pub undecided : IsDecided c → ⊥
        undecided d = left_open [] d.0 d.1 d.2

        -- each ask line is a statement of a principal that is bound
        pub askable : AreAskable ls c.bound
        askable k l stands r =
            let said : IsSays l.formula = no_statement l.formula (λ n. faultless k l stands NotAsk (r, n)) in
            let port = some_port_in (port_in c.bound said.0) (λ none. bound k (said.0, said.1, (l, stands, r, said.2), λ p there. no_port c.bound said.0 none p there)) in
            (said.0, said.1, port.0, said.2, port.1)

        statements : (i : ℕ) (l : LineTree) → slice_get ls i ≡ Some l → is_ask l ≡ true → IsSays l.formula
        statements i l e q = let a = askable (suc i) l e (passes_ask l q) in (a.0, a.1, a.3)

        before_say : (i : ℕ) → AllSay (filter is_ask (take i ls))
        before_say = all_say ls statements

        lines_are : lines_of c ≡ ls
        lines_are = ap (λ (o : Option (List LineTree)). unwrap_or o []) proof_is

        -- all ask lines were answered Yes
        pub allowed : (told : List Told) (count : ℕ) → told ≡ map told_of (all_asked c.bound (filter is_ask ls)) → count ≡ length (filter is_ask ls) → IsJudged c told (Allowed count)
        allowed told count told_is count_is =
            let whole : filter is_ask (take (length ls) ls) ≡ filter is_ask ls = ap (filter is_ask) (take_whole ls (length ls) refl) in
            let say : AllSay (filter is_ask ls) = subst AllSay whole (before_say (length ls)) in
            let answers : answers_in told ≡ map (λ (_ : LineTree). true) (filter is_ask ls) = ap answers_in told_is ∙ answers_all c.bound (filter is_ask ls) say in
            record {
              verdict = none_applies answers whole;
              count = count_is ∙ ap (λ (xs : List LineTree). length (filter is_ask xs)) (sym lines_are);
              asks = all_asked c.bound (filter is_ask ls);
              asked = ((λ d. absurd (undecided d)), λ _. rw (answers, lines_are) refl);
              told_is = told_is;
            }
          where
            none_applies : answers_in told ≡ map (λ (_ : LineTree). true) (filter is_ask ls) → filter is_ask (take (length ls) ls) ≡ filter is_ask ls → (cause : Cause) → ¬ HasCause c (answers_in told) cause
            none_applies answers whole (AuthorityNo zero) has = cc has.2.0.1
            none_applies answers whole (AuthorityNo (suc k)) has =
                let denied : IsAnsweredNo ls (answers_in told) (suc k) = subst (λ (xs : List LineTree). IsAnsweredNo xs (answers_in told) (suc k)) (same_proof has.0 has.1) has.2.0 in
                let within = slice_get_within ls k denied.0 denied.1 in
                let below = place_below ls k (length ls) denied.0 denied.1 (ask_passes denied.0 denied.2) within in
                let small : length (filter is_ask (take k ls)) < length (filter is_ask ls) = omega (arith, below, ap length whole) in
                let yes_there : slice_get (map (λ (_ : LineTree). true) (filter is_ask ls) ++ []) (length (filter is_ask (take k ls))) ≡ Some true = true_at (filter is_ask ls) [] _ small in
                denied.3 (rw answers (rw append-nil at yes_there))
            none_applies answers whole GoalUnset has = left_open (answers_in told) GoalUnset (omega arith) has
            none_applies answers whole NoProof has = left_open (answers_in told) NoProof (omega arith) has
            none_applies answers whole (Line j f) has = left_open (answers_in told) (Line j f) (omega arith) has
            none_applies answers whole (LabelMissing j) has = left_open (answers_in told) (LabelMissing j) (omega arith) has
            none_applies answers whole (NotBound j) has = left_open (answers_in told) (NotBound j) (omega arith) has

        -- an ask line was the first that was answered No
        pub answered_no : (told : List Told) (k : ℕ) → IsStoppedAt ls c.bound k No told → IsJudged c told (Denied (AuthorityNo k))
        answered_no told zero a = absurd (cc a.stands)
        answered_no told (suc i) a =
            let place : suc i - 1 ≡ i = omega arith in
            let fs : List LineTree = filter is_ask (take i ls) in
            let last : Told = record { port = a.port; statement = a.statement; answer = No } in
            let asked_last : Asked = record { port = a.port; statement = a.statement; affirmed = false } in
            let told_is : told ≡ map told_of (all_asked c.bound fs) ++ last ∷ [] = rw place at a.told_is in
            let answers : answers_in told ≡ map (λ (_ : LineTree). true) fs ++ false ∷ [] =
            ap answers_in told_is ∙ map-append (λ (t : Told). is_yes t.answer) (map told_of (all_asked c.bound fs)) (last ∷ []) ∙ ap (λ (bs : List Bool). bs ++ false ∷ []) (answers_all c.bound fs (before_say i)) in
            let split = split_at ls i a.line a.stands (ask_passes a.line a.is_ask_line) in
            record {
              verdict = ((ls, proof_is, (first answers, earlier answers)), λ other low. left_open (answers_in told) other low);
              count = tt;
              asks = all_asked c.bound fs ++ asked_last ∷ [];
              asked = ((λ d. absurd (undecided d)), λ _. rw (answers, lines_are, split.1) (sym (asked_to_no c.bound fs a.line split.0 a.principal a.statement a.port a.says_is a.port_is)));
              told_is = told_is ∙ sym (map-append told_of (all_asked c.bound fs) (asked_last ∷ []));
            }
          where
            first : answers_in told ≡ map (λ (_ : LineTree). true) (filter is_ask (take i ls)) ++ false ∷ [] → IsAnsweredNo ls (answers_in told) (suc i)
            first answers = (a.line, a.stands, a.is_ask_line, λ affirmed. let there = next_at (filter is_ask (take i ls)) false in absurd (cc (rw answers at affirmed, there)))

            earlier : answers_in told ≡ map (λ (_ : LineTree). true) (filter is_ask (take i ls)) ++ false ∷ [] → (j : ℕ) → j < suc i → ¬ IsAnsweredNo ls (answers_in told) j
            earlier answers zero low denied = cc denied.1
            earlier answers (suc j) low denied =
                denied.3 (rw answers (true_at (filter is_ask (take i ls)) (false ∷ []) _ (place_below ls j i denied.0 denied.1 (ask_passes denied.0 denied.2) (omega (arith, low)))))

        -- the guard finds what the answers make of the case
        pub judged_by : (told : List Told) (finding : Finding) → HaveAnswered ls c.bound told (Ok finding) → IsJudged c told finding
        judged_by told (Allowed count) h = allowed told count h.0 h.1
        judged_by told (Denied (AuthorityNo k)) h = answered_no told k h
        judged_by told (Denied GoalUnset) h = absurd h
        judged_by told (Denied NoProof) h = absurd h
        judged_by told (Denied (Line k f)) h = absurd h
        judged_by told (Denied (LabelMissing k)) h = absurd h
        judged_by told (Denied (NotBound k)) h = absurd h

        -- or breaks off
        pub broken_by : (told : List Told) (error : GuardError) → HaveAnswered ls c.bound told (Err error) → IsBrokenOff c told error
        broken_by told (Down k) h = (undecided, rw lines_are h)
        broken_by told Memory h = inr (h.0, undecided, rw lines_are h.1)

        pub judged_result : (told : List Told) (r : Result Finding GuardError) → HaveAnswered ls c.bound told r → IfOk r (λ finding. IsJudged c told finding)
        judged_result told (Ok finding) h = judged_by told finding h
        judged_result told (Err error) h = tt

        pub broken_result : (told : List Told) (r : Result Finding GuardError) → HaveAnswered ls c.bound told r → IfErr r (λ error. IsBrokenOff c told error)
        broken_result told (Ok finding) h = tt
        broken_result told (Err error) h = broken_by told error h
