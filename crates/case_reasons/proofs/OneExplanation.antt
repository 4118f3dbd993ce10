-- A call has one explanation.
use Rattle.std.proofs.Common.{◌≡◌, ◌<◌, ◌≤◌, ◌+◌, ◌⊎◌, inl, inr, ⊎_elim, ℕ, zero, suc, Bool, true, false, nat_eq, ◌&&◌, List, [], ◌∷◌, Option, Some, None, refl, sym, ap, ◌∙◌, subst, arith}
use Rattle.std.proofs.lemmas.Bool.{cases_lt}
use Rattle.nal_term.specs.Trees.{formula_tree}
use Rattle.proof_lines.specs.Lines.{line_trees}
use Rattle.policy_history.specs.declared.heads.Head.{Head}
use Rattle.policy_history.specs.Events.{EntryTree}
use Rattle.label_holdings.specs.Entries.{IsLast}
use Rattle.label_holdings.specs.Tenures.{IsReceivedBy, hands_over}
use Rattle.label_holdings.specs.Holdings.{IsHeldBy}
use Rattle.label_holdings.specs.declared.holdings.Holding.{Holding}
use Rattle.case_reasons.specs.declared.explanations.ObjectReason.{ObjectReason}
use Rattle.case_reasons.specs.declared.explanations.GoalReason.{GoalReason}
use Rattle.case_reasons.specs.declared.explanations.ProofReason.{ProofReason}
use Rattle.case_reasons.specs.Origins.{IsGoalReason, IsObjectReason, IsSetBy, IsRegisteredBy, changes_goal, changes_proof}
use Rattle.std.specs.Prelude.{length}
use Rattle.std.specs.List.{slice_get}
use Rattle.std.specs.Cmp.{unsigned_Decides}
use Rattle.std.proofs.lemmas.Option.{slice_get-get_or, slice_get_within}
use Rattle.nal_term.specs.Trees.{FormulaTree, verum}
use Rattle.nal_term.specs.TreeKeys.{same_formulas, same_formulas-Decides}
use Rattle.label_store.specs.LabelRows.{LabelRow, is_held}
use Rattle.policy_history.specs.Machine.{replay}
use Rattle.proof_lines.specs.Lines.{LineTree}
use Rattle.nal_rules.specs.Asking.{Asked, IsAsked, IsDecided}
use Rattle.nal_rules.specs.Faults.{line_at}
use Rattle.nal_rules.proofs.ForCallers.{one_verdict}
use Rattle.nal_rules.specs.Verdicts.{CaseTree, IsVerdict, ask_place}
use Rattle.nal_rules.specs.declared.verdicts.Cause.TheVariants.{GoalUnset, NoProof, Line, LabelMissing, NotBound as Unbound, AuthorityNo}
use Rattle.nal_rules.specs.declared.verdicts.Verdict.{Verdict}
use Rattle.nal_rules.specs.declared.verdicts.Verdict.TheVariants.{Allowed, Denied}
use Rattle.case_verdict.proofs.ForCallers.{unaffected}
use Rattle.policy_history.specs.Judged.{case_at}
use Rattle.case_reasons.specs.declared.explanations.Explained.TheVariants.{NoObject, Known}
use Rattle.case_reasons.specs.declared.explanations.Explanation.{Explanation}
use Rattle.case_reasons.specs.Explanations.{IsExplanation, IsProofReason}
use Rattle.case_reasons.specs.Laws.{OneExplanation, SameExplanation, SameGoal, SameProof}
use Rattle.case_reasons.proofs.Asks.{decides}
use Rattle.nal_rules.specs.declared.verdicts.Fault.{Fault}
use Rattle.nal_rules.proofs.OneVerdict.{one_fault}
use Rattle.case_reasons.specs.declared.lines.LineReason.{LineReason}
use Rattle.case_reasons.specs.declared.lines.LineReason.TheVariants.{Faulty, Held, Missing, Answered, NotAsked, NotBound, Derived}
use Rattle.case_reasons.specs.LineReasons.{AreLineReasons, HasFaultFor, IsFaultlessFor, IsAnswered, IsNotAsked, IsLineReason, StandsBy}

some_same : {A : Type 0} {p q : A} → Some p ≡ Some q → p ≡ q
some_same s = cc

only_one : (a b : ℕ) → (a < b → ⊥) → (b < a → ⊥) → a ≡ b
only_one a b low high = ⊎_elim (λ (x : a < b). absurd (low x)) (λ (o : b ≤ a). ⊎_elim (λ (x : b < a). absurd (high x)) (λ (s : a ≤ b). omega (arith, o, s)) (cases_lt b a)) (cases_lt a b)

-- the last entry that passes is one
module _ (t : EntryTree → Bool) (es : List EntryTree) where
  last_once : (n m : ℕ) (e f : EntryTree) → IsLast t es n e → IsLast t es m f → n ≡ m
  last_once n m e f p q = only_one n m (λ before. cc (sym q.passing ∙ p.later m f before q.stands)) (λ before. cc (sym p.passing ∙ q.later n e before p.stands))

-- an object, a goal and a proof come from one entry each
module _ (h : Head) (es : List EntryTree) (p : ℕ) (op object : List ℕ) (k : ℕ) where
  one_object : (r q : ObjectReason) → IsObjectReason h es object k r → IsObjectReason h es object k q → (r.entry ≡ q.entry) × (r.owner ≡ q.owner)
  one_object r q a b = (b.only r.entry a.entry a.stands a.made, some_same (sym a.owner ∙ b.owner))

  one_goal : (r q : GoalReason) → IsSetBy h es p op object k r → IsSetBy h es p op object k q → (r.entry ≡ q.entry) × (formula_tree r.goal ≡ formula_tree q.goal)
  one_goal r q a b = (last_once (changes_goal op object) es r.entry q.entry a.entry b.entry a.last b.last, some_same (sym a.told ∙ b.told))

  one_proof : (r q : ProofReason) → IsRegisteredBy h es p op object k r → IsRegisteredBy h es p op object k q → (r.entry ≡ q.entry) × (line_trees r.proof ≡ line_trees q.proof)
  one_proof r q a b = (last_once (changes_proof p op object) es r.entry q.entry a.entry b.entry a.last b.last, some_same (sym a.told ∙ b.told))

-- a label is held by one entry that said it and one by which it came
module _ (h : Head) (es : List EntryTree) where
  one_received : (k p m n : ℕ) → IsReceivedBy h es k p m → IsReceivedBy h es k p n → m ≡ n
  one_received k p m n (inl a) (inl b) = last_once (hands_over h k p) es m n a.0 b.0 a.1 b.1
  one_received k p m n (inl a) (inr b) = absurd (cc (sym a.1.passing ∙ b.1 m a.0 a.1.stands))
  one_received k p m n (inr a) (inl b) = absurd (cc (sym b.1.passing ∙ a.1 n b.0 b.1.stands))
  one_received k p m n (inr a) (inr b) = a.0 ∙ sym b.0

  one_holding : (p : ℕ) (f : FormulaTree) (a b : Holding) → IsHeldBy h es p f a → IsHeldBy h es p f b → (a.said ≡ b.said) × (a.received ≡ b.received)
  one_holding p f a b x y =
      let same : a.said ≡ b.said = only_one a.said b.said (λ low. y.lowest a.said low x.held) (λ low. x.lowest b.said low y.held) in
      (same, one_received b.said p a.received b.received (subst (λ (k : ℕ). IsReceivedBy h es k p a.received) same x.received) y.received)

-- a formula that is not held stands in no row
not_held : (rows : List LabelRow) (p : ℕ) (f : FormulaTree) (j k : ℕ) → is_held rows p f ≡ false → slice_get rows k ≡ Some (j, p, f) → ⊥
not_held [] p f j k none at = cc at
not_held (row ∷ rows) p f j zero none at =
    let same : row ≡ (j, p, f) = some_same at in
    let a : nat_eq p row.1 ≡ true = (unsigned_Decides p row.1).1 (sym (ap (λ (r : LabelRow). r.1) same)) in
    let b : same_formulas f row.2 ≡ true = (same_formulas-Decides f row.2).1 (sym (ap (λ (r : LabelRow). r.2) same)) in
    let c : is_held (row ∷ rows) p f ≡ true = rw (a, b) refl in
    cc (sym c ∙ none)
not_held (row ∷ rows) p f j (suc k) none at = not_held rows p f j k (of (nat_eq p row.1 && same_formulas f row.2) refl) at
  where
    of : (b : Bool) → (nat_eq p row.1 && same_formulas f row.2) ≡ b → is_held rows p f ≡ false
    of true e = let c : is_held (row ∷ rows) p f ≡ true = rw e refl in absurd (cc (sym c ∙ none))
    of false e = let c : is_held (row ∷ rows) p f ≡ is_held rows p f = rw e refl in sym c ∙ none

-- and a line rests on one thing
module _ (h : Head) (es : List EntryTree) (p : ℕ) (c : CaseTree) (answers : List Bool) (proof : List LineTree) (k : ℕ) (l : LineTree) (decided : IsDecided c ⊎ (IsDecided c → ⊥)) where
  asks_one : (x y : List Asked) → IsAsked c answers x → IsAsked c answers y → x ≡ y
  asks_one x y a b = ⊎_elim (λ (d : IsDecided c). a.0 d ∙ sym (b.0 d)) (λ (u : IsDecided c → ⊥). a.1 u ∙ sym (b.1 u)) decided

  abbrev Same : LineReason → LineReason → Type 0
  Same (Faulty a) (Faulty b) = a ≡ b
  Same (Held a) (Held b) = (a.said ≡ b.said) × (a.received ≡ b.received)
  Same Missing Missing = Unit {0}
  Same (Answered port affirmative) (Answered port2 affirmative2) = (port ≡ port2) × (affirmative ≡ affirmative2)
  Same (NotAsked port) (NotAsked port2) = port ≡ port2
  Same NotBound NotBound = Unit {0}
  Same Derived Derived = Unit {0}
  Same _ _ = ⊥

  held_missing : (by : Holding) → IsHeldBy h es p l.formula by → is_held (replay h es).labels p l.formula ≡ false → ⊥
  held_missing by held none =
      let there = held.held in
      not_held (replay h es).labels p l.formula by.said there.0 none (slice_get-get_or (replay h es).labels there.0 (by.said, p, l.formula) there.1 ∙ ap Some there.2)

  asked_not : (port port2 : ℕ) (affirmative : Bool) → IsAnswered c answers proof k l port affirmative → IsNotAsked c answers proof k l port2 → ⊥
  asked_not port port2 affirmative a b =
      let same : a.asks ≡ b.asks = asks_one a.asks b.asks a.asked b.asked in
      let within = slice_get_within a.asks (ask_place proof k) a.ask_line a.place in
      let short = b.place in
      let long : length a.asks ≡ length b.asks = ap length same in
      omega (arith, within, short, long)

  answers_one : (port port2 : ℕ) (affirmative affirmative2 : Bool) → IsAnswered c answers proof k l port affirmative → IsAnswered c answers proof k l port2 affirmative2 → (port ≡ port2) × (affirmative ≡ affirmative2)
  answers_one port port2 affirmative affirmative2 a b =
      let same : a.asks ≡ b.asks = asks_one a.asks b.asks a.asked b.asked in
      let line : a.ask_line ≡ b.ask_line = some_same (sym a.place ∙ ap (λ (xs : List Asked). slice_get xs (ask_place proof k)) same ∙ b.place) in
      (some_same (sym a.bound ∙ b.bound), sym a.answered ∙ ap (λ (x : Asked). x.affirmed) line ∙ b.answered)

  one_stands : (a b : LineReason) → StandsBy h es p c answers proof k l a → StandsBy h es p c answers proof k l b → Same a b
  one_stands (Faulty u) (Faulty v) s t = absurd s
  one_stands (Faulty u) (Held v) s t = absurd s
  one_stands (Faulty u) Missing s t = absurd s
  one_stands (Faulty u) (Answered v yv) s t = absurd s
  one_stands (Faulty u) (NotAsked v) s t = absurd s
  one_stands (Faulty u) NotBound s t = absurd s
  one_stands (Faulty u) Derived s t = absurd s
  one_stands (Held u) (Faulty v) s t = absurd t
  one_stands (Held u) (Held v) s t = one_holding h es p l.formula u v s.1 t.1
  one_stands (Held u) Missing s t = absurd (held_missing u s.1 t.1)
  one_stands (Held u) (Answered v yv) s t = absurd (cc (sym (s.0) ∙ t.ask))
  one_stands (Held u) (NotAsked v) s t = absurd (cc (sym (s.0) ∙ t.ask))
  one_stands (Held u) NotBound s t = absurd (cc (sym (s.0) ∙ t.0))
  one_stands (Held u) Derived s t = absurd (t.0 s.0)
  one_stands Missing (Faulty v) s t = absurd t
  one_stands Missing (Held v) s t = absurd (held_missing v t.1 s.1)
  one_stands Missing Missing s t = tt
  one_stands Missing (Answered v yv) s t = absurd (cc (sym (s.0) ∙ t.ask))
  one_stands Missing (NotAsked v) s t = absurd (cc (sym (s.0) ∙ t.ask))
  one_stands Missing NotBound s t = absurd (cc (sym (s.0) ∙ t.0))
  one_stands Missing Derived s t = absurd (t.0 s.0)
  one_stands (Answered u yu) (Faulty v) s t = absurd t
  one_stands (Answered u yu) (Held v) s t = absurd (cc (sym (s.ask) ∙ t.0))
  one_stands (Answered u yu) Missing s t = absurd (cc (sym (s.ask) ∙ t.0))
  one_stands (Answered u yu) (Answered v yv) s t = answers_one u v yu yv s t
  one_stands (Answered u yu) (NotAsked v) s t = absurd (asked_not u v yu s t)
  one_stands (Answered u yu) NotBound s t = absurd (cc (sym s.bound ∙ t.1))
  one_stands (Answered u yu) Derived s t = absurd (t.1 s.ask)
  one_stands (NotAsked u) (Faulty v) s t = absurd t
  one_stands (NotAsked u) (Held v) s t = absurd (cc (sym (s.ask) ∙ t.0))
  one_stands (NotAsked u) Missing s t = absurd (cc (sym (s.ask) ∙ t.0))
  one_stands (NotAsked u) (Answered v yv) s t = absurd (asked_not v u yv t s)
  one_stands (NotAsked u) (NotAsked v) s t = some_same (sym s.bound ∙ t.bound)
  one_stands (NotAsked u) NotBound s t = absurd (cc (sym s.bound ∙ t.1))
  one_stands (NotAsked u) Derived s t = absurd (t.1 s.ask)
  one_stands NotBound (Faulty v) s t = absurd t
  one_stands NotBound (Held v) s t = absurd (cc (sym (s.0) ∙ t.0))
  one_stands NotBound Missing s t = absurd (cc (sym (s.0) ∙ t.0))
  one_stands NotBound (Answered v yv) s t = absurd (cc (sym t.bound ∙ s.1))
  one_stands NotBound (NotAsked v) s t = absurd (cc (sym t.bound ∙ s.1))
  one_stands NotBound NotBound s t = tt
  one_stands NotBound Derived s t = absurd (t.1 s.0)
  one_stands Derived (Faulty v) s t = absurd t
  one_stands Derived (Held v) s t = absurd (s.0 t.0)
  one_stands Derived Missing s t = absurd (s.0 t.0)
  one_stands Derived (Answered v yv) s t = absurd (s.1 t.ask)
  one_stands Derived (NotAsked v) s t = absurd (s.1 t.ask)
  one_stands Derived NotBound s t = absurd (s.1 t.0)
  one_stands Derived Derived s t = tt

  fault_excludes : (goal : Option FormulaTree) (fault : Fault) → line_at proof k ≡ Some l → HasFaultFor goal proof k fault → IsFaultlessFor goal proof k → ⊥
  fault_excludes (Some goal) fault here has free = free has.line has.stands fault has.applies
  fault_excludes None fault here has free = let f = has.1 verum in free verum f.line fault f.stands has.0 f.applies

  faults_one : (goal : Option FormulaTree) (u v : Fault) → HasFaultFor goal proof k u → HasFaultFor goal proof k v → u ≡ v
  faults_one (Some goal) u v a b = one_fault proof goal k u v a b
  faults_one None u v a b = one_fault proof verum k u v (a.1 verum) (b.1 verum)

  one_reason : line_at proof k ≡ Some l → (a b : LineReason) → IsLineReason h es p c answers proof k l a → IsLineReason h es p c answers proof k l b → Same a b
  one_reason here (Faulty u) (Faulty v) s t = faults_one c.goal u v s t
  one_reason here (Faulty u) (Held v) s t = absurd (fault_excludes c.goal u here s t.0)
  one_reason here (Faulty u) Missing s t = absurd (fault_excludes c.goal u here s t.0)
  one_reason here (Faulty u) (Answered v yv) s t = absurd (fault_excludes c.goal u here s t.0)
  one_reason here (Faulty u) (NotAsked v) s t = absurd (fault_excludes c.goal u here s t.0)
  one_reason here (Faulty u) NotBound s t = absurd (fault_excludes c.goal u here s t.0)
  one_reason here (Faulty u) Derived s t = absurd (fault_excludes c.goal u here s t.0)
  one_reason here (Held u) (Faulty v) s t = absurd (fault_excludes c.goal v here t s.0)
  one_reason here (Held u) (Held v) s t = one_stands (Held u) (Held v) s.1 t.1
  one_reason here (Held u) Missing s t = one_stands (Held u) Missing s.1 t.1
  one_reason here (Held u) (Answered v yv) s t = one_stands (Held u) (Answered v yv) s.1 t.1
  one_reason here (Held u) (NotAsked v) s t = one_stands (Held u) (NotAsked v) s.1 t.1
  one_reason here (Held u) NotBound s t = one_stands (Held u) NotBound s.1 t.1
  one_reason here (Held u) Derived s t = one_stands (Held u) Derived s.1 t.1
  one_reason here Missing (Faulty v) s t = absurd (fault_excludes c.goal v here t s.0)
  one_reason here Missing (Held v) s t = one_stands Missing (Held v) s.1 t.1
  one_reason here Missing Missing s t = one_stands Missing Missing s.1 t.1
  one_reason here Missing (Answered v yv) s t = one_stands Missing (Answered v yv) s.1 t.1
  one_reason here Missing (NotAsked v) s t = one_stands Missing (NotAsked v) s.1 t.1
  one_reason here Missing NotBound s t = one_stands Missing NotBound s.1 t.1
  one_reason here Missing Derived s t = one_stands Missing Derived s.1 t.1
  one_reason here (Answered u yu) (Faulty v) s t = absurd (fault_excludes c.goal v here t s.0)
  one_reason here (Answered u yu) (Held v) s t = one_stands (Answered u yu) (Held v) s.1 t.1
  one_reason here (Answered u yu) Missing s t = one_stands (Answered u yu) Missing s.1 t.1
  one_reason here (Answered u yu) (Answered v yv) s t = one_stands (Answered u yu) (Answered v yv) s.1 t.1
  one_reason here (Answered u yu) (NotAsked v) s t = one_stands (Answered u yu) (NotAsked v) s.1 t.1
  one_reason here (Answered u yu) NotBound s t = one_stands (Answered u yu) NotBound s.1 t.1
  one_reason here (Answered u yu) Derived s t = one_stands (Answered u yu) Derived s.1 t.1
  one_reason here (NotAsked u) (Faulty v) s t = absurd (fault_excludes c.goal v here t s.0)
  one_reason here (NotAsked u) (Held v) s t = one_stands (NotAsked u) (Held v) s.1 t.1
  one_reason here (NotAsked u) Missing s t = one_stands (NotAsked u) Missing s.1 t.1
  one_reason here (NotAsked u) (Answered v yv) s t = one_stands (NotAsked u) (Answered v yv) s.1 t.1
  one_reason here (NotAsked u) (NotAsked v) s t = one_stands (NotAsked u) (NotAsked v) s.1 t.1
  one_reason here (NotAsked u) NotBound s t = one_stands (NotAsked u) NotBound s.1 t.1
  one_reason here (NotAsked u) Derived s t = one_stands (NotAsked u) Derived s.1 t.1
  one_reason here NotBound (Faulty v) s t = absurd (fault_excludes c.goal v here t s.0)
  one_reason here NotBound (Held v) s t = one_stands NotBound (Held v) s.1 t.1
  one_reason here NotBound Missing s t = one_stands NotBound Missing s.1 t.1
  one_reason here NotBound (Answered v yv) s t = one_stands NotBound (Answered v yv) s.1 t.1
  one_reason here NotBound (NotAsked v) s t = one_stands NotBound (NotAsked v) s.1 t.1
  one_reason here NotBound NotBound s t = one_stands NotBound NotBound s.1 t.1
  one_reason here NotBound Derived s t = one_stands NotBound Derived s.1 t.1
  one_reason here Derived (Faulty v) s t = absurd (fault_excludes c.goal v here t s.0)
  one_reason here Derived (Held v) s t = one_stands Derived (Held v) s.1 t.1
  one_reason here Derived Missing s t = one_stands Derived Missing s.1 t.1
  one_reason here Derived (Answered v yv) s t = one_stands Derived (Answered v yv) s.1 t.1
  one_reason here Derived (NotAsked v) s t = one_stands Derived (NotAsked v) s.1 t.1
  one_reason here Derived NotBound s t = one_stands Derived NotBound s.1 t.1
  one_reason here Derived Derived s t = one_stands Derived Derived s.1 t.1

-- ---- Equal parts make equal wholes

object_same : (r q : ObjectReason) → r.entry ≡ q.entry → r.owner ≡ q.owner → r ≡ q
object_same r q a b = λ i. record { entry = a i; owner = b i }

holding_same : (a b : Holding) → a.said ≡ b.said → a.received ≡ b.received → a ≡ b
holding_same a b s r = λ i. record { said = s i; received = r i }

module _ {X : Type 0} where
  read_any : (xs : List X) (i : ℕ) → i < length xs → (x : X) × (slice_get xs i ≡ Some x)
  read_any [] i within = absurd (omega (arith, within))
  read_any (x ∷ xs) zero within = (x, refl)
  read_any (y ∷ xs) (suc i) within = read_any xs i (omega (arith, within))

  lists_same : (xs ys : List X) → length xs ≡ length ys → ((i : ℕ) (x y : X) → slice_get xs i ≡ Some x → slice_get ys i ≡ Some y → x ≡ y) → xs ≡ ys
  lists_same [] [] count each = refl
  lists_same [] (y ∷ ys) count each = absurd (omega (arith, count))
  lists_same (x ∷ xs) [] count each = absurd (omega (arith, count))
  lists_same (x ∷ xs) (y ∷ ys) count each = λ i. each 0 x y refl refl i ∷ lists_same xs ys (omega (arith, count)) (λ j a b p q. each (suc j) a b p q) i

-- ---- One explanation

reason_same : (h : Head) (es : List EntryTree) (p : ℕ) (c : CaseTree) (answers : List Bool) (proof : List LineTree) (k : ℕ) (l : LineTree) (decided : IsDecided c ⊎ (IsDecided c → ⊥))
    → (a b : LineReason) → Same h es p c answers proof k l decided a b → a ≡ b
reason_same h es p c answers proof k l decided (Faulty u) (Faulty v) same = ap Faulty same
reason_same h es p c answers proof k l decided (Held u) (Held v) same = ap Held (holding_same u v same.0 same.1)
reason_same h es p c answers proof k l decided Missing Missing same = refl
reason_same h es p c answers proof k l decided (Answered u yu) (Answered v yv) same = λ i. Answered (same.0 i) (same.1 i)
reason_same h es p c answers proof k l decided (NotAsked u) (NotAsked v) same = ap NotAsked same
reason_same h es p c answers proof k l decided NotBound NotBound same = refl
reason_same h es p c answers proof k l decided Derived Derived same = refl
reason_same h es p c answers proof k l decided _ _ same = absurd same

one_list : (h : Head) (es : List EntryTree) (p : ℕ) (c : CaseTree) (answers : List Bool) (proof : List LineTree) (xs ys : List LineReason) → (IsDecided c ⊎ (IsDecided c → ⊥))
    → AreLineReasons h es p c answers proof xs → AreLineReasons h es p c answers proof ys → xs ≡ ys
one_list h es p c answers proof xs ys decided a b = lists_same xs ys (a.count ∙ sym b.count) each
  where
    each : (i : ℕ) (x y : LineReason) → slice_get xs i ≡ Some x → slice_get ys i ≡ Some y → x ≡ y
    each i x y at bt =
        let within = slice_get_within xs i x at in
        let long = a.count in
        let line = read_any proof i (omega (arith, within, long)) in
        let number : i + 1 ≡ suc i = omega arith in
        reason_same h es p c answers proof (i + 1) line.0 decided x y
        (one_reason h es p c answers proof (i + 1) line.0 decided (ap (line_at proof) number ∙ line.1) x y (a.each i line.0 x line.1 at) (b.each i line.0 y line.1 bt))

-- a case with a verdict is decided without answers, or is not
decided_or_not : (c : CaseTree) (answers : List Bool) (v : Verdict) → IsVerdict c answers v → IsDecided c ⊎ (IsDecided c → ⊥)
decided_or_not c answers Allowed told = inr (λ d. told d.0 (unaffected c [] answers d.0 d.1 d.2))
decided_or_not c answers (Denied (AuthorityNo r)) told = inr (λ d. told.1 d.0 d.1 (unaffected c [] answers d.0 d.1 d.2))
decided_or_not c answers (Denied GoalUnset) told = inl (decides c answers GoalUnset (omega arith) told)
decided_or_not c answers (Denied NoProof) told = inl (decides c answers NoProof (omega arith) told)
decided_or_not c answers (Denied (Line j fault)) told = inl (decides c answers (Line j fault) (omega arith) told)
decided_or_not c answers (Denied (LabelMissing j)) told = inl (decides c answers (LabelMissing j) (omega arith) told)
decided_or_not c answers (Denied (Unbound j)) told = inl (decides c answers (Unbound j) (omega arith) told)

module _ (h : Head) (es : List EntryTree) (p : ℕ) (op object : List ℕ) (answers : List Bool) (k : ℕ) where
  goals_same : (a b : Option GoalReason) → IsGoalReason h es p op object k a → IsGoalReason h es p op object k b → SameGoal a b
  goals_same None None s t = tt
  goals_same None (Some b) s t = absurd (cc (sym s ∙ t.told))
  goals_same (Some a) None s t = absurd (cc (sym t ∙ s.told))
  goals_same (Some a) (Some b) s t = one_goal h es p op object k a b s t

  proofs_same : (a b : Option ProofReason) → (IsDecided (case_at h (replay h es) p op k) ⊎ (IsDecided (case_at h (replay h es) p op k) → ⊥))
      → IsProofReason h es p op object k answers a → IsProofReason h es p op object k answers b → SameProof a b
  proofs_same None None decided s t = tt
  proofs_same None (Some b) decided s t = absurd (cc (sym s ∙ t.0.told))
  proofs_same (Some a) None decided s t = absurd (cc (sym t ∙ s.0.told))
  proofs_same (Some a) (Some b) decided s t =
      let one = one_proof h es p op object k a b s.0 t.0 in
      let c = case_at h (replay h es) p op k in
      (one.0, one.1, one_list h es p c answers (line_trees a.proof) a.lines.items b.lines.items decided s.1 (subst (λ (ls : List LineTree). AreLineReasons h es p c answers ls b.lines.items) (sym one.1) t.1))

  same_explanation : (x y : Explanation) → IsExplanation h es p op object answers k x → IsExplanation h es p op object answers k y → SameExplanation x y
  same_explanation x y s t =
      let c = case_at h (replay h es) p op k in
      let o = one_object h es p op object k x.object y.object s.object_reason t.object_reason in
      record {
        verdict = one_verdict c answers x.verdict y.verdict s.verdict t.verdict;
        object_reason = object_same x.object y.object o.0 o.1;
        goal_reason = goals_same x.goal y.goal s.goal_reason t.goal_reason;
        proof_reason = proofs_same x.proof y.proof (decided_or_not c answers x.verdict s.verdict) s.proof_reason t.proof_reason;
      }

pub one_explanation : OneExplanation
one_explanation h es p op object answers NoObject NoObject s t = tt
one_explanation h es p op object answers NoObject (Known y) s t = absurd (cc (sym s ∙ t.1))
one_explanation h es p op object answers (Known x) NoObject s t = absurd (cc (sym t ∙ s.1))
one_explanation h es p op object answers (Known x) (Known y) s t =
    let same : t.0 ≡ s.0 = some_same (sym t.1 ∙ s.1) in
    same_explanation h es p op object answers s.0 x y s.2 (subst (λ (n : ℕ). IsExplanation h es p op object answers n y) same t.2)
