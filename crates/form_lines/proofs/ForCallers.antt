-- What a reader that goes line by line knows of the whole text.
use Rattle.std.proofs.Common.{◌≡◌, ◌≢◌, ◌==◌, ◌<◌, ◌≤◌, ◌+◌, ℕ, List, [], ◌∷◌, length, length-drop, Bool, true, false, refl, sym, subst, ◌∙◌, arith}
use Rattle.std.proofs.lemmas.Bool.Decides.{Decides-eqb}
use Rattle.text_lines.specs.Lines.{first_line, after_line, line_length}
use Rattle.form_lines.specs.Reading.{Leads, here, on, LeadsThrough, IsWrongAt}

module _ {Stage : Type 0} (Follows : Stage → List ℕ → Stage → Type 0) where
  -- one line more
  pub one_more : {stage last next : Stage} {text rest : List ℕ} {n : ℕ} → Leads Follows stage text n last rest → rest ≢ [] → Follows last (first_line rest) next
      → Leads Follows stage text (n + 1) next (after_line rest)
  one_more here some f = on some f here
  one_more (on some' f' l) some f = on some' f' (one_more l some f)

  -- whatever is read of the whole text is read of what is left at this stage
  abbrev pub PassesThrough : Stage → List ℕ → Stage → List ℕ → Type 0
  PassesThrough first text stage rest = (last : Stage) → LeadsThrough Follows first text last → LeadsThrough Follows stage rest last

  -- a step of what leads on from a text that is not empty
  abbrev IsStep : Stage → List ℕ → Stage → Type 0
  IsStep stage rest last = (next : Stage) × Follows stage (first_line rest) next × LeadsThrough Follows next (after_line rest) last

  step_of : {stage last : Stage} {rest end : List ℕ} {n : ℕ} → Leads Follows stage rest n last end → rest ≢ [] → end ≡ [] → IsStep stage rest last
  step_of here some e = absurd (some e)
  step_of {last = last} (on {next = next} {text = text} {n = n} some' f l) some e = (next, f, (n, subst (λ (r : List ℕ). Leads Follows next (after_line text) n last r) e l))

  step : (stage last : Stage) (rest : List ℕ) → rest ≢ [] → LeadsThrough Follows stage rest last → IsStep stage rest last
  step stage last rest some l = step_of l.1 some refl

  pub passes_start : (first : Stage) (text : List ℕ) → PassesThrough first text first text
  passes_start first text = λ last l. l

  -- where one stage alone may follow, all comes through it
  pub passes_on : (first stage next : Stage) (text rest : List ℕ) → PassesThrough first text stage rest → rest ≢ []
      → ((other : Stage) → Follows stage (first_line rest) other → other ≡ next) → PassesThrough first text next (after_line rest)
  passes_on first stage next text rest through some only last l =
      let s = step stage last rest some (through last l) in
      subst (λ (st : Stage). LeadsThrough Follows st (after_line rest) last) (only s.0 s.1) s.2

  -- where none may follow, nothing is read of the whole text
  pub unread : (first stage : Stage) (text rest : List ℕ) → PassesThrough first text stage rest → rest ≢ []
      → ((next : Stage) → Follows stage (first_line rest) next → ⊥) → (last : Stage) → LeadsThrough Follows first text last → ⊥
  unread first stage text rest through some none last l = let s = step stage last rest some (through last l) in none s.0 s.1

  end_of : {stage last : Stage} {rest end : List ℕ} {n : ℕ} → Leads Follows stage rest n last end → rest ≡ [] → stage ≡ last
  end_of here e = refl
  end_of (on some f l) e = absurd (some e)

  -- where nothing is left, the stage is the last one of whatever is read
  pub ends_here : (first stage : Stage) (text rest : List ℕ) → PassesThrough first text stage rest → rest ≡ [] → (last : Stage) → LeadsThrough Follows first text last → stage ≡ last
  ends_here first stage text rest through e last l = end_of (through last l).1 e

-- ---- What the test for the end says of what is left

pub some_left : (rest : List ℕ) (is_empty : Bool) → is_empty ≡ (length rest == 0) → is_empty ≡ false → rest ≡ [] → ⊥
some_left rest is_empty e f q = let t = (Decides-eqb (length rest) 0).1 (rw q refl) in absurd (cc (e, f, t))

pub none_left : (rest : List ℕ) (is_empty : Bool) → is_empty ≡ (length rest == 0) → is_empty ≡ true → rest ≡ []
none_left [] is_empty e t = refl
none_left (b ∷ rest) is_empty e t = let zero_long = (Decides-eqb (length (b ∷ rest)) 0).0 (sym e ∙ t) in absurd (omega (arith, zero_long))

pub long_left : (rest : List ℕ) → (rest ≡ [] → ⊥) → 0 < length rest
long_left [] some = absurd (some refl)
long_left (b ∷ rest) some = omega arith

-- ---- How many lines there can be

-- each line that was read is a byte or more
few_lines : {Stage : Type 0} {Follows : Stage → List ℕ → Stage → Type 0} {stage last : Stage} {text rest : List ℕ} {n : ℕ} → Leads Follows stage text n last rest
    → n + length rest ≤ length text
few_lines here = omega arith
few_lines (on {text = text} some f l) =
    let later = few_lines l in
    let long = long_left text some in
    let dropped = length-drop (line_length text + 1) text in
    omega (arith, later, long, dropped)

-- the number of a wrong line is at most one more than that of bytes
pub wrong_line_within : {Stage : Type 0} {Follows : Stage → List ℕ → Stage → Type 0} {IsEnd : Stage → Type 0} {first : Stage} {text : List ℕ} {k : ℕ} → IsWrongAt Follows IsEnd first text k
    → k ≤ length text + 1
wrong_line_within w = let few = few_lines w.led in let number = w.number in omega (arith, few, number)
