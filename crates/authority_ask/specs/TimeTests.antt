-- What a clock answers: the six forms of statements that compare the time with a number.
use Rattle.std.specs.Prelude.{ℕ, Bool, cond, nat_eq, nat_lt, nat_le, Option, Some, None, codes}
use Rattle.nal_term.specs.declared.formulas.Compare.{Compare}
use Rattle.nal_term.specs.declared.formulas.Compare.TheVariants.{Equal, Less, AtMost}
use Rattle.nal_term.specs.Trees.{TermTree, number, name, FormulaTree, test}
use Rattle.nal_term.specs.TreeKeys.{same_terms}
use Rattle.authority_ask.specs.declared.panels.Ask.{Ask}
use Rattle.authority_ask.specs.declared.panels.Ask.TheVariants.{Yes, No, Down}
use Rattle.authority_ask.specs.declared.time_tests.TimeTest.{TimeTest}
use Rattle.authority_ask.specs.declared.time_tests.TimeTest.TheVariants.{TimeFirst, TimeLast}

-- the name that stands for the time
abbrev pub time_now : TermTree
time_now = name (codes "TimeNow")

-- what a statement says of the time, where it has one of the six forms: it compares `TimeNow` with a number, by one of
-- the three comparisons, on the one side or on the other
abbrev pub time_test : FormulaTree → Option TimeTest
time_test (test compare left (number n)) = cond (same_terms left time_now) (Some (TimeFirst compare n)) None
time_test (test compare (number n) right) = cond (same_terms right time_now) (Some (TimeLast compare n)) None
time_test _ = None

-- whether a comparison of two numbers is true
abbrev pub compares : Compare → ℕ → ℕ → Bool
compares Equal left right = nat_eq left right
compares Less left right = nat_lt left right
compares AtMost left right = nat_le left right

-- whether what is said of the time is true at a time
abbrev pub is_true_at : ℕ → TimeTest → Bool
is_true_at now (TimeFirst compare n) = compares compare now n
is_true_at now (TimeLast compare n) = compares compare n now

-- the answer to what is said of the time, where the clock gave this
abbrev pub test_answer : Option ℕ → TimeTest → Ask
test_answer None said = Down
test_answer (Some now) said = cond (is_true_at now said) Yes No

-- the answer of a clock to a statement, where it gave this: every statement of no such form is answered No
abbrev pub clock_answer : Option ℕ → FormulaTree → Ask
clock_answer given f = answer (time_test f)
  where
    answer : Option TimeTest → Ask
    answer None = No
    answer (Some said) = test_answer given said
