-- What a source gave in a run, and what is refused of it.
use Rattle.std.proofs.Common.{◌≡◌, ◌==◌, ◌<◌, ◌≤◌, ◌++◌, inl, inr, ℕ, List, length, false, IsTrue, Option, Some, None, Result, Ok, Err, IfOk, refl, sym, ap, subst, ◌∙◌, arith}
use Rattle.std.specs.declared.alloc.AllocError.{AllocError}
use Rattle.std.proofs.lemmas.Bool.Decides.{Decides-eqb}
use Rattle.std.proofs.lemmas.List.{append-nil, length-append}
use Rattle.std.specs.Io.KnownBytes.{IsAtEnd}
use Rattle.nx_io.specs.Streams.{prepended}
use Rattle.run_streams.specs.Flaws.{flaw_tree}
use Rattle.run_streams.specs.Inner.Unread.{IsUnread, wrong_by}
use Rattle.run_streams.specs.declared.flaws.Flaw.{Flaw}
use Rattle.run_streams.specs.declared.refusals.InputRefusal.{InputRefusal}
use Rattle.run_streams.specs.declared.refusals.InputRefusal.TheVariants.{WrongLine, TooLarge}
use Rattle.run_streams.specs.Refusals.{Form, IsRefusal, IsRefusalOf, IsRefusedInput}
use Rattle.run_streams.specs.Runs.{IsReadWhole, SourceRun, most_bytes}

some_same : (p q : List ℕ) → Some p ≡ Some q → p ≡ q
some_same p q s = cc

-- what a source that was read to its end gave is all that it had
known_whole : (left left_now : Option (List ℕ)) (gain text : List ℕ) → left ≡ prepended gain left_now → IsAtEnd left_now → left ≡ Some text → text ≡ gain
known_whole left None gain text e a h = absurd (cc (sym h ∙ e))
known_whole left (Some rest) gain text e a h =
    let same : text ≡ gain ++ rest = some_same _ _ (sym h ∙ e) in
    same ∙ ap (λ r. gain ++ r) a ∙ append-nil gain

-- a source that gave too much had too much
known_large : (left left_now : Option (List ℕ)) (gain text : List ℕ) → left ≡ prepended gain left_now → most_bytes < length gain → left ≡ Some text → most_bytes < length text
known_large left None gain text e large h = absurd (cc (sym h ∙ e))
known_large left (Some rest) gain text e large h =
    let same : text ≡ gain ++ rest = some_same _ _ (sym h ∙ e) in
    let sum = length-append gain rest in
    rw same (omega (arith, large, sum))

-- a source that was read to its end gave all that it had
pub read_whole : (source : SourceRun) (left_now : Option (List ℕ)) → source.known ≡ prepended source.given left_now → IsTrue source.over → IsAtEnd left_now → IsReadWhole source
read_whole source left_now taken over end = record { over = over; all = λ text h. known_whole source.known left_now source.given text taken end h }

-- an input that is refused, as the source gave it
pub refusal_given : {form : Form} (source : SourceRun) (left_now : Option (List ℕ)) (why : InputRefusal) (bytes : List ℕ) → source.known ≡ prepended source.given left_now → source.given ≡ bytes
    → IsTrue source.over → IsAtEnd left_now → IsRefusal form bytes why → IsRefusalOf form source why
refusal_given {form = form} source left_now why bytes taken same over end refused =
    let given : IsRefusal form source.given why = subst (λ (b : List ℕ). IsRefusal form b why) (sym same) refused in
    record {
      given = given;
      known = λ text h. subst (λ (b : List ℕ). IsRefusal form b why) (sym (known_whole source.known left_now source.given text taken end h)) given;
      whole = λ small. read_whole source left_now taken over end;
    }

pub too_large : {form : Form} (source : SourceRun) (left_now : Option (List ℕ)) → source.known ≡ prepended source.given left_now → most_bytes < length source.given → IsRefusalOf form source TooLarge
too_large source left_now taken large = record {
  given = large;
  known = λ text h. known_large source.known left_now source.given text taken large h;
  whole = λ other. absurd (other refl);
}

-- an input with a wrong line is refused for it, where what is wrong with it could be told
pub wrong_given : (form : Form) (source : SourceRun) (left_now : Option (List ℕ)) (k : ℕ) (flaw : Result Flaw AllocError) (bytes : List ℕ) → source.known ≡ prepended source.given left_now
    → source.given ≡ bytes → IsTrue source.over → IsAtEnd left_now → length bytes ≤ most_bytes → IfOk flaw (λ f. form.wrong bytes k (flaw_tree f)) → ¬ form.formed bytes
    → IsUnread form source (wrong_by k flaw)
wrong_given form source left_now k (Ok flaw) bytes taken same over end small wrong no_form =
    refusal_given {form = form} source left_now (WrongLine k flaw) bytes taken same over end (small, wrong, no_form)
wrong_given form source left_now k (Err e) bytes taken same over end small wrong no_form = tt

-- what is refused of an input
pub refused_by : (form : Form) (text : List ℕ) (why : InputRefusal) → IsRefusal form text why → IsRefusedInput form text
refused_by form text TooLarge r = inl r
refused_by form text (WrongLine k flaw) r = inr r.2

-- an input in its form is not refused
pub not_refused : (form : Form) (text : List ℕ) → length text ≤ most_bytes → form.formed text → IsRefusedInput form text → ⊥
not_refused form text small formed (inl large) = omega (arith, large, small)
not_refused form text small formed (inr no_form) = no_form formed

-- a status is one number
pub apart : (status m n : ℕ) → status ≡ m → status ≡ n → (m == n) ≡ false → ⊥
apart status m n e f h = let t = (Decides-eqb m n).1 (sym e ∙ f) in cc
