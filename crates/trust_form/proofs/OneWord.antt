-- A line begins with one word.
use Rattle.std.proofs.Common.{◌≡◌, ◌+◌, ◌++◌, ℕ, List, Option, Some, None, cond, eqb, get_or, refl, sym, ap, subst, ◌∙◌}
use Rattle.trust_form.specs.declared.words.Word.{Word}
use Rattle.trust_form.specs.declared.words.Word.TheVariants.{Label, Untrusted, Loose, Fact, Goal}
use Rattle.trust_form.specs.Words.{word_text}

-- the sum of the first two bytes tells the words apart
abbrev mark : List ℕ → ℕ
mark line = get_or line 0 0 + get_or line 1 0

abbrev marked : ℕ → Option Word
marked m =
    cond (eqb m 205) (Some Label) (cond (eqb m 227) (Some Untrusted) (cond (eqb m 219) (Some Loose) (cond (eqb m 199) (Some Fact) (cond (eqb m 214) (Some Goal) None))))

known : (w : Word) (rest : List ℕ) → marked (mark (word_text w ++ rest)) ≡ Some w
known Label rest = refl
known Untrusted rest = refl
known Loose rest = refl
known Fact rest = refl
known Goal rest = refl

some_same : {v w : Word} → Some v ≡ Some w → v ≡ w
some_same e = cc

rest_of : (w : Word) (x y : List ℕ) → word_text w ++ x ≡ word_text w ++ y → x ≡ y
rest_of Label x y e = cc
rest_of Untrusted x y e = cc
rest_of Loose x y e = cc
rest_of Fact x y e = cc
rest_of Goal x y e = cc

module _ (w v : Word) (line text other : List ℕ) (d : line ≡ word_text w ++ text) (e : line ≡ word_text v ++ other) where
  pub word_is : w ≡ v
  word_is = some_same (sym (known w text) ∙ ap (λ l. marked (mark l)) (sym d ∙ e) ∙ known v other)

  pub rest_is : text ≡ other
  rest_is = rest_of v text other (sym (subst (λ u. line ≡ word_text u ++ text) word_is d) ∙ e)
