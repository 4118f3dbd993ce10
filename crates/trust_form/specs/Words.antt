-- The words by which lines of an input of `trust` begin, between the subject and the end.
use Rattle.std.specs.Prelude.{ℕ, List, codes}
use Rattle.trust_form.specs.declared.words.Word.{Word}
use Rattle.trust_form.specs.declared.words.Word.TheVariants.{Label, Untrusted, Loose, Fact, Goal}

-- each with the space behind it
abbrev pub word_text : Word → List ℕ
word_text Label = codes "label "
word_text Untrusted = codes "untrusted "
word_text Loose = codes "loose "
word_text Fact = codes "fact "
word_text Goal = codes "goal "
