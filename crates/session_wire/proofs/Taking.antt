-- What a link does over several takes.
use Rattle.std.proofs.Common.{◌≡◌, ◌≤◌, ◌+◌, ◌-◌, ℕ, List, [], ◌∷◌, ◌++◌, length, take, drop, Bool, false, refl, sym, ap, ◌∙◌, arith, append_assoc, length-append, length-drop}
use Rattle.std.specs.declared.option.Option.{Option}
use Rattle.std.proofs.Math.Seq.{take-append-add}
use Rattle.std.proofs.lemmas.List.{length-take-le}
use borrow.Rule.Slice.PartMut.{put_mid}
use Rattle.nx_io.specs.Links.{KeepsGoing, KeepsOrigin}
use Rattle.nx_io.specs.Streams.{prepended}
use Rattle.nx_io.proofs.ForCallers.{prepended-prepended}
use Rattle.session_wire.specs.Answers.{over_after_taking}
use Rattle.session_wire.specs.Inner.Taking.{Takes}
use Rattle.session_wire.proofs.Numbers.{rest_of}
use Rattle.session_wire.proofs.Putting.{put_rest}

-- bytes, and then others
pub takes-then : {l m n : Option (List ℕ)} {t u v a b : List ℕ} → Takes l m t u a → Takes m n u v b → Takes l n t v (a ++ b)
takes-then {l} {m} {n} {t} {u} {v} {a} {b} h k = record {
  taken_is = k.taken_is ∙ ap (λ (xs : List ℕ). xs ++ b) h.taken_is ∙ append_assoc t a b;
  left_is = h.left_is ∙ ap (prepended a) k.left_is ∙ prepended-prepended n a b;
}

-- bytes end that a link is over
pub over-ends : (a b : List ℕ) (over : Bool) → 1 ≤ length b → over_after_taking (a ++ b) over ≡ false
over-ends [] [] over h = absurd (omega arith)
over-ends [] (b ∷ bs) over h = refl
over-ends (x ∷ a) b over h = refl

-- a buffer after bytes were put behind those that stood in it
pub filled-more : (into part : List ℕ) (done n : ℕ) → done ≤ length into → take (done + n) (put_mid done (length into - done) into part) ≡ take done into ++ take n part
filled-more into part done n within =
    ap (take (done + n)) (put_rest done into part within)
    ∙ ap (λ (k : ℕ). take (k + n) (take done into ++ part)) (sym (length-take-le done into within))
    ∙ take-append-add (take done into) part n

pub filled-within : (into part : List ℕ) (done n : ℕ) → done ≤ length into → length part ≡ length (take (length into - done) (drop done into)) → n ≤ length part
    → done + n ≤ length (put_mid done (length into - done) into part)
filled-within into part done n within size enough =
    omega (arith, ap length (put_rest done into part within), length-append (take done into) part, length-take-le done into within, ap length (rest_of done into within), length-drop done into)

pub going-then : {s t u : List ℕ} {a b c : Bool} → KeepsGoing s t a b → KeepsGoing t u b c → KeepsGoing s u a c
going-then h k = record { sent_is = k.sent_is ∙ h.sent_is; closed_is = k.closed_is ∙ h.closed_is }

pub origin-then : {p q r : ℕ} {a b c : Option (List ℕ)} → KeepsOrigin p q a b → KeepsOrigin q r b c → KeepsOrigin p r a c
origin-then h k = record { place_is = k.place_is ∙ h.place_is; toward_is = k.toward_is ∙ h.toward_is }
