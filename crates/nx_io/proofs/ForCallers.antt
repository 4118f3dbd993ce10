-- Laws of histories, which the proofs of other crates may cite.
use Rattle.std.proofs.Common.{◌≡◌, ℕ, List, [], ◌++◌, refl, sym, ◌∙◌, ap, append_assoc}
use Rattle.std.specs.Prelude.{None, Some}
use Rattle.std.specs.declared.option.Option.{Option}
use Rattle.std.proofs.Math.Seq.{drop-append_seam}
use Rattle.std.proofs.lemmas.List.{append-nil}
use Rattle.nx_io.specs.Streams.{gained, Gave, Grows, prepended}

-- nothing in front
pub prepended-nil : (known : Option (List ℕ)) → prepended [] known ≡ known
prepended-nil None = refl
prepended-nil (Some known) = refl

-- one piece in front of another
pub prepended-prepended : (known : Option (List ℕ)) (a b : List ℕ) → prepended a (prepended b known) ≡ prepended (a ++ b) known
prepended-prepended None a b = refl
prepended-prepended (Some known) a b = rw append_assoc

-- a history to which this was appended gained it
pub gained-by : {A : Type 0} (before now gain : List A) → now ≡ before ++ gain → gained before now ≡ gain
gained-by before now gain e = ap (gained before) e ∙ drop-append_seam before gain

-- a history to which something was appended grew
pub grows-by : {A : Type 0} (before now gain : List A) → now ≡ before ++ gain → Grows before now
grows-by before now gain e = e ∙ ap (λ more. before ++ more) (sym (gained-by before now gain e))

-- a history that stays as it is gains nothing
pub grows-nothing : {A : Type 0} (history : List A) → Grows history history
grows-nothing history = grows-by history history [] (sym (append-nil history))

pub gained-nothing : {A : Type 0} (history : List A) → gained history history ≡ []
gained-nothing history = gained-by history history [] (sym (append-nil history))

-- a source gave these bytes
pub gave-by : (left left_now : Option (List ℕ)) (given given_now gain : List ℕ) → left ≡ prepended gain left_now → given_now ≡ given ++ gain → Gave left left_now given given_now
gave-by left left_now given given_now gain l g = record {
  grows = grows-by given given_now gain g;
  taken = l ∙ ap (λ more. prepended more left_now) (sym (gained-by given given_now gain g));
}

-- a source gave nothing
pub gave-nothing : (left : Option (List ℕ)) (given : List ℕ) → Gave left left given given
gave-nothing left given = gave-by left left given given [] (sym (prepended-nil left)) (sym (append-nil given))
