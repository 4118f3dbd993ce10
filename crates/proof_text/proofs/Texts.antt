-- What the header and the lines of a text make of it.
use Rattle.std.proofs.Common.{◌≡◌, ℕ, ◌≤◌, inl, inr, List, ◌∷◌, length, Result, Ok, Err, IfOk, IfErr, Bool, false, IsTrue, subst, ◌∙◌, sym, arith}
use Rattle.proof_lines.specs.Lines.{LineTree}
use Rattle.proof_text.specs.declared.read.ProofError.{ProofError}
use Rattle.proof_text.specs.declared.read.ProofError.TheVariants as error
use Rattle.proof_text.specs.ProofText.{AreLines, AreWrong, IsHeader, IsTail, IsWrong, SpellsProof, IsMisspelled, segments}
use Rattle.proof_text.specs.ProofText.AreWrong.{header, body}
use Rattle.proof_text.specs.Inner.Lines.{IsBody}
use Rattle.proof_text.proofs.Walk.{wrong_lines}

pub ok_gives : {T E : Type 0} (r : Result T E) (P Q : T → Type 0) → ((x : T) → P x → Q x) → IfOk r P → IfOk r Q
ok_gives (Ok x) P Q f h = f x h
ok_gives (Err e) P Q f h = h

pub err_gives : {T E : Type 0} (r : Result T E) (P Q : E → Type 0) → ((x : E) → P x → Q x) → IfErr r P → IfErr r Q
err_gives (Ok x) P Q f h = h
err_gives (Err e) P Q f h = f e h

-- a test that answered false refutes its fact
pub refutes : (b : Bool) (P : Type 0) → (P → IsTrue b) → b ≡ false → P → ⊥
refutes b P f e h = let t = f h in cc

module _ (bytes first : List ℕ) (others : List (List ℕ)) (cut : segments bytes ≡ first ∷ others) where
  pub body_of : (ls : List LineTree) → SpellsProof bytes ls → IsBody others ls
  body_of ls p =
      let e : first ∷ others ≡ p.header ∷ p.others = sym cut ∙ p.cut in
      let same : p.others ≡ others = cc in
      record { after = p.after; body = subst (λ x. AreLines 1 x ls p.after) same p.body; tail = p.tail }

  pub header_refused : length bytes ≤ 32768 → (IsHeader first → ⊥) → IsMisspelled bytes error.BadHeader
  header_refused le no_header = inr (le, subst (λ x. AreWrong x error.BadHeader) (sym cut) (header no_header))

  pub body_refused : length bytes ≤ 32768 → IsHeader first → (e : ProofError) → IsWrong 1 others e → IsMisspelled bytes e
  body_refused le is e w = inr (le, subst (λ x. AreWrong x e) (sym cut) (body is w))

wrong_segments : {ss : List (List ℕ)} {e : ProofError} → AreWrong ss e → (first : List ℕ) (others : List (List ℕ)) → ss ≡ first ∷ others → IsHeader first → (ls : List LineTree) (after : List (List ℕ)) → AreLines 1 others ls after → IsTail after → ⊥
wrong_segments (header {segment = seg} {others = rest} no_header) first others cut is ls after lines tail =
    let same : first ≡ seg = cc (cut) in
    no_header (subst (λ x. IsHeader x) same is)
wrong_segments (body {segment = seg} {others = rest} has wrong) first others cut is ls after lines tail =
    let same : others ≡ rest = cc (cut) in
    wrong_lines wrong ls after (subst (λ x. AreLines 1 x ls after) same lines) tail

-- no text both spells a proof and spells none
pub not_both : (bytes : List ℕ) (e : ProofError) → IsMisspelled bytes e → (ls : List LineTree) → SpellsProof bytes ls → ⊥
not_both bytes e refused ls p =
    elim refused [
      | inl w ↦ absurd (omega (arith, w.0, p.length_limit))
      | inr w ↦ wrong_segments w.1 p.header p.others p.cut p.header_form ls p.after p.body p.tail
    ]
