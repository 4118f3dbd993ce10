-- How the lines of a head are read.
use Rattle.std.proofs.Common.{◌≡◌, ◌≢◌, ◌<◌, ◌≤◌, ◌^◌, ℕ, List, [], ◌∷◌, ◌++◌, length, codes, inl, inr, Result, Ok, Err, OnOk, length-append, refl, sym, ap, ◌∙◌, subst, arith}
use Rattle.std.specs.Fmt.{decimal}
use Rattle.std.proofs.lemmas.Fmt.{decimal_injective}
use Rattle.std.proofs.lemmas.List.{get_or_push}
use Rattle.std.proofs.lemmas.List.Elements.{All-get_or}
use Rattle.nal_term.specs.Names.{IsName}
use Rattle.nal_term.specs.Secrets.{IsSecret}
use Rattle.policy_history.specs.declared.heads.Head.{Head}
use Rattle.policy_history.specs.declared.heads.Principal.{Principal}
use Rattle.policy_history.specs.declared.heads.Authority.{Authority}
use Rattle.policy_history.specs.Heads.{AreAuthorities, ArePrincipals, IsAuthority}
use Rattle.policy_history.specs.PolicyLines.{spaced}
use Rattle.journal_text.specs.PolicyText.{Follows, Stage, authority, end, entry, head_of, open_with, principal}
use Rattle.journal_text.specs.Inner.PolicyReading.{IsAuthorityOf, IsPrincipalOf, IsUnspaced}
use Rattle.journal_text.proofs.PolicyCuts.{cut_same, name_unspaced, number_unspaced}
use Rattle.journal_text.proofs.PolicyEntries.{head_line_no_entry}

pub both_ok : {T E : Type 0} (r : Result T E) {P Q R : Type 0} → (P → Q → R) → OnOk r P → OnOk r Q → OnOk r R
both_ok (Ok x) f p q = f p q
both_ok (Err e) f p q = tt

-- ---- Principals

same_principal : {a b line : List ℕ} → line ≡ codes "principal " ++ a → line ≡ codes "principal " ++ b → a ≡ b
same_principal d e = cc

same_authority : {a b line : List ℕ} → line ≡ codes "authority " ++ a → line ≡ codes "authority " ++ b → a ≡ b
same_authority d e = cc

-- no line begins with two bytes
differs : {line : List ℕ} (x y : ℕ) (xs ys : List ℕ) → x < y → line ≡ x ∷ xs → line ≡ y ∷ ys → ⊥
differs x y xs ys less d e = let h : x ≡ y = cc in absurd (omega (arith, h, less))

not_both : {a b line : List ℕ} → line ≡ codes "principal " ++ a → line ≡ codes "authority " ++ b → ⊥
not_both {a = a} {b = b} d e = differs 97 112 (codes "uthority " ++ b) (codes "rincipal " ++ a) (omega arith) e d

pub principal_not_end : {a line : List ℕ} → line ≡ codes "principal " ++ a → line ≡ codes "end" → ⊥
principal_not_end {a = a} d e = differs 101 112 (codes "nd") (codes "rincipal " ++ a) (omega arith) e d

pub authority_not_end : {a line : List ℕ} → line ≡ codes "authority " ++ a → line ≡ codes "end" → ⊥
authority_not_end {a = a} d e = differs 97 101 (codes "uthority " ++ a) (codes "nd") (omega arith) d e

pub principal_follows : {line text : List ℕ} {ps new : List Principal} {qs : List Authority} → line ≡ codes "principal " ++ text → qs ≡ []
    → (p : Principal) × IsPrincipalOf text p × (new ≡ ps ++ p ∷ []) → ArePrincipals new → Follows (open_with (head_of ps qs) []) line (open_with (head_of new qs) [])
principal_follows {line = line} {ps = ps} {new = new} {qs = qs} d none made are =
    let f : Follows (open_with (head_of ps []) []) line (open_with (head_of (ps ++ made.0 ∷ []) []) []) =
    principal made.0 (d ∙ ap (λ t. codes "principal " ++ t) made.1.formed) made.1.name made.1.secret (subst ArePrincipals made.2 are) in
    let g : Follows (open_with (head_of ps []) []) line (open_with (head_of new []) []) =
    subst (λ xs. Follows (open_with (head_of ps []) []) line (open_with (head_of xs []) [])) (sym made.2) f in
    subst (λ rs. Follows (open_with (head_of ps rs) []) line (open_with (head_of new rs) [])) (sym none) g

pub principal_only : {line text : List ℕ} (h : Head) (new : List Principal) → line ≡ codes "principal " ++ text → ((p : Principal) → IsPrincipalOf text p → new ≡ h.principals ++ p ∷ [])
    → (next : Stage) → Follows (open_with h []) line next → next ≡ open_with (head_of new h.authorities) []
principal_only h new d only next (principal p e n s are) =
    let made = only p (record { formed = same_principal d e; name = n; secret = s }) in
    sym (ap (λ xs. open_with (head_of xs []) []) made)
principal_only h new d only next (authority a e are) = absurd (not_both d e)
principal_only {line = line} {text = text} h new d only next (entry e l acc) = absurd (head_line_no_entry line (inl (text, d)) h e l)
principal_only h new d only next (end e) = absurd (principal_not_end d e)

pub principal_bad : {line text : List ℕ} (h : Head) → line ≡ codes "principal " ++ text → ((p : Principal) → IsPrincipalOf text p → ArePrincipals (h.principals ++ p ∷ []) → ⊥)
    → (next : Stage) → Follows (open_with h []) line next → ⊥
principal_bad h d bad next (principal p e n s are) = bad p (record { formed = same_principal d e; name = n; secret = s }) are
principal_bad h d bad next (authority a e are) = not_both d e
principal_bad {line = line} {text = text} h d bad next (entry e l acc) = head_line_no_entry line (inl (text, d)) h e l
principal_bad h d bad next (end e) = principal_not_end d e

-- no principal stands behind an authority
pub principal_late : {line text : List ℕ} (h : Head) → line ≡ codes "principal " ++ text → 0 < length h.authorities → (next : Stage) → Follows (open_with h []) line next → ⊥
principal_late h d some next (principal p e n s are) = absurd (omega arith)
principal_late h d some next (authority a e are) = not_both d e
principal_late {line = line} {text = text} h d some next (entry e l acc) = head_line_no_entry line (inl (text, d)) h e l
principal_late h d some next (end e) = principal_not_end d e

pub nothing_in : {X : Type 0} (xs : List X) → length xs ≤ 0 → xs ≡ []
nothing_in [] h = refl
nothing_in (x ∷ xs) h = absurd (omega arith)

-- the words of a principal's line
record HasParts (p : Principal) (name secret : List ℕ) : Type 0 where
  pub name_is : p.name ≡ name
  pub secret_is : p.secret ≡ secret

principal_parts : (text name secret : List ℕ) → text ≡ spaced name secret → IsUnspaced name → (p : Principal) → IsPrincipalOf text p → HasParts p name secret
principal_parts text name secret cut plain p of =
    let e = cut_same p.name p.secret name secret (sym of.formed ∙ cut) (name_unspaced p.name of.name) plain in
    record { name_is = e.0; secret_is = e.1 }

pub not_named : (text name secret : List ℕ) → text ≡ spaced name secret → IsUnspaced name → (IsName name → ⊥) → (p : Principal) → IsPrincipalOf text p → ⊥
not_named text name secret cut plain bad p of = bad (subst IsName (principal_parts text name secret cut plain p of).name_is of.name)

pub not_secret : (text name secret : List ℕ) → text ≡ spaced name secret → IsUnspaced name → (IsSecret secret → ⊥) → (p : Principal) → IsPrincipalOf text p → ⊥
not_secret text name secret cut plain bad p of = bad (subst IsSecret (principal_parts text name secret cut plain p of).secret_is of.secret)

pub sole_principal : (text name secret : List ℕ) (p : Principal) → text ≡ spaced name secret → IsUnspaced name → p.name ≡ name → p.secret ≡ secret
    → (other : Principal) → IsPrincipalOf text other → other ≡ p
sole_principal text name secret p cut plain n s other of =
    let e = principal_parts text name secret cut plain other of in
    let x : other.name ≡ p.name = e.name_is ∙ sym n in
    let y : other.secret ≡ p.secret = e.secret_is ∙ sym s in
    λ i. record { name = x i; secret = y i }

-- ---- Authorities

pub authority_follows : {line text : List ℕ} {ps : List Principal} {qs new : List Authority} → line ≡ codes "authority " ++ text
    → (a : Authority) × IsAuthorityOf text a × (new ≡ qs ++ a ∷ []) → AreAuthorities new → Follows (open_with (head_of ps qs) []) line (open_with (head_of ps new) [])
authority_follows {line = line} {ps = ps} {qs = qs} {new = new} d made are =
    let f : Follows (open_with (head_of ps qs) []) line (open_with (head_of ps (qs ++ made.0 ∷ [])) []) =
    authority made.0 (d ∙ ap (λ t. codes "authority " ++ t) made.1.formed) (subst AreAuthorities made.2 are) in
    subst (λ xs. Follows (open_with (head_of ps qs) []) line (open_with (head_of ps xs) [])) (sym made.2) f

pub last_port : (qs : List Authority) (a : Authority) → AreAuthorities (qs ++ a ∷ []) → a.port < 2 ^ 64
last_port qs a are =
    let e = get_or_push qs a a (length qs) refl in
    let l = length-append qs (a ∷ []) in
    let is : IsAuthority a = rw e at (All-get_or IsAuthority (qs ++ a ∷ []) (length qs) a (omega (arith, l)) are.each) in
    omega (arith, is.0)

pub authority_only : {line text : List ℕ} (h : Head) (new : List Authority) → line ≡ codes "authority " ++ text → ((a : Authority) → IsAuthorityOf text a → new ≡ h.authorities ++ a ∷ [])
    → (next : Stage) → Follows (open_with h []) line next → next ≡ open_with (head_of h.principals new) []
authority_only h new d only next (principal p e n s are) = absurd (not_both e d)
authority_only h new d only next (authority a e are) =
    let made = only a (record { formed = same_authority d e; port = last_port h.authorities a are }) in
    sym (ap (λ xs. open_with (head_of h.principals xs) []) made)
authority_only {line = line} {text = text} h new d only next (entry e l acc) = absurd (head_line_no_entry line (inr (text, d)) h e l)
authority_only h new d only next (end e) = absurd (authority_not_end d e)

pub authority_bad : {line text : List ℕ} (h : Head) → line ≡ codes "authority " ++ text → ((a : Authority) → IsAuthorityOf text a → AreAuthorities (h.authorities ++ a ∷ []) → ⊥)
    → (next : Stage) → Follows (open_with h []) line next → ⊥
authority_bad h d bad next (principal p e n s are) = not_both e d
authority_bad h d bad next (authority a e are) = bad a (record { formed = same_authority d e; port = last_port h.authorities a are }) are
authority_bad {line = line} {text = text} h d bad next (entry e l acc) = head_line_no_entry line (inr (text, d)) h e l
authority_bad h d bad next (end e) = authority_not_end d e

authority_parts : (text port address : List ℕ) → text ≡ spaced port address → IsUnspaced port → (a : Authority) → IsAuthorityOf text a → (decimal a.port ≡ port) × (a.address ≡ address)
authority_parts text port address cut plain a of =
    cut_same (decimal a.port) a.address port address (sym of.formed ∙ cut) (number_unspaced a.port of.port) plain

pub not_port : (text port address : List ℕ) → text ≡ spaced port address → IsUnspaced port → ((n : ℕ) → n < 2 ^ 64 → port ≢ decimal n) → (a : Authority) → IsAuthorityOf text a → ⊥
not_port text port address cut plain bad a of = bad a.port of.port (sym (authority_parts text port address cut plain a of).0)

pub sole_authority : (text port address : List ℕ) (b : Authority) → text ≡ spaced port address → IsUnspaced port → port ≡ decimal b.port → b.port < 2 ^ 64 → b.address ≡ address
    → (other : Authority) → IsAuthorityOf text other → other ≡ b
sole_authority text port address b cut plain n below s other of =
    let e = authority_parts text port address cut plain other of in
    let x : other.port ≡ b.port = decimal_injective other.port b.port of.port below (e.0 ∙ n) in
    let y : other.address ≡ b.address = e.1 ∙ sym s in
    λ i. record { port = x i; address = y i }
