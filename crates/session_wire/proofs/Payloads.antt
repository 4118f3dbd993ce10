-- Payloads: those of requests are the good ones, no payload is that of two requests, and none has two faults.
use Rattle.std.proofs.Common.{◌≡◌, ◌≤◌, ℕ, zero, suc, List, [], ◌∷◌, ◌++◌, length, Some, None, nat_le, not, ◌&&◌, refl, sym, ap, ◌∙◌, subst, arith, length-append}
use Rattle.std.proofs.lemmas.Bool.{and_parts}
use Rattle.std.proofs.lemmas.Bool.Decides.{nat_tests}
use Rattle.std.proofs.lemmas.List.{append-nil}
use Rattle.std.specs.List.{list_all}
use Rattle.nal_term.specs.Names.{IsName, is_word, is_reserved}
use Rattle.nal_term.specs.Secrets.{IsSecret, is_secret_byte}
use Rattle.session_wire.specs.declared.requests.Request.{Request}
use Rattle.session_wire.specs.declared.requests.Request.TheVariants.{Hello, Say, Transfer, Delete, NewObject, SetGoal, ClearGoal, SetProof, ClearProof, Bind, Unbind, Call, See}
use Rattle.session_wire.specs.declared.fields.Sort.{Sort}
use Rattle.session_wire.specs.declared.fields.Sort.TheVariants.{Name, Secret, Text, Number}
use Rattle.session_wire.specs.declared.fields.FrameFault.{FrameFault}
use Rattle.session_wire.specs.declared.fields.FrameFault.TheVariants.{TooLong, BadKind, BadField, Trailing}
use Rattle.session_wire.specs.Frames.{HasFittingParts, IsNumber64, IsShort, most_payload, number_bytes, request_payload, text_bytes}
use Rattle.session_wire.specs.Fields.{BeginsField, BeginsFields, BeginsNoField, HasBadField, HasBadKind, HasFault, HasTrailing, IsGoodPayload, sorts_of_kind}
use Rattle.session_wire.specs.Inner.Writing.{HasShortTexts}
use Rattle.session_wire.proofs.Numbers.{length-text_bytes, one_number, one_text}

pub name_is_short : (name : List ℕ) → IsName name → IsShort name
name_is_short name h =
    let w = and_parts (is_word name && nat_le (length name) 64) (not (is_reserved name)) h in
    let r = and_parts (is_word name) (nat_le (length name) 64) w.0 in
    let short : length name ≤ 64 = grind (arith, nat_tests, r.1) in
    omega arith

pub secret_is_short : (secret : List ℕ) → IsSecret secret → IsShort secret
secret_is_short secret h =
    let w = and_parts (list_all is_secret_byte secret && nat_le 1 (length secret)) (nat_le (length secret) 64) h in
    let short : length secret ≤ 64 = grind (arith, nat_tests, w.1) in
    omega arith

-- what follows a field is known by the field's sort
pub one_field : (sort : Sort) (bytes x y : List ℕ) → BeginsField sort bytes x → BeginsField sort bytes y → x ≡ y
one_field Name bytes x y h k =
    (one_text h.0 k.0 x y (name_is_short h.0 h.1) (name_is_short k.0 k.1) (sym h.2 ∙ k.2)).1
one_field Secret bytes x y h k =
    (one_text h.0 k.0 x y (secret_is_short h.0 h.1) (secret_is_short k.0 k.1) (sym h.2 ∙ k.2)).1
one_field Text bytes x y h k = (one_text h.0 k.0 x y h.1 k.1 (sym h.2 ∙ k.2)).1
one_field Number bytes x y h k = (one_number h.0 k.0 x y h.1 k.1 (sym h.2 ∙ k.2)).1

-- what follows fields is known by their sorts
pub one_fields : (sorts : List Sort) (bytes x y : List ℕ) → BeginsFields sorts bytes x → BeginsFields sorts bytes y → x ≡ y
one_fields [] bytes x y h k = sym h ∙ k
one_fields (sort ∷ sorts) bytes x y h k =
    let same = one_field sort bytes h.0 k.0 h.1 k.1 in
    one_fields sorts k.0 x y (subst (λ more. BeginsFields sorts more x) same h.2) k.2

-- fields that stand up to one that does not: there is one first such place
one_bad_field : (before after before2 after2 : List Sort) (sort sort2 : Sort) (bytes x y : List ℕ) → before ++ sort ∷ after ≡ before2 ++ sort2 ∷ after2
    → BeginsFields before bytes x → BeginsNoField sort x → BeginsFields before2 bytes y → BeginsNoField sort2 y → x ≡ y
one_bad_field [] after [] after2 sort sort2 bytes x y e h none k none2 = sym h ∙ k
one_bad_field [] after (s ∷ before2) after2 sort sort2 bytes x y e h none k none2 =
    let same : s ≡ sort = cc in
    let first : BeginsField sort bytes k.0 = subst (λ (t : Sort). BeginsField t bytes k.0) same k.1 in
    absurd (none k.0 (subst (λ (bs : List ℕ). BeginsField sort bs k.0) h first))
one_bad_field (s ∷ before) after [] after2 sort sort2 bytes x y e h none k none2 =
    let same : s ≡ sort2 = cc in
    let first : BeginsField sort2 bytes h.0 = subst (λ (t : Sort). BeginsField t bytes h.0) same h.1 in
    absurd (none2 h.0 (subst (λ (bs : List ℕ). BeginsField sort2 bs h.0) k first))
one_bad_field (s ∷ before) after (s2 ∷ before2) after2 sort sort2 bytes x y e h none k none2 =
    let same : s ≡ s2 = cc in
    let tails : before ++ sort ∷ after ≡ before2 ++ sort2 ∷ after2 = cc in
    let mores : h.0 ≡ k.0 = one_field s2 bytes h.0 k.0 (subst (λ (t : Sort). BeginsField t bytes h.0) same h.1) k.1 in
    one_bad_field before after before2 after2 sort sort2 k.0 x y tails (subst (λ more. BeginsFields before more x) mores h.2) none k.2 none2

-- where all fields stand, none is the first that does not
no_bad_field : (before after : List Sort) (sort : Sort) (bytes x y : List ℕ) → BeginsFields before bytes x → BeginsNoField sort x → BeginsFields (before ++ sort ∷ after) bytes y → ⊥
no_bad_field [] after sort bytes x y h none k = none k.0 (subst (λ (bs : List ℕ). BeginsField sort bs k.0) h k.1)
no_bad_field (s ∷ before) after sort bytes x y h none k =
    let mores : h.0 ≡ k.0 = one_field s bytes h.0 k.0 h.1 k.1 in
    no_bad_field before after sort k.0 x y (subst (λ more. BeginsFields before more x) mores h.2) none k.2

known_is_not_bad : (payload : List ℕ) (kind : ℕ) (body : List ℕ) (sorts : List Sort) → payload ≡ kind ∷ body → sorts_of_kind kind ≡ Some sorts → HasBadKind payload → ⊥
known_is_not_bad payload kind body sorts whole known bad =
    let none : sorts_of_kind kind ≡ None = subst HasBadKind whole bad in
    cc

-- a good payload has no fault
pub no_fault : (payload : List ℕ) (fault : FrameFault) (place : ℕ) → IsGoodPayload payload → HasFault fault payload place → ⊥
no_fault payload TooLong place good bad = bad
no_fault payload BadKind place good bad = known_is_not_bad payload good.kind good.body good.sorts good.whole good.known bad.1
no_fault payload BadField place good bad =
    let kinds : good.kind ≡ bad.kind = cc in
    let bodies : good.body ≡ bad.body = cc in
    let sorts : good.sorts ≡ bad.before ++ bad.sort ∷ bad.after = cc in
    no_bad_field bad.before bad.after bad.sort bad.body bad.rest [] bad.fields bad.none (rw (← sorts, ← bodies) good.fields)
no_fault payload Trailing place good bad =
    let kinds : good.kind ≡ bad.kind = cc in
    let bodies : good.body ≡ bad.body = cc in
    let sorts : good.sorts ≡ bad.sorts = cc in
    bad.more (one_fields bad.sorts bad.body bad.rest [] bad.fields (rw (← sorts, ← bodies) good.fields))

bad_and_trailing : (payload : List ℕ) (i j : ℕ) → HasBadField payload i → HasTrailing payload j → ⊥
bad_and_trailing payload i j bad over =
    let kinds : over.kind ≡ bad.kind = cc in
    let bodies : over.body ≡ bad.body = cc in
    let sorts : over.sorts ≡ bad.before ++ bad.sort ∷ bad.after = cc in
    no_bad_field bad.before bad.after bad.sort bad.body bad.rest over.rest bad.fields bad.none (rw (← sorts, ← bodies) over.fields)

two_bad_fields : (payload : List ℕ) (i j : ℕ) → HasBadField payload i → HasBadField payload j → i ≡ j
two_bad_fields payload i j a b =
    let kinds : a.kind ≡ b.kind = cc in
    let bodies : a.body ≡ b.body = cc in
    let sorts : a.before ++ a.sort ∷ a.after ≡ b.before ++ b.sort ∷ b.after = cc in
    let rests : a.rest ≡ b.rest = one_bad_field a.before a.after b.before b.after a.sort b.sort a.body a.rest b.rest sorts a.fields a.none (rw bodies b.fields) b.none in
    omega (arith, a.at, b.at, ap length rests)

two_trailings : (payload : List ℕ) (i j : ℕ) → HasTrailing payload i → HasTrailing payload j → i ≡ j
two_trailings payload i j a b =
    let kinds : a.kind ≡ b.kind = cc in
    let bodies : a.body ≡ b.body = cc in
    let sorts : a.sorts ≡ b.sorts = cc in
    let rests : a.rest ≡ b.rest = one_fields b.sorts b.body a.rest b.rest (rw (← sorts, ← bodies) a.fields) b.fields in
    omega (arith, a.at, b.at, ap length rests)

-- no payload has two faults, or one at two places
pub one_fault : (payload : List ℕ) (f g : FrameFault) (i j : ℕ) → HasFault f payload i → HasFault g payload j → (f ≡ g) × (i ≡ j)
one_fault payload TooLong g i j a b = absurd a
one_fault payload f TooLong i j a b = absurd b
one_fault payload BadKind BadKind i j a b = (refl, a.0 ∙ sym b.0)
one_fault payload BadKind BadField i j a b = absurd (known_is_not_bad payload b.kind b.body (b.before ++ b.sort ∷ b.after) b.whole b.known a.1)
one_fault payload BadKind Trailing i j a b = absurd (known_is_not_bad payload b.kind b.body b.sorts b.whole b.known a.1)
one_fault payload BadField BadKind i j a b = absurd (known_is_not_bad payload a.kind a.body (a.before ++ a.sort ∷ a.after) a.whole a.known b.1)
one_fault payload BadField BadField i j a b = (refl, two_bad_fields payload i j a b)
one_fault payload BadField Trailing i j a b = absurd (bad_and_trailing payload i j a b)
one_fault payload Trailing BadKind i j a b = absurd (known_is_not_bad payload a.kind a.body a.sorts a.whole a.known b.1)
one_fault payload Trailing BadField i j a b = absurd (bad_and_trailing payload j i b a)
one_fault payload Trailing Trailing i j a b = (refl, two_trailings payload i j a b)

-- the last field is followed by nothing
pub last : (bytes field more : List ℕ) → bytes ≡ field ++ more → more ≡ [] → bytes ≡ field
last bytes field more e nothing = e ∙ ap (λ (xs : List ℕ). field ++ xs) nothing ∙ append-nil field

-- a field and then others
pub then : (bytes field more others : List ℕ) → bytes ≡ field ++ more → more ≡ others → bytes ≡ field ++ others
then bytes field more others e o = e ∙ ap (λ (xs : List ℕ). field ++ xs) o

-- fields of the sorts of a kind
fields_of : (body : List ℕ) (due sorts : List Sort) → Some due ≡ Some sorts → BeginsFields sorts body [] → BeginsFields due body []
fields_of body due sorts e f =
    let same : sorts ≡ due = cc in
    subst (λ (ss : List Sort). BeginsFields ss body []) same f

-- the payload is that of some request
abbrev pub IsOfRequest : List ℕ → Type 0
IsOfRequest payload = (q : Request) × HasFittingParts q × (payload ≡ request_payload q)

of_kind : (kind : ℕ) (body : List ℕ) (sorts : List Sort) → sorts_of_kind kind ≡ Some sorts → BeginsFields sorts body [] → IsOfRequest (kind ∷ body)
unfolding sorts_of_kind
of_kind zero body sorts e f = cc
of_kind (suc zero) body sorts e f =
    let g = fields_of body (Name ∷ Secret ∷ []) sorts e f in
    (Hello g.1.0 g.2.1.0, (g.1.1, g.2.1.1), ap (λ (xs : List ℕ). 1 ∷ xs) (then body (text_bytes g.1.0) g.0 (text_bytes g.2.1.0) g.1.2 (last g.0 (text_bytes g.2.1.0) g.2.0 g.2.1.2 g.2.2)))
of_kind (suc (suc zero)) body sorts e f =
    let g = fields_of body (Text ∷ Text ∷ []) sorts e f in
    (Say g.1.0 g.2.1.0, (g.1.1, g.2.1.1), ap (λ (xs : List ℕ). 2 ∷ xs) (then body (text_bytes g.1.0) g.0 (text_bytes g.2.1.0) g.1.2 (last g.0 (text_bytes g.2.1.0) g.2.0 g.2.1.2 g.2.2)))
of_kind (suc (suc (suc zero))) body sorts e f =
    let g = fields_of body (Number ∷ Name ∷ []) sorts e f in
    (Transfer g.1.0 g.2.1.0, (g.1.1, g.2.1.1), ap (λ (xs : List ℕ). 3 ∷ xs) (then body (number_bytes g.1.0) g.0 (text_bytes g.2.1.0) g.1.2 (last g.0 (text_bytes g.2.1.0) g.2.0 g.2.1.2 g.2.2)))
of_kind (suc (suc (suc (suc zero)))) body sorts e f =
    let g = fields_of body (Number ∷ []) sorts e f in
    (Delete g.1.0, g.1.1, ap (λ (xs : List ℕ). 4 ∷ xs) (last body (number_bytes g.1.0) g.0 g.1.2 g.2))
of_kind (suc (suc (suc (suc (suc zero))))) body sorts e f =
    let g = fields_of body (Name ∷ []) sorts e f in
    (NewObject g.1.0, g.1.1, ap (λ (xs : List ℕ). 5 ∷ xs) (last body (text_bytes g.1.0) g.0 g.1.2 g.2))
of_kind (suc (suc (suc (suc (suc (suc zero)))))) body sorts e f =
    let g = fields_of body (Name ∷ Name ∷ Text ∷ []) sorts e f in
    (SetGoal g.1.0 g.2.1.0 g.2.2.1.0, (g.1.1, g.2.1.1, g.2.2.1.1), ap (λ (xs : List ℕ). 6 ∷ xs) (then body (text_bytes g.1.0) g.0 (text_bytes g.2.1.0 ++ text_bytes g.2.2.1.0) g.1.2 (then g.0 (text_bytes g.2.1.0) g.2.0 (text_bytes g.2.2.1.0) g.2.1.2 (last g.2.0 (text_bytes g.2.2.1.0) g.2.2.0 g.2.2.1.2 g.2.2.2))))
of_kind (suc (suc (suc (suc (suc (suc (suc zero))))))) body sorts e f =
    let g = fields_of body (Name ∷ Name ∷ []) sorts e f in
    (ClearGoal g.1.0 g.2.1.0, (g.1.1, g.2.1.1), ap (λ (xs : List ℕ). 7 ∷ xs) (then body (text_bytes g.1.0) g.0 (text_bytes g.2.1.0) g.1.2 (last g.0 (text_bytes g.2.1.0) g.2.0 g.2.1.2 g.2.2)))
of_kind (suc (suc (suc (suc (suc (suc (suc (suc zero)))))))) body sorts e f =
    let g = fields_of body (Name ∷ Name ∷ Text ∷ []) sorts e f in
    (SetProof g.1.0 g.2.1.0 g.2.2.1.0, (g.1.1, g.2.1.1, g.2.2.1.1), ap (λ (xs : List ℕ). 8 ∷ xs) (then body (text_bytes g.1.0) g.0 (text_bytes g.2.1.0 ++ text_bytes g.2.2.1.0) g.1.2 (then g.0 (text_bytes g.2.1.0) g.2.0 (text_bytes g.2.2.1.0) g.2.1.2 (last g.2.0 (text_bytes g.2.2.1.0) g.2.2.0 g.2.2.1.2 g.2.2.2))))
of_kind (suc (suc (suc (suc (suc (suc (suc (suc (suc zero))))))))) body sorts e f =
    let g = fields_of body (Name ∷ Name ∷ []) sorts e f in
    (ClearProof g.1.0 g.2.1.0, (g.1.1, g.2.1.1), ap (λ (xs : List ℕ). 9 ∷ xs) (then body (text_bytes g.1.0) g.0 (text_bytes g.2.1.0) g.1.2 (last g.0 (text_bytes g.2.1.0) g.2.0 g.2.1.2 g.2.2)))
of_kind (suc (suc (suc (suc (suc (suc (suc (suc (suc (suc zero)))))))))) body sorts e f =
    let g = fields_of body (Text ∷ Number ∷ []) sorts e f in
    (Bind g.1.0 g.2.1.0, (g.1.1, g.2.1.1), ap (λ (xs : List ℕ). 10 ∷ xs) (then body (text_bytes g.1.0) g.0 (number_bytes g.2.1.0) g.1.2 (last g.0 (number_bytes g.2.1.0) g.2.0 g.2.1.2 g.2.2)))
of_kind (suc (suc (suc (suc (suc (suc (suc (suc (suc (suc (suc zero))))))))))) body sorts e f =
    let g = fields_of body (Text ∷ []) sorts e f in
    (Unbind g.1.0, g.1.1, ap (λ (xs : List ℕ). 11 ∷ xs) (last body (text_bytes g.1.0) g.0 g.1.2 g.2))
of_kind (suc (suc (suc (suc (suc (suc (suc (suc (suc (suc (suc (suc zero)))))))))))) body sorts e f =
    let g = fields_of body (Name ∷ Name ∷ Number ∷ []) sorts e f in
    (Call g.1.0 g.2.1.0 g.2.2.1.0, (g.1.1, g.2.1.1, g.2.2.1.1), ap (λ (xs : List ℕ). 12 ∷ xs) (then body (text_bytes g.1.0) g.0 (text_bytes g.2.1.0 ++ number_bytes g.2.2.1.0) g.1.2 (then g.0 (text_bytes g.2.1.0) g.2.0 (number_bytes g.2.2.1.0) g.2.1.2 (last g.2.0 (number_bytes g.2.2.1.0) g.2.2.0 g.2.2.1.2 g.2.2.2))))
of_kind (suc (suc (suc (suc (suc (suc (suc (suc (suc (suc (suc (suc (suc zero))))))))))))) body sorts e f =
    let g = fields_of body (Number ∷ []) sorts e f in
    (See g.1.0, g.1.1, ap (λ (xs : List ℕ). 13 ∷ xs) (last body (number_bytes g.1.0) g.0 g.1.2 g.2))
of_kind (suc (suc (suc (suc (suc (suc (suc (suc (suc (suc (suc (suc (suc (suc k)))))))))))))) body sorts e f = cc

-- a good payload is that of a request
pub good_is_of_request : (payload : List ℕ) → IsGoodPayload payload → IsOfRequest payload
good_is_of_request payload good =
    subst IsOfRequest (sym good.whole) (of_kind good.kind good.body good.sorts good.known good.fields)

-- the payload of a request is good
pub request_is_good : (q : Request) → HasFittingParts q → IsGoodPayload (request_payload q)
unfolding sorts_of_kind
request_is_good (Hello a b) h = record { kind = 1; body = text_bytes a ++ text_bytes b; sorts = Name ∷ Secret ∷ []; whole = refl; known = refl; fields = (text_bytes b, (a, h.0, refl), ([], (b, h.1, sym (append-nil (text_bytes b))), refl)) }
request_is_good (Say a b) h = record { kind = 2; body = text_bytes a ++ text_bytes b; sorts = Text ∷ Text ∷ []; whole = refl; known = refl; fields = (text_bytes b, (a, h.0, refl), ([], (b, h.1, sym (append-nil (text_bytes b))), refl)) }
request_is_good (Transfer a b) h = record { kind = 3; body = number_bytes a ++ text_bytes b; sorts = Number ∷ Name ∷ []; whole = refl; known = refl; fields = (text_bytes b, (a, h.0, refl), ([], (b, h.1, sym (append-nil (text_bytes b))), refl)) }
request_is_good (Delete a) h = record { kind = 4; body = number_bytes a; sorts = Number ∷ []; whole = refl; known = refl; fields = ([], (a, h, sym (append-nil (number_bytes a))), refl) }
request_is_good (NewObject a) h = record { kind = 5; body = text_bytes a; sorts = Name ∷ []; whole = refl; known = refl; fields = ([], (a, h, sym (append-nil (text_bytes a))), refl) }
request_is_good (SetGoal a b c) h = record { kind = 6; body = text_bytes a ++ (text_bytes b ++ text_bytes c); sorts = Name ∷ Name ∷ Text ∷ []; whole = refl; known = refl; fields = ((text_bytes b ++ text_bytes c), (a, h.0, refl), (text_bytes c, (b, h.1, refl), ([], (c, h.2, sym (append-nil (text_bytes c))), refl))) }
request_is_good (ClearGoal a b) h = record { kind = 7; body = text_bytes a ++ text_bytes b; sorts = Name ∷ Name ∷ []; whole = refl; known = refl; fields = (text_bytes b, (a, h.0, refl), ([], (b, h.1, sym (append-nil (text_bytes b))), refl)) }
request_is_good (SetProof a b c) h = record { kind = 8; body = text_bytes a ++ (text_bytes b ++ text_bytes c); sorts = Name ∷ Name ∷ Text ∷ []; whole = refl; known = refl; fields = ((text_bytes b ++ text_bytes c), (a, h.0, refl), (text_bytes c, (b, h.1, refl), ([], (c, h.2, sym (append-nil (text_bytes c))), refl))) }
request_is_good (ClearProof a b) h = record { kind = 9; body = text_bytes a ++ text_bytes b; sorts = Name ∷ Name ∷ []; whole = refl; known = refl; fields = (text_bytes b, (a, h.0, refl), ([], (b, h.1, sym (append-nil (text_bytes b))), refl)) }
request_is_good (Bind a b) h = record { kind = 10; body = text_bytes a ++ number_bytes b; sorts = Text ∷ Number ∷ []; whole = refl; known = refl; fields = (number_bytes b, (a, h.0, refl), ([], (b, h.1, sym (append-nil (number_bytes b))), refl)) }
request_is_good (Unbind a) h = record { kind = 11; body = text_bytes a; sorts = Text ∷ []; whole = refl; known = refl; fields = ([], (a, h, sym (append-nil (text_bytes a))), refl) }
request_is_good (Call a b c) h = record { kind = 12; body = text_bytes a ++ (text_bytes b ++ number_bytes c); sorts = Name ∷ Name ∷ Number ∷ []; whole = refl; known = refl; fields = ((text_bytes b ++ number_bytes c), (a, h.0, refl), (number_bytes c, (b, h.1, refl), ([], (c, h.2, sym (append-nil (number_bytes c))), refl))) }
request_is_good (See a) h = record { kind = 13; body = number_bytes a; sorts = Number ∷ []; whole = refl; known = refl; fields = ([], (a, h, sym (append-nil (number_bytes a))), refl) }

-- a last text and a last number are what their bytes tell
last_text : (s t : List ℕ) → IsShort s → IsShort t → text_bytes s ≡ text_bytes t → s ≡ t
last_text s t h k e = (one_text s t [] [] h k (append-nil (text_bytes s) ∙ e ∙ sym (append-nil (text_bytes t)))).0

last_number : (n m : ℕ) → IsNumber64 n → IsNumber64 m → number_bytes n ≡ number_bytes m → n ≡ m
last_number n m h k e = (one_number n m [] [] h k (append-nil (number_bytes n) ∙ e ∙ sym (append-nil (number_bytes m)))).0

-- two requests with one payload are one
pub one_payload : (q r : Request) → HasFittingParts q → HasFittingParts r → request_payload q ≡ request_payload r → q ≡ r
one_payload (Hello a b) (Hello u v) h k e =
    let e0 : text_bytes a ++ text_bytes b ≡ text_bytes u ++ text_bytes v = cc in
    let e1 = one_text a u (text_bytes b) (text_bytes v) (name_is_short a h.0) (name_is_short u k.0) e0 in
    let e2 = last_text b v (secret_is_short b h.1) (secret_is_short v k.1) e1.1 in cc
one_payload (Say a b) (Say u v) h k e =
    let e0 : text_bytes a ++ text_bytes b ≡ text_bytes u ++ text_bytes v = cc in
    let e1 = one_text a u (text_bytes b) (text_bytes v) h.0 k.0 e0 in
    let e2 = last_text b v h.1 k.1 e1.1 in cc
one_payload (Transfer a b) (Transfer u v) h k e =
    let e0 : number_bytes a ++ text_bytes b ≡ number_bytes u ++ text_bytes v = cc in
    let e1 = one_number a u (text_bytes b) (text_bytes v) h.0 k.0 e0 in
    let e2 = last_text b v (name_is_short b h.1) (name_is_short v k.1) e1.1 in cc
one_payload (Delete a) (Delete u) h k e =
    let e0 : number_bytes a ≡ number_bytes u = cc in
    let e1 = last_number a u h k e0 in cc
one_payload (NewObject a) (NewObject u) h k e =
    let e0 : text_bytes a ≡ text_bytes u = cc in
    let e1 = last_text a u (name_is_short a h) (name_is_short u k) e0 in cc
one_payload (SetGoal a b c) (SetGoal u v w) h k e =
    let e0 : text_bytes a ++ (text_bytes b ++ text_bytes c) ≡ text_bytes u ++ (text_bytes v ++ text_bytes w) = cc in
    let e1 = one_text a u (text_bytes b ++ text_bytes c) (text_bytes v ++ text_bytes w) (name_is_short a h.0) (name_is_short u k.0) e0 in
    let e2 = one_text b v (text_bytes c) (text_bytes w) (name_is_short b h.1) (name_is_short v k.1) e1.1 in
    let e3 = last_text c w h.2 k.2 e2.1 in cc
one_payload (ClearGoal a b) (ClearGoal u v) h k e =
    let e0 : text_bytes a ++ text_bytes b ≡ text_bytes u ++ text_bytes v = cc in
    let e1 = one_text a u (text_bytes b) (text_bytes v) (name_is_short a h.0) (name_is_short u k.0) e0 in
    let e2 = last_text b v (name_is_short b h.1) (name_is_short v k.1) e1.1 in cc
one_payload (SetProof a b c) (SetProof u v w) h k e =
    let e0 : text_bytes a ++ (text_bytes b ++ text_bytes c) ≡ text_bytes u ++ (text_bytes v ++ text_bytes w) = cc in
    let e1 = one_text a u (text_bytes b ++ text_bytes c) (text_bytes v ++ text_bytes w) (name_is_short a h.0) (name_is_short u k.0) e0 in
    let e2 = one_text b v (text_bytes c) (text_bytes w) (name_is_short b h.1) (name_is_short v k.1) e1.1 in
    let e3 = last_text c w h.2 k.2 e2.1 in cc
one_payload (ClearProof a b) (ClearProof u v) h k e =
    let e0 : text_bytes a ++ text_bytes b ≡ text_bytes u ++ text_bytes v = cc in
    let e1 = one_text a u (text_bytes b) (text_bytes v) (name_is_short a h.0) (name_is_short u k.0) e0 in
    let e2 = last_text b v (name_is_short b h.1) (name_is_short v k.1) e1.1 in cc
one_payload (Bind a b) (Bind u v) h k e =
    let e0 : text_bytes a ++ number_bytes b ≡ text_bytes u ++ number_bytes v = cc in
    let e1 = one_text a u (number_bytes b) (number_bytes v) h.0 k.0 e0 in
    let e2 = last_number b v h.1 k.1 e1.1 in cc
one_payload (Unbind a) (Unbind u) h k e =
    let e0 : text_bytes a ≡ text_bytes u = cc in
    let e1 = last_text a u h k e0 in cc
one_payload (Call a b c) (Call u v w) h k e =
    let e0 : text_bytes a ++ (text_bytes b ++ number_bytes c) ≡ text_bytes u ++ (text_bytes v ++ number_bytes w) = cc in
    let e1 = one_text a u (text_bytes b ++ number_bytes c) (text_bytes v ++ number_bytes w) (name_is_short a h.0) (name_is_short u k.0) e0 in
    let e2 = one_text b v (number_bytes c) (number_bytes w) (name_is_short b h.1) (name_is_short v k.1) e1.1 in
    let e3 = last_number c w h.2 k.2 e2.1 in cc
one_payload (See a) (See u) h k e =
    let e0 : number_bytes a ≡ number_bytes u = cc in
    let e1 = last_number a u h k e0 in cc
one_payload _ _ h k e = cc

-- the texts of a payload that is not too long are not
pub texts_are_short : (q : Request) → length (request_payload q) ≤ most_payload → HasShortTexts q
texts_are_short (Say a b) h = (omega (arith, h, length-append (text_bytes a) (text_bytes b), length-text_bytes a), omega (arith, h, length-append (text_bytes a) (text_bytes b), length-text_bytes b))
texts_are_short (SetGoal a b c) h = omega (arith, h, length-append (text_bytes a) (text_bytes b ++ text_bytes c), length-append (text_bytes b) (text_bytes c), length-text_bytes c)
texts_are_short (SetProof a b c) h = omega (arith, h, length-append (text_bytes a) (text_bytes b ++ text_bytes c), length-append (text_bytes b) (text_bytes c), length-text_bytes c)
texts_are_short (Bind a n) h = omega (arith, h, length-append (text_bytes a) (number_bytes n), length-text_bytes a)
texts_are_short (Unbind a) h = omega (arith, h, length-text_bytes a)
texts_are_short _ h = tt
