-- No bytes are the text of two requests.
use Rattle.std.proofs.Common.{◌≡◌, ℕ, List, [], ◌∷◌, Bool, true, false, codes, Some, refl, sym, ap, ◌∙◌, append_assoc}
use Rattle.std.specs.Fmt.{decimal}
use Rattle.std.specs.List.{find}
use Rattle.std.specs.Str.{bytes_eq}
use Rattle.std.proofs.lemmas.Slice.Eq.{bytes_eq-Decides}
use Rattle.std.proofs.lemmas.Fmt.{decimal_injective}
use Rattle.nal_term.specs.Names.{IsName}
use Rattle.session_wire.specs.declared.requests.Request.{Request}
use Rattle.session_wire.specs.declared.requests.Request.TheVariants.{Hello, Say, Transfer, Delete, NewObject, SetGoal, ClearGoal, SetProof, ClearProof, Bind, Unbind, Call, See}
use Rattle.journal_text.specs.declared.request_lines.Form.{Form}
use Rattle.journal_text.specs.declared.request_lines.Form.TheVariants as form
use Rattle.journal_text.specs.RequestLines.{IsRequestText, IsWritable, OneRequest, request_text}
use Rattle.journal_text.specs.Inner.RequestForms.{HasNoSpace, HasParts, all_forms, cut, form_named, form_of, parts_of, word_of}
use Rattle.journal_text.proofs.RequestCuts.{name_has_no_space, number_has_no_space, one_cut}

-- the text of a request is its form's word, a space and its parts
pub text_parts : (q : Request) → request_text q ≡ cut (word_of (form_of q)) (parts_of q)
text_parts (Hello name secret) = simp append_assoc
text_parts (Say principal formula) = simp append_assoc
text_parts (Transfer number to) = simp append_assoc
text_parts (Delete number) = refl
text_parts (NewObject name) = refl
text_parts (SetGoal op object formula) = simp append_assoc
text_parts (ClearGoal op object) = simp append_assoc
text_parts (SetProof op object proof) = simp append_assoc
text_parts (ClearProof op object) = simp append_assoc
text_parts (Bind principal port) = simp append_assoc
text_parts (Unbind principal) = refl
text_parts (Call op object arg) = simp append_assoc
text_parts (See number) = refl

-- each form is found by its word
pub form_of_word : (f : Form) → form_named (word_of f) ≡ Some f
unfolding form_named
form_of_word form.Hello = refl
form_of_word form.Say = refl
form_of_word form.Transfer = refl
form_of_word form.Delete = refl
form_of_word form.NewObject = refl
form_of_word form.SetGoal = refl
form_of_word form.ClearGoal = refl
form_of_word form.SetProof = refl
form_of_word form.ClearProof = refl
form_of_word form.Bind = refl
form_of_word form.Unbind = refl
form_of_word form.Call = refl
form_of_word form.See = refl

-- forms with one word are one
pub one_form : (f g : Form) → word_of f ≡ word_of g → f ≡ g
one_form f g e =
    let found : Some f ≡ Some g = sym (form_of_word f) ∙ ap form_named e ∙ form_of_word g in
    cc

-- the word of a form is one word
word_has_no_space : (f : Form) → HasNoSpace (word_of f)
word_has_no_space form.Hello = name_has_no_space (codes "hello") refl
word_has_no_space form.Say = name_has_no_space (codes "say") refl
word_has_no_space form.Transfer = name_has_no_space (codes "transfer") refl
word_has_no_space form.Delete = name_has_no_space (codes "delete") refl
word_has_no_space form.NewObject = name_has_no_space (codes "object") refl
word_has_no_space form.SetGoal = name_has_no_space (codes "goal") refl
word_has_no_space form.ClearGoal = name_has_no_space (codes "nogoal") refl
word_has_no_space form.SetProof = name_has_no_space (codes "proof") refl
word_has_no_space form.ClearProof = name_has_no_space (codes "noproof") refl
word_has_no_space form.Bind = name_has_no_space (codes "bind") refl
word_has_no_space form.Unbind = name_has_no_space (codes "unbind") refl
word_has_no_space form.Call = name_has_no_space (codes "call") refl
word_has_no_space form.See = name_has_no_space (codes "see") refl

two_names : (a b c d : List ℕ) → IsName a → IsName c → cut a b ≡ cut c d → (a ≡ c) × (b ≡ d)
two_names a b c d h k e = one_cut a c b d (name_has_no_space a h) (name_has_no_space c k) e

colon : (x y : List ℕ) → 58 ∷ 32 ∷ x ≡ 58 ∷ 32 ∷ y → x ≡ y
colon x y e = cc

-- requests of one form with one text of their parts are one
same_parts : (q r : Request) → form_of q ≡ form_of r → IsWritable q → IsWritable r → parts_of q ≡ parts_of r → q ≡ r
same_parts (Hello a b) (Hello c d) f w v e =
    let r = two_names a b c d w.0 v.0 e in cc
same_parts (Say a b) (Say c d) f w v e =
    let r = one_cut a c (58 ∷ 32 ∷ b) (58 ∷ 32 ∷ d) w.1 v.1 e in
    let s = colon b d r.1 in cc
same_parts (Transfer a b) (Transfer c d) f w v e =
    let r = one_cut (decimal a) (decimal c) b d (number_has_no_space a w.0) (number_has_no_space c v.0) e in
    let s = decimal_injective a c w.0 v.0 r.0 in cc
same_parts (Delete a) (Delete c) f w v e =
    let s = decimal_injective a c w v e in cc
same_parts (NewObject a) (NewObject c) f w v e = cc
same_parts (SetGoal a b x) (SetGoal c d y) f w v e =
    let r = two_names a (cut b (58 ∷ 32 ∷ x)) c (cut d (58 ∷ 32 ∷ y)) w.0 v.0 e in
    let s = two_names b (58 ∷ 32 ∷ x) d (58 ∷ 32 ∷ y) w.1 v.1 r.1 in
    let t = colon x y s.1 in cc
same_parts (ClearGoal a b) (ClearGoal c d) f w v e =
    let r = two_names a b c d w.0 v.0 e in cc
same_parts (SetProof a b x) (SetProof c d y) f w v e =
    let r = two_names a (cut b (58 ∷ 32 ∷ x)) c (cut d (58 ∷ 32 ∷ y)) w.0 v.0 e in
    let s = two_names b (58 ∷ 32 ∷ x) d (58 ∷ 32 ∷ y) w.1 v.1 r.1 in
    let t = colon x y s.1 in cc
same_parts (ClearProof a b) (ClearProof c d) f w v e =
    let r = two_names a b c d w.0 v.0 e in cc
same_parts (Bind a b) (Bind c d) f w v e =
    let r = one_cut a c (decimal b) (decimal d) w.0.1 v.0.1 e in
    let s = decimal_injective b d w.1 v.1 r.1 in cc
same_parts (Unbind a) (Unbind c) f w v e = cc
same_parts (Call a b x) (Call c d y) f w v e =
    let r = two_names a (cut b (decimal x)) c (cut d (decimal y)) w.0 v.0 e in
    let s = two_names b (decimal x) d (decimal y) w.1 v.1 r.1 in
    let t = decimal_injective x y w.2 v.2 s.1 in cc
same_parts (See a) (See c) f w v e =
    let s = decimal_injective a c w v e in cc
same_parts _ _ f w v e = cc

-- a text is cut into the word of its form and its parts
pub parts_of_text : (text word parts : List ℕ) (q : Request) → HasNoSpace word → text ≡ cut word parts → IsRequestText text q → (word ≡ word_of (form_of q)) × HasParts (form_of q) parts q
parts_of_text text word parts q none e t =
    let c = one_cut word (word_of (form_of q)) parts (parts_of q) none (word_has_no_space (form_of q)) (sym e ∙ t.1 ∙ text_parts q) in
    (c.0, record { of_form = refl; writable = t.0; parts = c.1 })

-- a word, a space and the parts of a request of the word's form are its text
pub text_of_parts : (text word parts : List ℕ) (f : Form) (q : Request) → text ≡ cut word parts → word ≡ word_of f → HasParts f parts q → IsRequestText text q
text_of_parts text word parts f q e w h =
    (h.writable, e ∙ rw (w, h.parts, ← h.of_form) (sym (text_parts q)))

-- no bytes are the text of two requests
pub one_request : OneRequest
one_request text q r a b =
    let c = parts_of_text text (word_of (form_of r)) (parts_of r) q (word_has_no_space (form_of r)) (b.1 ∙ text_parts r) a in
    same_parts q r (one_form (form_of q) (form_of r) (sym c.0)) a.0 b.0 (sym c.1.parts)

-- what is found passes the test
find_passes : (p : Form → Bool) (fs : List Form) (g : Form) → find p fs ≡ Some g → p g ≡ true
find_passes p [] g h = cc
find_passes p (x ∷ fs) g h = of (p x) refl (find_passes p fs g)
  where
    of : (b : Bool) → p x ≡ b → (find p fs ≡ Some g → p g ≡ true) → p g ≡ true
    of true here later =
        let found : Some x ≡ Some g = rw here at h in
        let same : x ≡ g = cc in
        ap p (sym same) ∙ here
    of false here later = later (rw here at h)

-- the form that is found by a word has that word
pub named_word : (word : List ℕ) (f : Form) → form_named word ≡ Some f → word ≡ word_of f
unfolding form_named
named_word word f e =
    sym ((bytes_eq-Decides (word_of f) word).0 (find_passes (λ g. bytes_eq (word_of g) word) all_forms f e))
