-- The lines of requests: what is read of each, and of all.
use Rattle.std.proofs.Common.{◌≡◌, ◌≢◌, ◌<◌, ◌≤◌, ◌+◌, ◌-◌, ◌^◌, inl, inr, ℕ, List, [], ◌∷◌, ◌++◌, refl, sym, ap, subst, ◌∙◌, append_assoc, arith}
use Rattle.std.proofs.lemmas.List.{append-nil}
use Rattle.std.proofs.lemmas.Fmt.{decimal_injective}
use Rattle.std.specs.Fmt.{decimal}
use Rattle.policy_history.specs.PolicyLines.{spaced}
use Rattle.form_lines.specs.Reading.{IsStuck, Leads, LeadsThrough, here, on}
use Rattle.text_lines.specs.Lines.{after_line, first_line}
use Rattle.session_wire.specs.declared.requests.Request.{Request}
use Rattle.session_core.specs.declared.lines.Asking.{Asking}
use Rattle.journal_text.specs.Inner.PolicyReading.{IsUnspaced}
use Rattle.journal_text.specs.RequestLines.{IsRequestLine}
use Rattle.journal_text.proofs.WordsForCallers.{number_in_front}
use Rattle.policy_script.specs.ScriptForm.{AreAskings, none, next, IsAskingLine, IsWrongAsking, here as wrong_here, later}
use Rattle.policy_script.specs.Inner.Reading.{Follows, MayEnd}

-- ---- One line

-- the line of a request, by its word in front and what follows
pub asking_line : (line word rest : List ℕ) (n : ℕ) (request : Request) → line ≡ spaced word rest → word ≡ decimal n → 0 < n → n ≤ 64 → IsRequestLine rest request
    → IsAskingLine line (record { place = n - 1; request = request })
asking_line line word rest n request formed number some most read =
    let same : n - 1 + 1 ≡ n = omega arith in
    record {
      text = rest;
      formed = formed ∙ ap (λ w. spaced w rest) number ∙ ap (λ m. spaced (decimal m) rest) (sym same);
      place = omega arith;
      request = read;
    }

-- whatever the line is read as, its number is the word in front, and its request what follows
pub word_of : (line word rest : List ℕ) (other : Asking) → line ≡ spaced word rest → IsUnspaced word → IsAskingLine line other
    → (word ≡ decimal (other.place + 1)) × IsRequestLine rest other.request
word_of line word rest other formed unspaced l =
    let cut = number_in_front line word rest l.text (other.place + 1) formed unspaced (omega (arith, l.place)) l.formed in
    (cut.0, subst (λ t. IsRequestLine t other.request) (sym cut.1) l.request)

number_of : (word : List ℕ) (n m : ℕ) → word ≡ decimal n → word ≡ decimal m → n < 2 ^ 64 → m < 2 ^ 64 → n ≡ m
number_of word n m a b p q = decimal_injective n m p q (sym a ∙ b)

same_asking : (a b : Asking) → a.place ≡ b.place → a.request ≡ b.request → a ≡ b
same_asking a b p q = ap (λ place. record { place = place; request = a.request }) p ∙ ap (λ request. record { place = b.place; request = request }) q

pub asking_only : (line word rest : List ℕ) (n : ℕ) (request : Request) → line ≡ spaced word rest → IsUnspaced word → word ≡ decimal n → 0 < n → n ≤ 64
    → ((r : Request) → IsRequestLine rest r → r ≡ request) → (other : Asking) → IsAskingLine line other → other ≡ record { place = n - 1; request = request }
asking_only line word rest n request formed unspaced number some most only other l =
    let parts = word_of line word rest other formed unspaced l in
    let same : n ≡ other.place + 1 = number_of word n (other.place + 1) number parts.0 (omega arith) (omega (arith, l.place)) in
    same_asking other (record { place = n - 1; request = request }) (omega arith) (only other.request parts.1)

-- a line whose first word is no number from 1 to 64 is none
pub number_bad : (line word rest : List ℕ) (n : ℕ) → line ≡ spaced word rest → IsUnspaced word → word ≡ decimal n → n < 2 ^ 64 → (0 < n → n ≤ 64 → ⊥) → (other : Asking)
    → IsAskingLine line other → ⊥
number_bad line word rest n formed unspaced number bound bad other l =
    let parts = word_of line word rest other formed unspaced l in
    let same : n ≡ other.place + 1 = number_of word n (other.place + 1) number parts.0 bound (omega (arith, l.place)) in
    bad (omega arith) (omega (arith, l.place))

pub no_number : (line word rest : List ℕ) → line ≡ spaced word rest → IsUnspaced word → ((n : ℕ) → n < 2 ^ 64 → word ≢ decimal n) → (other : Asking) → IsAskingLine line other → ⊥
no_number line word rest formed unspaced bad other l =
    let parts = word_of line word rest other formed unspaced l in
    bad (other.place + 1) (omega (arith, l.place)) parts.0

-- ---- All lines

-- what is read behind some requests is those, and the requests of the lines
pub requests_read : {before last : List Asking} {text rest : List ℕ} {n : ℕ} → Leads Follows before text n last rest → rest ≡ []
    → (more : List Asking) × AreAskings text more × (last ≡ before ++ more)
requests_read {before = before} here e = ([], subst (λ (t : List ℕ). AreAskings t []) (sym e) none, sym (append-nil before))
requests_read {before = before} (on some f leads) e =
    let h = requests_read leads e in
    (f.asking ∷ h.0, next some f.is_line h.1, h.2 ∙ ap (λ (xs : List Asking). xs ++ h.0) f.next_is ∙ append_assoc before (f.asking ∷ []) h.0)

pub requests_lead : {text : List ℕ} {more : List Asking} (before : List Asking) → AreAskings text more → LeadsThrough Follows before text (before ++ more)
requests_lead before none = (0, subst (λ (xs : List Asking). Leads Follows before [] 0 xs []) (sym (append-nil before)) here)
requests_lead before (next {text = text} {asking = asking} {askings = askings} some line are) =
    let longer = before ++ asking ∷ [] in
    let h = requests_lead longer are in
    let same = append_assoc before (asking ∷ []) askings in
    let follows : Follows before (first_line text) longer = record { asking = asking; is_line = line; next_is = refl } in
    (h.0 + 1, on some follows (subst (λ (xs : List Asking). Leads Follows longer (after_line text) h.0 xs []) same h.1))

-- where the next line is none, the lines are wrong there
pub wrong_request : {before last : List Asking} {text rest : List ℕ} {n : ℕ} → Leads Follows before text n last rest → IsStuck Follows MayEnd last rest → IsWrongAsking text (n + 1)
wrong_request here (inl ends) = absurd (ends.1 tt)
wrong_request {before = before} here (inr bad) =
    wrong_here bad.0 (λ asking line. bad.1 (before ++ asking ∷ []) (record { asking = asking; is_line = line; next_is = refl }))
wrong_request (on some f leads) stuck = later f.asking some f.is_line (wrong_request leads stuck)
