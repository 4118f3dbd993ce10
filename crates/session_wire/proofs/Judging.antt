-- How the fields of a payload are gone over.
use Rattle.std.proofs.Common.{◌≡◌, ◌≢◌, ◌<◌, ◌≤◌, ◌+◌, ◌-◌, ℕ, suc, List, [], ◌∷◌, ◌++◌, length, take, drop, get_or, Some, refl, sym, ap, ◌∙◌, subst, arith, length-append}
use Rattle.std.proofs.Math.Seq.{split_at}
use Rattle.std.proofs.lemmas.List.{take_more}
use Rattle.nal_term.specs.Names.{IsName}
use Rattle.nal_term.specs.Secrets.{IsSecret}
use Rattle.session_wire.specs.declared.fields.Sort.{Sort}
use Rattle.session_wire.specs.declared.fields.Sort.TheVariants.{Name, Secret, Text, Number}
use Rattle.session_wire.specs.Frames.{IsShort, number_bytes, text_bytes}
use Rattle.session_wire.specs.Fields.{BeginsField, BeginsFields, BeginsNoField, HasBadField, sorts_of_kind}
use Rattle.session_wire.specs.Inner.Judging.{BeginsSomeField, MayHold}
use Rattle.session_wire.proofs.Numbers.{one_text}
use Rattle.session_wire.proofs.Payloads.{name_is_short, one_field, secret_is_short}

-- bytes that begin with a text that the field may not hold begin with no such field
pub not_held : (sort : Sort) (bytes text rest : List ℕ) → sort ≢ Number → IsShort text × (bytes ≡ text_bytes text ++ rest) → ¬ MayHold sort text → BeginsNoField sort bytes
not_held Name bytes text rest n h lacks more f =
    lacks (subst IsName (one_text f.0 text more rest (name_is_short f.0 f.1) h.0 (sym f.2 ∙ h.1)).0 f.1)
not_held Secret bytes text rest n h lacks more f =
    lacks (subst IsSecret (one_text f.0 text more rest (secret_is_short f.0 f.1) h.0 (sym f.2 ∙ h.1)).0 f.1)
not_held Text bytes text rest n h lacks more f = lacks tt
not_held Number bytes text rest n h lacks more f = n refl

-- fields, and one more
fields_then : (sorts : List Sort) (sort : Sort) (a b d : List ℕ) → BeginsFields sorts a b → BeginsField sort b d → BeginsFields (sorts ++ sort ∷ []) a d
fields_then [] sort a b d h f = (d, subst (λ (bs : List ℕ). BeginsField sort bs d) (sym h) f, refl)
fields_then (s ∷ sorts) sort a b d h f = (h.0, h.1, fields_then sorts sort h.0 b d h.2 f)

-- what follows a field is no longer
field_shortens : (sort : Sort) (b d : List ℕ) → BeginsField sort b d → length d ≤ length b
field_shortens Name b d f = omega (arith, ap length f.2, length-append (text_bytes f.0) d)
field_shortens Secret b d f = omega (arith, ap length f.2, length-append (text_bytes f.0) d)
field_shortens Text b d f = omega (arith, ap length f.2, length-append (text_bytes f.0) d)
field_shortens Number b d f = omega (arith, ap length f.2, length-append (number_bytes f.0) d)

-- the fields up to a place, and the one at that place
pub fields_more : (sorts : List Sort) (i : ℕ) (default : Sort) (a b d : List ℕ) → i < length sorts → BeginsFields (take i sorts) a b → length b ≤ length a → BeginsField (get_or sorts i default) b d
    → BeginsFields (take (i + 1) sorts) a d × (length d ≤ length a)
fields_more sorts i default a b d below h short f =
    let less = field_shortens (get_or sorts i default) b d f in
    (subst (λ (ss : List Sort). BeginsFields ss a d) (sym (take_more sorts i default below)) (fields_then (take i sorts) (get_or sorts i default) a b d h f), omega arith)

-- the field at a place is none
pub bad_field_at : (payload body rest : List ℕ) (kind : ℕ) (sorts : List Sort) (i : ℕ) (default : Sort) → payload ≡ kind ∷ body → sorts_of_kind kind ≡ Some sorts → i < length sorts
    → BeginsFields (take i sorts) body rest → length rest ≤ length body → BeginsNoField (get_or sorts i default) rest → HasBadField payload (length payload - length rest)
bad_field_at payload body rest kind sorts i default whole known below fields short none = record {
  kind = kind;
  body = body;
  before = take i sorts;
  sort = get_or sorts i default;
  after = drop (suc i) sorts;
  rest = rest;
  whole = whole;
  known = known ∙ ap Some (split_at sorts i default below);
  fields = fields;
  none = none;
  at = omega (arith, ap length whole);
}

-- the text that bytes begin with is a name, or a secret, where they begin with one
pub name_there : (bytes text rest : List ℕ) → BeginsSomeField Name bytes → IsShort text × (bytes ≡ text_bytes text ++ rest) → IsName text
name_there bytes text rest f h = subst IsName (one_text f.1.0 text f.0 rest (name_is_short f.1.0 f.1.1) h.0 (sym f.1.2 ∙ h.1)).0 f.1.1

pub secret_there : (bytes text rest : List ℕ) → BeginsSomeField Secret bytes → IsShort text × (bytes ≡ text_bytes text ++ rest) → IsSecret text
secret_there bytes text rest f h = subst IsSecret (one_text f.1.0 text f.0 rest (secret_is_short f.1.0 f.1.1) h.0 (sym f.1.2 ∙ h.1)).0 f.1.1

-- behind the first of some fields stand the others
pub others : (sort : Sort) (sorts : List Sort) (bytes rest : List ℕ) → BeginsFields (sort ∷ sorts) bytes [] → BeginsField sort bytes rest → BeginsFields sorts rest []
others sort sorts bytes rest h f = subst (λ (more : List ℕ). BeginsFields sorts more []) (one_field sort bytes h.0 rest h.1 f) h.2
