-- What comes of the requests of a bundle.
use Rattle.std.proofs.Common.{◌≡◌, ◌⊎◌, ℕ, List, [], ◌∷◌, ◌++◌, length, get_or, not, ◌&&◌, nat_le, Option, Some, None, option_map, unwrap_or, refl, sym, ap, ◌∙◌, inl, inr, arith}
use Rattle.std.specs.List.{All}
use Rattle.std.proofs.lemmas.Bool.{and_parts, leb-true}
use Rattle.std.proofs.lemmas.List.Elements.{All-nil, All-push}
use Rattle.std.proofs.lemmas.List.Quantifiers.{position-Some}
use Rattle.std.proofs.lemmas.Option.{slice_get-get_or}
use Rattle.nal_term.specs.Names.{IsName, is_reserved, is_word}
use Rattle.nal_term.specs.TreeKeys.{same_bytes, same_bytes-Decides}
use Rattle.nal_term.specs.Trees.{FormulaTree}
use Rattle.nal_term.specs.Trees as tree
use Rattle.nal_parse.specs.Canonical.{formula_text}
use Rattle.nal_parse.specs.Grammar.{IsFormulaText, IsTermText}
use Rattle.nal_parse.proofs.ForCallers.{one_formula, one_term}
use Rattle.proof_text.proofs.ForCallers.{printed_formula, printed_term}
use Rattle.form_lines.specs.Reading.{Leads as LeadsLines, here, on}
use Rattle.form_lines.specs.Statements.{IsStatement}
use Rattle.policy_history.specs.declared.heads.Head.{Head}
use Rattle.policy_history.specs.declared.heads.Principal.{Principal}
use Rattle.policy_history.specs.Events.{EntryTree, EventTree, admitted, name_of}
use Rattle.policy_history.specs.Events as event
use Rattle.journal_text.specs.RequestEvents.{IsEventOf}
use Rattle.session_core.specs.Answers.{greeted}
use Rattle.peer_labels.specs.Bundles.{Follows, IsBundle, Stage}
use Rattle.peer_labels.specs.Bundles as bundle
use Rattle.peer_labels.specs.Requests.{label_request}
use Rattle.told_records.specs.PeerSessions.{AreOfPeer, AreSaidInOrder}
use Rattle.told_records.specs.PeerSessions as said
use Rattle.kept_policies.proofs.ForCallers.{spelled_spellable}

-- ---- The labels of a bundle

-- the canonical text is read as the formula
abbrev pub IsReadAgain : FormulaTree → Type 0
IsReadAgain f = IsFormulaText (formula_text f) f

statement_read : (text : List ℕ) (f : FormulaTree) → IsStatement text f → IsReadAgain f
statement_read text f is = printed_formula f (spelled_spellable 64 text f is.spelled.spelled) is.spelled.fits

-- so it is with all labels so far
abbrev AreReadAgain : Stage → Type 0
AreReadAgain bundle.header_due = Unit {0}
AreReadAgain (bundle.label_due labels) = All IsReadAgain labels
AreReadAgain (bundle.complete labels) = All IsReadAgain labels

line_read : {stage next : Stage} {line : List ℕ} → Follows stage line next → AreReadAgain stage → AreReadAgain next
line_read (bundle.header is) before = All-nil IsReadAgain
line_read (bundle.label {text = text} {labels = labels} {f = f} is few statement) before = All-push IsReadAgain labels f before (statement_read text f statement)
line_read (bundle.end is) before = before

lines_read : {stage last : Stage} {text rest : List ℕ} {n : ℕ} → LeadsLines Follows stage text n last rest → AreReadAgain stage → AreReadAgain last
lines_read here before = before
lines_read (on some line others) before = lines_read others (line_read line before)

pub bundle_read : (text : List ℕ) (labels : List FormulaTree) → IsBundle text labels → All IsReadAgain labels
bundle_read text labels is = lines_read is.1 tt

-- ---- The event of a label

name_read : (x : List ℕ) → IsName x → IsTermText x (tree.name x)
name_read x is =
    let short = leb-true (length x) 64 (and_parts (is_word x) (nat_le (length x) 64) (and_parts (is_word x && nat_le (length x) 64) (not (is_reserved x)) is).0).1 in
    printed_term (tree.name x) is (omega (arith, short))

-- the request of a label asks for one event
pub one_event : (x : List ℕ) (f : FormulaTree) → IsName x → IsReadAgain f → (e : EventTree) → IsEventOf (label_request x f) e → e ≡ event.say (Some (tree.name x)) (Some f)
one_event x f named read (event.say (Some t) (Some g)) is = rw (one_term x t (tree.name x) is.0 (name_read x named), one_formula (formula_text f) g f is.1 read) refl
one_event x f named read (event.say None g) is = absurd (is.0 (tree.name x) (name_read x named))
one_event x f named read (event.say (Some t) None) is = absurd (is.1 f read)
one_event x f named read _ is = absurd is

-- ---- Who is admitted

abbrev no_principal : Principal
no_principal = record { name = []; secret = [] }

-- a principal that is admitted has the name
admitted_named : (ps : List Principal) (x secret : List ℕ) (p : ℕ) → admitted ps x secret ≡ Some p → name_of ps p ≡ x
admitted_named ps x secret p e =
    let at = position-Some (λ (y : Principal). same_bytes x y.name && same_bytes secret y.secret) ps p no_principal e in
    let found = get_or ps p no_principal in
    ap (λ (o : Option Principal). unwrap_or (option_map (λ (y : Principal). y.name) o) []) (slice_get-get_or ps p no_principal at.0)
    ∙ sym ((same_bytes-Decides x found.name).0 (and_parts (same_bytes x found.name) (same_bytes secret found.secret) at.1).0)

pub greeted_who : (at s : ℕ) (o : Option ℕ) → (greeted at s None o).who ≡ o
greeted_who at s None = refl
greeted_who at s (Some p) = refl

pub greeted_added : (at s : ℕ) (o : Option ℕ) → (greeted at s None o).added ≡ []
greeted_added at s None = refl
greeted_added at s (Some p) = refl

-- ---- Entries by which labels are said

module _ (h : Head) (s : ℕ) where
  -- entries of a session in which this principal is admitted, or nobody
  abbrev pub Says : Option ℕ → List FormulaTree → List EntryTree → Type 0
  Says None labels added = added ≡ []
  Says (Some p) labels added = AreSaidInOrder h s p labels added

  none_said : (p : ℕ) (labels : List FormulaTree) → AreSaidInOrder h s p labels []
  none_said p [] = said.done
  none_said p (f ∷ labels) = said.unsaid f (none_said p labels)

  pub nothing : (o : Option ℕ) (labels : List FormulaTree) (added : List EntryTree) → added ≡ [] → Says o labels added
  nothing None labels added e = e
  nothing (Some p) labels added e = rw e (none_said p labels)

  pub one_said : (p : ℕ) (x : List ℕ) (f : FormulaTree) (e : EventTree) (added : List EntryTree) → name_of h.principals p ≡ x → e ≡ event.say (Some (tree.name x)) (Some f)
      → added ≡ record { session = s; principal = p; event = e } ∷ [] → AreSaidInOrder h s p (f ∷ []) added
  one_said p x f e added named is added_is = rw (added_is, is, ← named) (said.said f said.done)

  one_more : (p : ℕ) (f : FormulaTree) (labels : List FormulaTree) (added later : List EntryTree) → AreSaidInOrder h s p (f ∷ []) added → AreSaidInOrder h s p labels later
      → AreSaidInOrder h s p (f ∷ labels) (added ++ later)
  one_more p f labels _ later (said.said g said.done) others = said.said f others
  one_more p f labels _ later (said.unsaid g said.done) others = said.unsaid f others

  pub says_more : (o : Option ℕ) (f : FormulaTree) (labels : List FormulaTree) (added later : List EntryTree) → Says o (f ∷ []) added → Says o labels later → Says o (f ∷ labels) (added ++ later)
  says_more None f labels added later first others = rw (first, others) refl
  says_more (Some p) f labels added later first others = one_more p f labels added later first others

module _ (h : Head) (s : ℕ) (x secret : List ℕ) where
  -- who is admitted behind the hello
  abbrev pub IsGreeted : Option ℕ → Type 0
  IsGreeted o = (o ≡ None) ⊎ (o ≡ admitted h.principals x secret)

  pub greeted_named : (o : Option ℕ) → IsGreeted o → (p : ℕ) → o ≡ Some p → name_of h.principals p ≡ x
  greeted_named o (inl nobody) p e = absurd (cc (sym nobody ∙ e))
  greeted_named o (inr is) p e = admitted_named h.principals x secret p (sym is ∙ e)

  pub of_peer : (o : Option ℕ) (labels : List FormulaTree) (added : List EntryTree) → IsGreeted o → Says h s o labels added → AreOfPeer h s x secret labels added
  of_peer None labels added is says = inl says
  of_peer (Some p) labels added (inl nobody) says = absurd (cc nobody)
  of_peer (Some p) labels added (inr is) says = inr (p, sym is, says)
