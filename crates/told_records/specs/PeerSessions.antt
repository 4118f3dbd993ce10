-- What becomes of the labels that a peer says at another service: of a session that sends the requests of a bundle.
use Rattle.std.specs.Prelude.{◌≡◌, ◌⊎◌, ℕ, List, [], ◌∷◌, ◌++◌, take, Some}
use Rattle.nal_term.specs.Names.{IsName}
use Rattle.nal_term.specs.Trees.{FormulaTree}
use Rattle.policy_history.specs.declared.heads.Head.{Head}
use Rattle.policy_history.specs.Events.{EntryTree, admitted}
use Rattle.authority_ask.specs.Panels.{Told as Ask}
use Rattle.session_wire.specs.declared.replies.Reply.{Reply}
use Rattle.verdict_words.specs.declared.views.Item.{Item}
use Rattle.verdict_words.specs.Histories.{own}
use Rattle.verdict_words.specs.Rule.{last_met}
use Rattle.session_core.specs.Ends.{askings_of, at_first}
use Rattle.session_core.specs.Sessions.{Point, Told1}
use Rattle.session_core.specs.Standing.{Standing}
use Rattle.session_core.specs.Told.{IsTold}
use Rattle.peer_labels.specs.Bundles.{IsBundle}
use Rattle.peer_labels.specs.Carrying.{said_by}
use Rattle.peer_labels.specs.Requests.{bundle_requests}

-- `AreSaidInOrder h s p labels entries`: each entry is that by which principal p says one of the labels in session s; they come in the
-- order of the labels, and each place among these serves once at most
pub data AreSaidInOrder (h : Head) (s p : ℕ) : List FormulaTree → List EntryTree → Type 0 where
  done : AreSaidInOrder h s p [] []
  said : {labels : List FormulaTree} {entries : List EntryTree} (f : FormulaTree) → AreSaidInOrder h s p labels entries → AreSaidInOrder h s p (f ∷ labels) (said_by h s p f ∷ entries)
  unsaid : {labels : List FormulaTree} {entries : List EntryTree} (f : FormulaTree) → AreSaidInOrder h s p labels entries → AreSaidInOrder h s p (f ∷ labels) entries

-- the entries are none, or such ones of the principal that has this name and this secret
abbrev pub AreOfPeer : Head → ℕ → List ℕ → List ℕ → List FormulaTree → List EntryTree → Type 0
AreOfPeer h s name secret labels entries = (entries ≡ []) ⊎ ((p : ℕ) × (admitted h.principals name secret ≡ Some p) × AreSaidInOrder h s p labels entries)

-- of a session beside others that sends the requests of a bundle, its own entries are such
abbrev pub PeersSayLabels : Type 0
PeersSayLabels =
    (h : Head) (es : List EntryTree) (s low : ℕ) (name secret text : List ℕ) (labels : List FormulaTree) (replies : List Reply) (asks : List Ask) (trail : List Item) (last : Standing)
    → IsName name → IsBundle text labels → IsTold h es s low (bundle_requests name secret labels) replies asks trail last
    → AreOfPeer h s name secret labels (own (λ (e : EntryTree). e.session) (take (last_met trail) es) s)

-- of one that is alone, all that it adds to the entries is such
abbrev pub LonePeersSayLabels : Type 0
LonePeersSayLabels =
    (h : Head) (es : List EntryTree) (s : ℕ) (name secret text : List ℕ) (labels : List FormulaTree) (replies : List Reply) (asks : List Ask) (last : Point)
    → IsName name → IsBundle text labels → Told1 h s (at_first es) (askings_of (bundle_requests name secret labels)) replies asks last
    → (added : List EntryTree) × (last.entries ≡ es ++ added) × AreOfPeer h s name secret labels added
