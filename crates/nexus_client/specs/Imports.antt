-- The input of `import`: who the peer is, and a bundle of the labels that it says.
use Rattle.std.specs.Prelude.{◌≡◌, ◌+◌, ℕ, List, ◌++◌, codes, map}
use Rattle.nal_term.specs.Names.{IsName}
use Rattle.nal_term.specs.Secrets.{IsSecret}
use Rattle.nal_term.specs.Trees.{FormulaTree}
use Rattle.text_lines.specs.Lines.{first_line, after_line}
use Rattle.policy_history.specs.PolicyLines.{spaced}
use Rattle.session_wire.specs.Frames.{request_frame}
use Rattle.peer_labels.specs.Bundles as bundle
use Rattle.peer_labels.specs.Bundles.{IsBundle}
use Rattle.peer_labels.specs.Requests.{bundle_requests}

-- the line names a peer, and the secret that it proves itself by
pub record IsPeerLine (line name secret : List ℕ) : Type 0 where
  pub formed : line ≡ codes "peer " ++ spaced name secret
  pub name_is : IsName name
  pub secret_is : IsSecret secret

-- the text names a peer in its first line, and behind it stands a bundle of these labels
pub record IsImport (text name secret : List ℕ) (labels : List FormulaTree) : Type 0 where
  pub peer : IsPeerLine (first_line text) name secret
  pub bundle : IsBundle (after_line text) labels

-- the frames of the requests by which the peer of the text says the labels of its bundle
pub record AreFramesOfImport (text : List ℕ) (frames : List (List ℕ)) : Type 0 where
  pub name : List ℕ
  pub secret : List ℕ
  pub labels : List FormulaTree
  pub import : IsImport text name secret labels
  pub frames_are : frames ≡ map request_frame (bundle_requests name secret labels)

-- line k of the text is the lowest that is wrong: the first, or one of the bundle behind it
pub data IsWrongImportLine (text : List ℕ) (k : ℕ) : Type 0 where
  in_front : k ≡ 1 → ((name secret : List ℕ) → ¬ IsPeerLine (first_line text) name secret) → IsWrongImportLine text k
  in_bundle : (name secret : List ℕ) (j : ℕ) → IsPeerLine (first_line text) name secret → bundle.IsWrongLine (after_line text) j → k ≡ j + 1 → IsWrongImportLine text k
