-- What an input of a talk asks for: the frames that are sent, one by one.
use Rattle.std.specs.Prelude.{ℕ, List}
use Rattle.nexus_client.specs.declared.inputs.TalkInput.{TalkInput}
use Rattle.nexus_client.specs.declared.inputs.TalkInput.TheVariants.{RequestLines, PeerBundle}
use Rattle.nexus_client.specs.Imports.{AreFramesOfImport, IsWrongImportLine}
use Rattle.nexus_client.specs.LineFrames.{AreFramesOfLines, IsWrongLine}

-- the text has the form of such an input, and asks for the requests with these frames, in order
abbrev pub AreFramesOf : TalkInput → List ℕ → List (List ℕ) → Type 0
AreFramesOf RequestLines text frames = AreFramesOfLines text frames
AreFramesOf PeerBundle text frames = AreFramesOfImport text frames

-- line k of the text is the lowest that is wrong
abbrev pub IsWrongLineOf : TalkInput → List ℕ → ℕ → Type 0
IsWrongLineOf RequestLines text k = IsWrongLine text k
IsWrongLineOf PeerBundle text k = IsWrongImportLine text k
