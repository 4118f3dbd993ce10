-- The frames of the lines of requests.
use Rattle.std.specs.Prelude.{◌≡◌, ℕ, List, [], ◌∷◌, ◌++◌}
use Rattle.session_wire.specs.declared.requests.Request.{Request}
use Rattle.session_wire.specs.Frames.{IsFrameOf}
use Rattle.journal_text.specs.RequestLines.{IsRequestLine}
use Rattle.form_lines.specs.Reading.{IsWrongAt, LeadsThrough}

-- the bytes are the frame of the request that the line asks for
pub record IsFrameOfLine (line frame : List ℕ) : Type 0 where
  pub request : Request
  pub is_line : IsRequestLine line request
  pub is_frame : IsFrameOf request frame

-- `Follows frames line next`: behind the lines with these frames the line may stand, and the frames are then the next ones
pub record Follows (frames : List (List ℕ)) (line : List ℕ) (next : List (List ℕ)) : Type 0 where
  pub frame : List ℕ
  pub is_frame : IsFrameOfLine line frame
  pub next_is : next ≡ frames ++ frame ∷ []

-- the lines of the text are those of requests, and these are their frames in order
abbrev pub AreFramesOfLines : List ℕ → List (List ℕ) → Type 0
AreFramesOfLines text frames = LeadsThrough Follows [] text frames

-- the text may end behind the lines with these frames, whichever they are
abbrev pub MayEnd : List (List ℕ) → Type 0
MayEnd frames = Unit {0}

-- line k of the text, from 1, is the lowest that is that of no request
abbrev pub IsWrongLine : List ℕ → ℕ → Type 0
IsWrongLine text k = IsWrongAt Follows MayEnd [] text k
