-- How request lines are read one by one.
use Rattle.std.proofs.Common.{◌≡◌, ℕ, List, [], ◌∷◌, ◌++◌, refl, sym, ap, ◌∙◌}
use Rattle.session_wire.specs.declared.requests.Request.{Request}
use Rattle.session_wire.specs.Frames.{request_frame}
use Rattle.journal_text.specs.RequestLines.{IsRequestLine}
use Rattle.nexus_client.specs.LineFrames.{Follows, IsFrameOfLine}

-- the frame of a line leads on
pub follows : (frames : List (List ℕ)) (line frame : List ℕ) → IsFrameOfLine line frame → Follows frames line (frames ++ frame ∷ [])
follows frames line frame h = record { frame = frame; is_frame = h; next_is = refl }

-- and nothing else does
pub follows_only : (frames : List (List ℕ)) (line frame : List ℕ) (next : List (List ℕ)) → ((q : Request) → IsRequestLine line q → frame ≡ request_frame q) → Follows frames line next
    → next ≡ frames ++ frame ∷ []
follows_only frames line frame next only f =
    let q = f.is_frame.request in
    let same : f.frame ≡ frame = f.is_frame.is_frame.1 ∙ sym (only q f.is_frame.is_line) in
    f.next_is ∙ ap (λ (x : List ℕ). frames ++ x ∷ []) same

-- a line that is that of no request leads nowhere
pub follows_none : (frames : List (List ℕ)) (line : List ℕ) (next : List (List ℕ)) → ((q : Request) → IsRequestLine line q → ⊥) → Follows frames line next → ⊥
follows_none frames line next none f = none f.is_frame.request f.is_frame.is_line
