-- How the reading of an answer ends, and how a line is exchanged.
use Rattle.std.specs.Prelude.{◌≡◌, ◌⊎◌, ◌≤◌, ℕ, List, Bool, Contains, length, true, []}
use Rattle.nx_io.specs.Streams.{one_more}
use Rattle.nx_io.specs.declared.streams.Reach.{Reach}
use Rattle.nx_io.specs.declared.streams.Reach.TheVariants.{Ready, Failed}

-- why nothing more was read of an answer's line: it is there, or it is too long, or the source was at its end, and no read has failed; or one has, which was the last, and the line isn't there
abbrev pub HasStopped : List ℕ → Bool → ℕ → ℕ → Type 0
HasStopped bytes over before now =
    ((now ≡ before) × (Contains bytes 10 ⊎ ((32 ≤ length bytes) ⊎ (over ≡ true)))) ⊎ ((¬ Contains bytes 10) × (now ≡ one_more before))

-- a line is sent whole, once, and then an answer is read; or the sink fails, which is the last that is asked of it, and nothing is read
abbrev pub Converses : Reach → List ℕ → Bool → ℕ → ℕ → Type 0
Converses Ready bytes over before now = HasStopped bytes over before now
Converses Failed bytes over before now = (bytes ≡ []) × (now ≡ before)
