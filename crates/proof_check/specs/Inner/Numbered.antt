-- The faults in their order.
use Rattle.std.specs.Prelude.{ℕ, [], ◌∷◌, slice_index_or}
use Rattle.nal_rules.specs.declared.verdicts.Fault.{Fault}
use Rattle.nal_rules.specs.declared.verdicts.Fault.TheVariants.{NoSuchRef, NotHyp, WrongShape, Capture, NotFresh, OutOfScope, NotTrue, TooManyAsks, NotAsk, NotClosed, StillOpen, NotGoal}

-- the fault at this place, counted from 0
abbrev pub fault_at : ℕ → Fault
fault_at place =
    slice_index_or (NoSuchRef ∷ NotHyp ∷ WrongShape ∷ Capture ∷ NotFresh ∷ OutOfScope ∷ NotTrue ∷ TooManyAsks ∷ NotAsk ∷ NotClosed ∷ StillOpen ∷ []) place NotGoal
