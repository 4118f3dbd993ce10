-- What other crates may cite of the entries that what is in force comes from.
-- the state behind the first entries of a legal history, one entry further, and what lasts from one of them to a later one
pub use Rattle.case_reasons.proofs.Tracking.{at, kept_until, next, stays_behind}
-- rows by whether the first one passes a test, and rows of which at most one does
pub use Rattle.case_reasons.proofs.Tables.{IsAlone, alone_out, alone_out_other, alone_put, alone_put_other, alter_by, find_by, put_by, put_found}
-- one number is of one object
pub use Rattle.case_reasons.proofs.Objects.{one_name}
-- the goal in force, and the proof that is registered, are those of the last entry that changes them
pub use Rattle.case_reasons.proofs.Goals.{and_true, goal_at, goal_in, no_goal}
pub use Rattle.case_reasons.proofs.Proofs.{no_proof, proof_at, proof_of_event}
