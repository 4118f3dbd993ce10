-- Laws of what a source gave in a run, of refusals, and of how a run ends, which the proofs of other crates may cite.
pub use Rattle.run_streams.proofs.Given.{apart, not_refused, read_whole, refusal_given, refused_by, too_large, wrong_given}
pub use Rattle.run_streams.proofs.Ends.{answer_complete, answer_ends, answer_given, answer_refuses, handed_ends, hands_same, never_both, none_hands, refusal_ends, refusal_hands, refusal_never_done, runs_answer, runs_as, runs_with, told_grows, unanswered_memory, unanswered_refuses}
