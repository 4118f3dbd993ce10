-- What the proofs of other crates may cite: what is asked for the ask lines of a case, with which answers a verdict is told, and that
-- these are few, and the only ones with which a record is right.
pub use Rattle.audit_check.proofs.AskLines.{AllSay, ask_passes, asked_no, asked_none, asked_refused, asked_yes, first_no, first_other, first_yes, one_ask, past, say_later, shift, unpast, unshift}
pub use Rattle.audit_check.proofs.Opened.{all_say}
pub use Rattle.audit_check.proofs.Settled.{right_decided, right_open}
pub use Rattle.audit_check.proofs.RightAnswers.{few_answers, one_answers}
