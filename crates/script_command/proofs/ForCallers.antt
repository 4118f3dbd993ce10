-- Laws of the runs of `script`, which the proofs of other crates may cite.
pub use Rattle.script_command.proofs.ScriptEnds.{has_more, more_nothing, runs_script}
