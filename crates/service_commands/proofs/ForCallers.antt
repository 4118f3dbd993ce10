-- Laws of the runs of `serve` and `client`, which the proofs of other crates may cite.
pub use Rattle.service_commands.proofs.Asides.{aside_back, beside, sink_back, sink_of}
pub use Rattle.service_commands.proofs.AuditedServices.{handed_audited, logged_audited, none_audited, service_audited}
pub use Rattle.service_commands.proofs.ClientEnds.{runs_client}
pub use Rattle.service_commands.proofs.LoggedEnds.{logged_unsent, runs_logged}
pub use Rattle.service_commands.proofs.ServiceEnds.{runs_service, still_unsent}
