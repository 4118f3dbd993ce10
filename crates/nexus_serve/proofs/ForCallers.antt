-- Laws of services, which the proofs of other crates may cite: the reports that are handed back are true, what was recorded is audited, and
-- what is told of each session is told by its report.
pub use Rattle.nexus_serve.proofs.Gathering.{joined_map}
pub use Rattle.nexus_serve.proofs.TruthOfReports.{hosts_true, none_true, serves_true}
pub use Rattle.nexus_serve.proofs.AuditOfRecords.{IsAuditedOver, IsHandedAudited, hosts_audited}
