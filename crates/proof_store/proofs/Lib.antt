pub mod HeldCases
pub mod CaseFacts
