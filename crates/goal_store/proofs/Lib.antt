pub mod HeldGoals
pub mod HeldPorts
