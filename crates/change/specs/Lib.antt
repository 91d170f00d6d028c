pub mod Change
pub mod Target
