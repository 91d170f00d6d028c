pub mod Actions
pub mod Step
