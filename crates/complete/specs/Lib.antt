pub mod Complete
pub mod Step
