pub mod Run
pub mod Step
