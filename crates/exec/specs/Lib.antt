pub mod Expand
pub mod Step
