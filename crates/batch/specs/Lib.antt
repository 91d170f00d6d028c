pub mod Batch
pub mod Step
