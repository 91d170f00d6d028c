pub mod Splits
pub mod Standing
pub mod Whole
pub mod Built
