pub mod Check
pub mod WellFormed
pub mod Pass
