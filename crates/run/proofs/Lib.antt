pub mod Spending
pub mod Listing
pub mod Arguments
pub mod Filling
pub mod Writing
