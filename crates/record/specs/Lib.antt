pub mod Number
pub mod Record
pub mod Walk
