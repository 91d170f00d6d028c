pub mod Words
pub mod Codes
pub mod Command
pub mod Step
pub mod Laws
