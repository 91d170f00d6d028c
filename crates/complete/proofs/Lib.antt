pub mod Keys
pub mod Booleans
