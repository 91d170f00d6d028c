pub mod Bounds
pub mod Choice
pub mod Lists
pub mod Over
