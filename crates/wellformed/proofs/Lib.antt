pub mod Lists
pub mod Places
pub mod Accepts
pub mod Known
pub mod ByLines
pub mod Plain
pub mod Checking
