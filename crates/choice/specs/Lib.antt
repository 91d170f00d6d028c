pub mod Locale
pub mod Step
