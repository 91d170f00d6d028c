pub mod Values
pub mod Asking
pub mod Expanding
