pub mod Telling
pub mod NoByte
