pub mod Utf8Laws
pub mod Characters
pub mod Steps
pub mod Endings
pub mod Letters
pub mod Windows
