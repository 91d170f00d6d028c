pub mod Class
pub mod Bare
pub mod Utf8
pub mod Step
pub mod Window
