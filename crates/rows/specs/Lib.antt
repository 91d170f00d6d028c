pub mod Rows
pub mod Title
pub mod Find
pub mod Lines
