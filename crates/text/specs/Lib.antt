pub mod Escape
pub mod Element
pub mod Output
pub mod Step
