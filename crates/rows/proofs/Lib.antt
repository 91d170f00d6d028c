pub mod Rows
pub mod Titles
pub mod Sight
pub mod Step
pub mod Reading
pub mod Seek
pub mod Told
pub mod Turns
