pub mod Cut
pub mod Stripped
pub mod Choices
pub mod Chosen
pub mod Postfixes
pub mod Ranks
pub mod Plain
pub mod Best
