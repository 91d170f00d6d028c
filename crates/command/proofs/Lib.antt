pub mod Parting
pub mod Pieces
pub mod Checks
pub mod Takers
