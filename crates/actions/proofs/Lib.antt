pub mod Elements
pub mod Identifiers
pub mod Listing
pub mod Groups
pub mod Labelling
pub mod Answering
