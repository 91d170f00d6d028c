pub mod OutputLaws
pub mod Reading
pub mod Writing
pub mod Elements
pub mod RoomLaws
pub mod ReadBack
pub mod Values
