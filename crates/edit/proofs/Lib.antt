pub mod Opening
pub mod Applying
pub mod Replaying
pub mod Turning
pub mod Requested
