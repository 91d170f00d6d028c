pub mod Bodies
pub mod Judging
