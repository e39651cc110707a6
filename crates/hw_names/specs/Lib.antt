pub mod Names
pub mod Hidden
pub mod Opened
