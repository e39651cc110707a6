pub mod Written
pub mod Windows
pub mod About
pub mod Asks
