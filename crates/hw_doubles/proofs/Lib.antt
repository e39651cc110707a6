pub mod Stored
pub mod Given
pub mod Last
pub mod Blamed
pub mod Kept
