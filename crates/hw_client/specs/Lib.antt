pub mod Feeding
pub mod Hosting
