pub mod Failures
pub mod Journal
pub mod Patience
pub mod Waiting
