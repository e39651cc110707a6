pub mod Needs
pub mod Forks
pub mod Laws
pub mod Pairs
