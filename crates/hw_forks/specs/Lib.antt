pub mod Votes
pub mod Walk
pub mod Laws
