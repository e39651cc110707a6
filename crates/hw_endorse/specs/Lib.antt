pub mod Told
pub mod Who
pub mod Kept
pub mod Laws
