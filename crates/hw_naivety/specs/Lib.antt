pub mod Naivety
pub mod Rows
pub mod Tips
pub mod Shared
pub mod Heirs
pub mod Forks
pub mod Laws
