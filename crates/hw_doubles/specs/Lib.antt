pub mod Memory
pub mod SetMoments
pub mod Shelves
