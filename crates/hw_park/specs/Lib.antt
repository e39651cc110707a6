pub mod Parked
pub mod Keys
pub mod Held
pub mod Numbers
pub mod Kept
pub mod First
