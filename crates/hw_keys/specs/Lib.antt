pub mod Keys
pub mod Signed
