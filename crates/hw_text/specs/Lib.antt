pub mod Text
pub mod Lines
pub mod Errors
pub mod Digits
pub mod Numbers
