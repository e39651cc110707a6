pub mod Report
pub mod Greatest
pub mod Explain
pub mod Searched
pub mod Told
pub mod Logs
pub mod Laws
