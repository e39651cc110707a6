pub mod Services
pub mod Serving
pub mod Requested
pub mod Served
