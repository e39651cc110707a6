pub mod Buffers
pub mod Consumers
pub mod Doors
pub mod Faults
pub mod Files
pub mod Moments
pub mod Reads
pub mod Sinks
