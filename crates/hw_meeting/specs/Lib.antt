pub mod Due
pub mod Frames
pub mod Lanes
pub mod Samples
