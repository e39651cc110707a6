pub mod Frames
pub mod Talk
pub mod UnderWay
pub mod Links
pub mod Told
pub mod Heard
pub mod Sent
pub mod Asked
