pub mod Answers
pub mod Shows
pub mod Told
pub mod Output
