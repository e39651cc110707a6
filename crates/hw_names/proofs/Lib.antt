pub mod Boxed
pub mod NameLaws
pub mod Threads
