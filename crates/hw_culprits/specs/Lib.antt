pub mod Equivocation
pub mod Innocence
