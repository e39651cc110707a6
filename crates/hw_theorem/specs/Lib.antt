pub mod Counts
pub mod Drawn
pub mod Equal
pub mod Equivocators
pub mod Logs
pub mod Reports
