pub mod Lives
pub mod Logs
pub mod Members
pub mod Reports
pub mod RunMembers
pub mod Runs
