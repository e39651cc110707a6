pub mod LineLaws
pub mod ReportLaws
pub mod CommitteeLaws
pub mod GreatestLaws
pub mod GrowLaws
pub mod ToldLaws
pub mod LogLaws
pub mod AllowedLaws
