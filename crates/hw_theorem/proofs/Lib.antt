pub mod CountLaws
pub mod DrawnLaws
pub mod EqualLaws
pub mod EquivocatorLaws
pub mod LogLaws
pub mod ReportLaws
pub mod ClauseLaws
