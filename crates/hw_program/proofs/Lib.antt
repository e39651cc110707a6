pub mod ServiceLaws
pub mod ServedLaws
pub mod NodeLaws
pub mod FinishLaws
pub mod CallLaws
pub mod LogLaws
pub mod ReportLaws
