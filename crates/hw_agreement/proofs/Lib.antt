pub mod LifeLaws
pub mod LogLaws
pub mod MemberLaws
pub mod ReportLaws
pub mod RunLaws
pub mod RunMemberLaws
