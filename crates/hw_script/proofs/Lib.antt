pub mod LineLaws
pub mod ToldLaws
pub mod AnswerLaws
pub mod ShowLaws
pub mod RunLaws
pub mod PrintLaws
