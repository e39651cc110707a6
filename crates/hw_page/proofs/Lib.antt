pub mod PageLaws
pub mod JournalLaws
pub mod ChoiceLaws
