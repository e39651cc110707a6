pub mod DigitLaws
pub mod LineLaws
pub mod TextLaws
