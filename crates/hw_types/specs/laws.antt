-- Statements of the laws over the definitions, apart from the definitions themselves.
pub mod GraphLaws
pub mod StateLaws
