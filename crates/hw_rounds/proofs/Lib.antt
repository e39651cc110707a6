pub mod DrawingLaws
pub mod TableLaws
pub mod UnitLaws
