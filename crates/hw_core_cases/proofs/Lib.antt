pub mod SlotLaws
pub mod VerdictLaws
