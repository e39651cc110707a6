pub mod WeightLaws
pub mod PairLaws
pub mod KeyLaws
pub mod KeptLaws
pub mod TallyLaws
