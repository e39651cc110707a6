pub mod PairLaws
pub mod InnocenceLaws
