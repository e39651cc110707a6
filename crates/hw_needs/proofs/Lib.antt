pub mod NotedLaws
pub mod AboveLaws
pub mod FaultLaws
pub mod ForkLaws
pub mod NeedLaws
pub mod ListLaws
pub mod TakenLaws
pub mod PairLaws
