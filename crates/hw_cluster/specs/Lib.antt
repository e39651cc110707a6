pub mod Nodes
pub mod Counts
pub mod Numbers
pub mod Laws
pub mod Worked
pub mod Lanes
pub mod Made
pub mod Generating
