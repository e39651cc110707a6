pub mod Disk
pub mod Laws
pub mod Sample
pub mod Cuts
pub mod Left
