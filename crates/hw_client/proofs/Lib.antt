pub mod DecidedLaws
pub mod FeedingLaws
pub mod HostingLaws
pub mod OwnUnitLaws
pub mod OwnerLaws
pub mod StoredLaws
