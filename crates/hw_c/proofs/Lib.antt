pub mod Words
pub mod Places
pub mod StepLaws
pub mod NameLaws
pub mod DeliveryLaws
pub mod FactLaws
pub mod DueLaws
pub mod DuePlans
