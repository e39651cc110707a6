pub mod Page
pub mod OfJournals
pub mod Choice
