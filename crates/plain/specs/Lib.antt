pub mod Drafts
pub mod Offers
pub mod Edits
pub mod Steps
pub mod LawfulDrafts
pub mod Outcomes
pub mod Effects
