pub mod Offers
pub mod Append
pub mod LawfulDraft
pub mod Edited
pub mod CallEffect
