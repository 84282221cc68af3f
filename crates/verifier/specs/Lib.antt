pub mod Signed
pub mod Identities
pub mod Tags
pub mod Pinned
pub mod Items
pub mod TrustRefusals
pub mod Signers
pub mod TrustLists
