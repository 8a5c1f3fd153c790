-- Laws for this crate's proofs and its callers'.
pub mod Choices
pub mod Maps
pub mod Windows
pub mod Parts
pub mod Ands
pub mod Sums
pub mod Outcomes
pub mod Laid
pub mod Sames
pub mod Stores
pub mod Words
