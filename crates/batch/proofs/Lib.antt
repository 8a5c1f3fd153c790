-- Laws of batches.
pub mod Items
pub mod One
pub mod Going
pub mod Runs
pub mod Fits
pub mod Singly
pub mod Append
pub mod Theorems
pub mod Protected
pub mod Outcomes
