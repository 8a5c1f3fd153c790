-- Several chips on one bus: laws and proofs.
pub mod Rows
pub mod Numbers
pub mod Chips
pub mod Turns
pub mod Waits
pub mod Whole
pub mod Runs
pub mod Theorems
