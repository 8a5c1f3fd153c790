-- A batch: its bytes, and what it does.
pub mod Items
pub mod Batch
pub mod Theorems
pub mod Found
