-- The laws of raw pins.
pub mod Seen
pub mod Carried
pub mod Held
pub mod Runs
pub mod Theorems
pub mod Output
pub mod Worked
pub mod Protected
