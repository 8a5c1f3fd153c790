-- Demand 3, proved of the calls.
pub mod Steps
pub mod Bytes
pub mod Demand3
pub mod Calls
