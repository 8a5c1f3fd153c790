-- Demand 3: jobs, lists of them, and what they leave.
pub mod Jobs
pub mod Formula
pub mod Swap
pub mod Worked
pub mod Call
