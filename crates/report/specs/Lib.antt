-- A report: what is counted, and what the call does.
pub mod Totals
pub mod Report
pub mod Theorems
pub mod Found
