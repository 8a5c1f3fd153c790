-- Several chips on one bus: what a row and an array are, and what the calls answer and leave.
pub mod Bus
pub mod Calls
pub mod Found
pub mod Runs
