-- Laws of the rules and of the code.
pub mod Rows
pub mod Verdicts
pub mod Lines
pub mod Records
pub mod Laws
pub mod Rules
pub mod Events
pub mod Reading
pub mod Busy
pub mod Missed
pub mod Areas
pub mod Protection
pub mod Locked
pub mod Limits
pub mod Older
pub mod Power
pub mod Worked
