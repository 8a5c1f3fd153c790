-- The rules of the chip, in document 01's order.
pub mod Table
pub mod Answers
pub mod Line
pub mod Change
pub mod Outcome
pub mod Events
pub mod Protection
pub mod Locked
pub mod Older
pub mod Worked
pub mod WorkedPe
