-- The bench's line language: the lines that it reads and those that it prints.
pub mod Text
pub mod Lines
pub mod Answers
pub mod Examples
pub mod Steps
