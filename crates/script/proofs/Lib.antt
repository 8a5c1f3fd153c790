-- Laws of the line language.
pub mod Reading
pub mod Printing
pub mod Back
