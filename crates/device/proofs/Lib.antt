-- Laws of the lock registers, of the record, of time and power, and of the packing.
pub mod Registers
pub mod Calls
pub mod Sound
pub mod Timed
pub mod Waiting
pub mod Ends
pub mod Inverse
pub mod Refused
pub mod Outcomes
pub mod Worked
