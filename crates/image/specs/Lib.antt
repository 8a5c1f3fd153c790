-- Chip images: blocks of 512 bytes, the image of an array, salvage, and the three calls.
pub mod Sums
pub mod Faults
pub mod Blocks
pub mod Images
pub mod Calls
pub mod Steps
