-- The device record, its lock registers and cycles, time and power, and its packing; and the chip.
pub mod Device
pub mod Locks
pub mod Cycles
pub mod Chip
pub mod Time
pub mod Packing
