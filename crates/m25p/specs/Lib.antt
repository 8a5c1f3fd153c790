-- What the C calls mean.
pub mod Calls
pub mod Pins
pub mod Batch
pub mod Report
pub mod Image
pub mod Bus
