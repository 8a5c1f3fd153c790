-- Laws of the C calls.
pub mod Laws
pub mod Pins
pub mod Batch
pub mod Report
pub mod Image
pub mod Apart
pub mod Records
pub mod Bus
