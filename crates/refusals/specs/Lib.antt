-- The number that answers a call.
pub mod Numbers
