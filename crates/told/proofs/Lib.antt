-- What is told of whole arrays, by laws in the place of their bytes.
pub mod WholeCalls
pub mod Stories
