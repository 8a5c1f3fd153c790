-- Laws of images.
pub mod Folds
pub mod Parts
pub mod Faults
pub mod Blocks
pub mod Lists
pub mod Salvages
pub mod Calls
pub mod Wholes
pub mod Names
pub mod Theorems
pub mod Entries
pub mod Seen
pub mod Twice
