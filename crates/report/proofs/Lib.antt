-- Laws of reports.
pub mod Counts
pub mod Foresee
pub mod Sums
pub mod Going
pub mod Adding
pub mod Runs
pub mod Theorems
pub mod Equal
pub mod Blind
pub mod Append
pub mod Week
pub mod Protected
