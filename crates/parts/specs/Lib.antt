-- The parts' figures and the protected sectors.
pub mod Parts
pub mod Protected
pub mod Table
