-- What holds of every part.
pub mod Laws
