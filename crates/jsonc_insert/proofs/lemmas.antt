pub mod properties
pub mod named
pub mod elements
pub mod members
