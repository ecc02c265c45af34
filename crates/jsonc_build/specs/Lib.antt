pub mod Growth
pub mod Laid
pub mod Making
