pub mod Layout
pub mod Laid
pub mod Given
pub mod Extending
pub mod Texts
