pub mod ordering
pub mod groups
pub mod again
