pub mod to_input
pub mod nodes
pub mod Building
pub mod from_input
pub mod lines
pub mod input
