pub mod to_input
pub mod nodes
pub mod from_input
pub mod Building
pub mod lines
pub mod input
