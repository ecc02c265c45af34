pub mod Views
pub mod Access
pub mod Node
pub mod Copies
pub mod Spelled
pub mod to_ast
