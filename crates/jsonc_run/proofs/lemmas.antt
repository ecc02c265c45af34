pub mod promise
pub mod depth
