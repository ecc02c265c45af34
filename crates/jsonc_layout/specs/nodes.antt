pub mod Kinds
pub mod Siblings
pub mod Properties
pub mod Comments
pub mod Names
