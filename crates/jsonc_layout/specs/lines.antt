pub mod Kinds
pub mod Siblings
pub mod Lines
pub mod Breadth
pub mod Indents
pub mod IndentViews
pub mod Walk
