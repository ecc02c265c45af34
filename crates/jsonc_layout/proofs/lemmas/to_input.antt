pub mod Descendants
pub mod Shown
pub mod Items
pub mod Members
pub mod Leaves
pub mod Nodes
pub mod OneValue
pub mod ReadValues
