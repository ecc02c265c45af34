pub mod Plains
pub mod Operations
pub mod Chains
pub mod Nodes
pub mod Needed
pub mod Values
pub mod Edits
pub mod Within
