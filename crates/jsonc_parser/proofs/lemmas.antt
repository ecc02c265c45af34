pub mod paths
pub mod patch
