pub mod SiblingSteps
pub mod Depths
pub mod WalkSteps
pub mod NodesAbove
pub mod Told
pub mod LineBegins
pub mod FirstIndents
