pub mod PlaceLaws
pub mod Chains
pub mod Within
pub mod Asked
pub mod Depths
pub mod Steps
pub mod CommentsCome
