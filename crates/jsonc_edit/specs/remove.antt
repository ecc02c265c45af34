pub mod Leaving
pub mod Removed
pub mod Laws
pub mod Comments
pub mod CommentLaws
