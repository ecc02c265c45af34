pub mod sorting
pub mod typed
pub mod objects
pub mod comments
