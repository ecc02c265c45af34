mod Formatting
mod Fronts
mod Inputs
mod Patching
mod Pointing
mod Reading
mod Refused
pub mod Telling
mod Unedited
mod Unread
pub mod Mending
