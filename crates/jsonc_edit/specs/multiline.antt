pub mod Slots
pub mod Lines
pub mod LineViews
pub mod Multiline
pub mod Plans
pub mod Reflows
pub mod Laws
pub mod Worked
