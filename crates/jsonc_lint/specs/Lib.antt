pub mod Findings
pub mod Lines
pub mod Linted
pub mod Messages
pub mod Moves
pub mod SeenNames
pub mod Steps
pub mod Whole
