pub mod Boundaries
pub mod Repeats
pub mod KindRules
pub mod Moves
pub mod TextPlaces
pub mod Walk
