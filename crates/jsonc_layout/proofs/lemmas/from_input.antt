pub mod Extending
pub mod Rows
pub mod ValueLevels
pub mod Leaves
pub mod SpelledTexts
pub mod Meanings
pub mod Texts
