pub mod Spelling
pub mod MadeTrees
pub mod Stacked
