pub mod Before
pub mod AnsweredKeys
