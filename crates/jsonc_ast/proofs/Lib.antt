pub mod Firsts
pub mod Copies
pub mod lemmas
