mod Edits
mod Steps
mod Walks
