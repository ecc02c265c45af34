pub mod InsertedProperties
pub mod ByName
pub mod Steps
pub mod NamedCalls
