pub mod Asked
pub mod Ground
pub mod Lawful
pub mod Lists
pub mod New
pub mod Seen
pub mod Turn
