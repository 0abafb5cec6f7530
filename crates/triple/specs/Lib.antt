pub mod Copies
pub mod Meant
