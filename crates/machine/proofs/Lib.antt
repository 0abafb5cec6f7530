pub mod Least
pub mod Blanks
