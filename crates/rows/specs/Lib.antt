pub mod Sheet
pub mod Tokens
pub mod Lines
pub mod Left
