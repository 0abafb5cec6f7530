pub mod Meaning
pub mod Worked
