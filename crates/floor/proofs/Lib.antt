pub mod Lawfuls
pub mod Stretches
pub mod States
pub mod Orders
