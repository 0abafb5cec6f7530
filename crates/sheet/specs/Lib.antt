pub mod Faults
pub mod Verbs
pub mod Reading
pub mod Playing
pub mod Seated
pub mod Fresh
