pub mod Faults
pub mod Rows
pub mod Machine
pub mod Blank
pub mod Changes
pub mod Roster
