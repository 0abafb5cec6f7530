pub mod Stations
pub mod Made
pub mod Served
pub mod Tools
