pub mod Cloth
