pub mod Lives
pub mod Safety
