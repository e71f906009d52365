pub mod Fields
pub mod Reading
pub mod Said
pub mod Tags
pub mod Writing
