pub mod Offsets
pub mod Parts
pub mod Hours
pub mod SameRecord
