pub mod Packed
pub mod Zones
