-- Laws that belong to no one function.
pub mod Bytes
pub mod Errors
pub mod Faults
pub mod Refusals
pub mod RoundTrip
pub mod Stands
pub mod Stores
pub mod TagBytes
pub mod Unique
pub mod Writes
