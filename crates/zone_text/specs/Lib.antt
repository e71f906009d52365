pub mod Offsets
pub mod Answered
pub mod Zone
pub mod Said
