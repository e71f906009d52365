-- Laws that belong to no one function.
pub mod Tests
pub mod ByPlace
pub mod Along
pub mod Ranges
pub mod Flat
pub mod Places
pub mod Blanks
pub mod Sound
