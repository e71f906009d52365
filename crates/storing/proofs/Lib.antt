-- Laws that belong to no one function.
pub mod Openings
pub mod Shown
