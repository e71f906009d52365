-- Laws that belong to no one function.
pub mod Tables
pub mod Unique
