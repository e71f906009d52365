pub mod Words
pub mod Tests
pub mod Values
pub mod Names
pub mod Lines
pub mod Said
pub mod Typed
