pub mod Lists
pub mod State
pub mod Blank
pub mod Soundness
pub mod Words
pub mod Records
