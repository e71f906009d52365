-- Laws that belong to no one function.
pub mod Cases
pub mod Digits
pub mod Listed
pub mod Many
pub mod ReadBack
pub mod Runs
pub mod Table
pub mod Texts
pub mod Unique
