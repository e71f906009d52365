pub mod Records
pub mod Requests
pub mod Room
