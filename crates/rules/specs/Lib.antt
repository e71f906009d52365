pub mod Outcome
pub mod Effects
pub mod Sweeping
pub mod Steps
pub mod OnTable
pub mod Calls
pub mod Terms
