-- What holds of every step and of every run of calls.
pub mod Sums
pub mod Checks
pub mod Changes
pub mod Ends
pub mod Kept
pub mod Guarded
pub mod Bounded
pub mod Limit
pub mod Sweeps
pub mod Runs
pub mod Retries
