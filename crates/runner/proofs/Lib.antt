-- Laws that belong to no one function.
pub mod Carrying
pub mod KeptReady
