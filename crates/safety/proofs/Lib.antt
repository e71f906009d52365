-- Demand 3, in Demand3; beside it the proved twelve, the published method's two faults, a night, and that `limit` has one answer.
pub mod Demand3
pub mod Twelve
pub mod ReadAsPrinted
pub mod BoundAsPrinted
pub mod Night
pub mod OneAnswer
