-- The inner state of values, and its invariants. Contracts use these names and say what follows from them. A
-- reader need not believe their definitions.
pub mod Builders
pub mod Building
pub mod Codes
pub mod Equality
pub mod Numbers
pub mod Ranges
pub mod Runs
pub mod Streams
