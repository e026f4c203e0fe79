-- The inner state of values, and its invariants. Contracts use these names and say what follows from them. A
-- reader need not believe their definitions.
pub mod Operands
pub mod Widths
