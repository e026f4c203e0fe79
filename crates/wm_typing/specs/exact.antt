-- Exact answers of functions: each result as a function of the arguments, refusals included. Only proofs use
-- them, so a reader need not believe them.
pub mod Answers
pub mod Bodies
pub mod Effects
pub mod Folds
pub mod OperandTypes
pub mod Ops
pub mod Raises
pub mod Takes
