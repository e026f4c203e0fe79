-- Exact answers of functions: each result as a function of the arguments, refusals included. Only proofs use
-- them, so a reader need not believe them.
pub mod Scan
