-- Exact answers of functions. Proofs use them; a reader can skip them.
pub mod Aligns
pub mod Checking
pub mod Measures
pub mod Printing
pub mod Writing
