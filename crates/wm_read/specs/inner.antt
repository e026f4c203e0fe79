-- Inner states of values, for invariants and proofs. Contracts name these definitions and say what follows from them,
-- so a reader can skip their bodies.
pub mod Fields
pub mod Heads
pub mod Renewed
pub mod Tails
