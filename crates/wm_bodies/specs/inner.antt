-- Inner states of values, for invariants and proofs. Contracts name these definitions and say what follows from them,
-- so a reader can skip their bodies.
pub mod Blocks
pub mod Bodies
pub mod CodePieces
pub mod Firsts
pub mod Ids
pub mod Named
pub mod Pieces
pub mod Views
