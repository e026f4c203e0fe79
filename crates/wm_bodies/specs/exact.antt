-- Exact answers: each reader as a function of the tokens, refusals included. Proofs use them; a reader can skip them.
pub mod NamedUses
pub mod Reading
pub mod TypeUses
