-- Exact answers: each reader as a function of the tokens, refusals included. Proofs use them; a reader can skip them.
pub mod FieldTypes
pub mod Fields
pub mod FirstReading
pub mod Signatures
pub mod TextModules
