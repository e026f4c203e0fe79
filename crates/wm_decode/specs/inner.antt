-- Inner states of values. Contracts name these definitions and state what follows from them, so their bodies need not
-- be believed.
pub mod Decoders
pub mod Places
