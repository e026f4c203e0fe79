-- The inner state of values. Contracts name these definitions and state what follows from them, so a reader
-- need not believe them.
pub mod Ends
pub mod Lexemes
pub mod Places
pub mod PlainSpans
