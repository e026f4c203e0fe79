-- The inner state of values. Contracts name these definitions and state what follows from them, so a reader
-- need not believe them.
pub mod Checking
pub mod DeclaredLocals
pub mod Frames
pub mod FuncTypes
