-- The inner state of values. Contracts name these definitions and state what follows from them, so a reader
-- need not believe them.
pub mod Builders
pub mod Finding
pub mod Loaders
pub mod Loading
pub mod Validators
