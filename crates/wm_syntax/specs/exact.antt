-- Exact answers of functions, refusals included. They follow the code, and the layers above use them. A
-- reader need not believe them.
pub mod ByteTable
pub mod NameTable
pub mod OpShapes
pub mod Reading
pub mod Runs
