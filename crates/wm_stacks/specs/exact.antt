-- Exact answers of functions, refusals included. They follow the code, and the layers above use them. A
-- reader need not believe them.
pub mod FastPaths
pub mod Stacks
pub mod Words
