-- Exact answers of functions. They follow the code, and the layers above use them. A reader need not believe
-- them.
pub mod Atoms
