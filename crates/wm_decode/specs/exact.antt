-- Exact answers: the results of functions as spec functions, refusals included. They follow the code, serve the proofs
-- of the layers above, and need not be believed.
pub mod Awaited
pub mod Standing
