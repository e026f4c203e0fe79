-- Exact answers: the results of functions as spec functions, refusals included. They follow the code, serve the proofs
-- of the layers above, and need not be believed.
pub mod Completed
pub mod Frames
pub mod Heads
pub mod Indices
pub mod Limited
pub mod Segments
pub mod ShortSteps
pub mod Shortcuts
pub mod TypeStarts
pub mod WholeMembers
pub mod WholeNames
pub mod WholeOps
