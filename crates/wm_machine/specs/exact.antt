-- Exact answers: the results of functions as spec functions, refusals included. They follow the code, serve the proofs
-- of the layers above, and need not be believed.
pub mod ExpressionSteps
pub mod Live
pub mod MemberSteps
pub mod Members
pub mod OpSteps
pub mod Readings
pub mod Runs
pub mod Steps
pub mod TwoSinks
pub mod ValueSteps
