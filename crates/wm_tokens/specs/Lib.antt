pub mod Faults
pub mod Fields
pub mod Identifiers
pub mod TokenFaults
pub mod Tokens
pub mod Written
pub mod exact
pub mod inner
