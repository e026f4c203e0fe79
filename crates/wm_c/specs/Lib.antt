pub mod Answers
pub mod Codes
pub mod Conversions
pub mod Handles
pub mod Names
pub mod Options
pub mod Places
pub mod Sessions
