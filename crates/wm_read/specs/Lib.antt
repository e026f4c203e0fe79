pub mod Spellings
pub mod exact
pub mod inner
