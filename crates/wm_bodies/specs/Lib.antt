pub mod exact
pub mod inner
