pub mod exact
