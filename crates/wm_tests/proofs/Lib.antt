pub mod IdleSinks
