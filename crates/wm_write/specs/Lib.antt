pub mod Canon
pub mod FloatText
pub mod Layout
pub mod exact
pub mod inner
