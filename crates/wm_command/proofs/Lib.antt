pub mod FeatureLemmas
pub mod LineLemmas
pub mod PositionLemmas
pub mod RunLemmas
mod SeveralLemmas
