pub mod FaceLemmas
pub mod LightLemmas
pub mod TorchLemmas
pub mod ListingLemmas
pub mod PlaceLemmas
pub mod NeighbourLemmas
pub mod PassageLemmas
