pub mod PartLemmas
pub mod OrderedLemmas
pub mod AcceptedLemmas
pub mod VersionLemmas
mod NumberLemmas
mod GroupTextLemmas
mod TreeLemmas
mod TextLemmas
pub mod UpToLemmas
pub mod CourseLemmas
pub mod OutlineLemmas
pub mod FaultLemmas
