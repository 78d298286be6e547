pub mod OrderLemmas
pub mod KidLemmas
pub mod BarLemmas
