pub mod Branches
pub mod ClaimLemmas
pub mod NeededLemmas
pub mod RoomLemmas
pub mod HeldLemmas
pub mod KeptLemmas
