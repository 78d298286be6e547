pub mod LookUpLemmas
pub mod ShippedLemmas
pub mod ColumnLemmas
pub mod UserLemmas
pub mod FaultLemmas
pub mod TableLemmas
