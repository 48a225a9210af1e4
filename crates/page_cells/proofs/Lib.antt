pub mod CellLemmas
pub mod CellsLemmas
pub mod FieldLemmas
pub mod FoundLemmas
pub mod LayoutLemmas
pub mod TakenLemmas
pub mod WriteLemmas
