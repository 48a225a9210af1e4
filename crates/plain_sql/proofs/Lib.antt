pub mod Added
pub mod ColumnsLemmas
pub mod CommandsLemmas
pub mod NamesLemmas
pub mod Spelled
pub mod WordsLemmas
