pub mod RowFound
pub mod RowWritten
