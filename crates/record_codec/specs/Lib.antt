pub mod Faults
pub mod Record
pub mod Serial
pub mod Written
