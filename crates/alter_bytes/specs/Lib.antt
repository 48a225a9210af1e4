pub mod Field
pub mod Varint
