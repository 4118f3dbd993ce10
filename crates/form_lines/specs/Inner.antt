-- Words of the reader.
pub mod Errors
