-- What a conversion returns for any bytes, and what stands in them then.
pub mod Converted
