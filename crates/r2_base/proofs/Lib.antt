pub mod AddrTexts
pub mod Decimals
pub mod NumberBytes
pub mod SameNames
pub mod Splits
