-- What values and rows convert to.
pub mod Decimals
pub mod OneCells
