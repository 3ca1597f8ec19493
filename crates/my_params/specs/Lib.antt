pub mod BulkBody
pub mod LongData
pub mod NamedParams
pub mod ParamValues
pub mod Parameters
pub mod Sending
pub mod SqlText
