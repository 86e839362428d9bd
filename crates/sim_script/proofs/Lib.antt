pub mod Listing
pub mod WholeText
pub mod Digits
pub mod RecordFields
pub mod RecordCalls
pub mod ScriptRanges
