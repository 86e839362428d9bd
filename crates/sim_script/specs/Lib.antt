pub mod ScriptGives
pub mod Ranges
