pub mod Firsts
pub mod Places
pub mod Order
pub mod Refusals
