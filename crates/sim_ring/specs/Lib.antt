pub mod Ring
pub mod Opening
pub mod Keys
pub mod Laws
