pub mod Due
pub mod Asking
pub mod Laws
