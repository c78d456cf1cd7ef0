pub mod Pendings
pub mod Views
pub mod Stands
pub mod Laws
