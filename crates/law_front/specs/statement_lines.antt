pub mod OnLines
pub mod Laws
