pub mod Views
pub mod Leads
pub mod Laws
pub mod Told
pub mod RowsIn
