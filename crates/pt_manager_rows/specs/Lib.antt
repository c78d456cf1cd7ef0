pub mod ManagerRows
