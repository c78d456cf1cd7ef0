pub mod Tables
pub mod RowProofs
