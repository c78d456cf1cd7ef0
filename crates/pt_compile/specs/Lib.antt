pub mod PartialCode
