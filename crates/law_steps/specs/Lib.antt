pub mod leads
pub mod returns
pub mod sessions
pub mod waiting
