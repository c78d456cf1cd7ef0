pub mod OnBreakpoints
pub mod Going
pub mod Sessions
