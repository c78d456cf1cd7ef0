pub mod Built
pub mod Numbers
