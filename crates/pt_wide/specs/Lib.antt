pub mod Syntax
pub mod Fold
pub mod StatementFold
pub mod Measure
