pub mod Syntax
pub mod Fold
pub mod StatementFold
pub mod Sizes
pub mod Acts
pub mod Blocks
pub mod Measure
