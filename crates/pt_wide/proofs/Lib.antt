pub mod Folds
pub mod StatementFolds
