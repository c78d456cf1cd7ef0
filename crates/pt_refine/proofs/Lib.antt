pub mod StatementBuilding
pub mod OtherStatements
pub mod OwnStatements
