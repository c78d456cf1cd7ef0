mod SameExpressions
pub mod SameStatements
pub mod Agreement
pub mod Objects
