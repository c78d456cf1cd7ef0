pub mod SyntaxLemmas
pub mod SyntaxOnce
pub mod Once
pub mod FrontLemmas
