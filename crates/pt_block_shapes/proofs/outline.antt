pub mod Docstrings
pub mod BodyLemmas
pub mod StatementLaws
