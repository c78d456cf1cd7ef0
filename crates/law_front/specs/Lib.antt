pub mod identifiers
pub mod token_lines
pub mod statement_lines
pub mod parsed
pub mod parsed_scripts
