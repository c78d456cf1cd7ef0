pub mod StatementsNarrowed
