pub mod LineTexts
pub mod ProfileLemmas
pub mod SumLemmas
