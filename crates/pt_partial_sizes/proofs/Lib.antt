mod CutSoFar
pub mod Cutting
