mod Beginnings
mod Forests
mod Leading
mod Partings
mod Spans
mod Theory
mod Waiting
pub mod Stages
