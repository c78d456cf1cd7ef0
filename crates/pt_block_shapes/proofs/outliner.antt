pub mod Steps
pub mod Tells
pub mod ExpressionLaws
