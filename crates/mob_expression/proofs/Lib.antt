pub mod Behind
pub mod ExpressionSteps
pub mod Figures
pub mod Lists
pub mod TreeFacts
pub mod Wrongs
