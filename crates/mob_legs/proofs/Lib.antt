pub mod Formulas
pub mod Broadly
pub mod Covering
