pub mod AggregateValues
pub mod ExpressionTypes
pub mod IndexScripts
pub mod KeptTuples
pub mod BlankedScripts
pub mod WideAnswers
