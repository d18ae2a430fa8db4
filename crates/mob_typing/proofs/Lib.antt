pub mod Apart
mod Examples
pub mod Folded
pub mod OperatorRows
pub mod RowSteps
pub mod ScriptSteps
pub mod Sound
pub mod Walk
pub mod WalkedExpressions
pub mod WalkedRows
pub mod WalkedScripts
pub mod WalkedSelects
pub mod WalkedStatements
