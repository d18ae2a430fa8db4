pub mod FlatLemmas
pub mod Made
pub mod OneReading
pub mod ReadLiterals
pub mod Rows
mod LineRows
mod LineTexts
pub mod Drawn
pub mod SequenceLemmas
pub mod GroupSlices
pub mod GroupTexts
pub mod Begun
pub mod MovingAgain
pub mod BehindPrefixes
pub mod LinesAgain
pub mod SqlReading
pub mod SqlAgain
pub mod FieldsAgain
pub mod StepValues
