pub mod ReadAgain
mod RecordText
mod Within
