pub mod Times
pub mod Compared
pub mod Sql
pub mod Taken
pub mod Met
pub mod Small
