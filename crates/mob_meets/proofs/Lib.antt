pub mod Near
pub mod Inside
pub mod Looking
