pub mod Spans
pub mod SpanText
pub mod Printable
pub mod Boxes
pub mod BoxText
pub mod Polygons
pub mod PolygonText
