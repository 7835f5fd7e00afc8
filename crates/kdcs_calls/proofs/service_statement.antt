pub mod Reading
pub mod CallStatement
pub mod Stated
