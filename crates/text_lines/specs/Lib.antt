pub mod Lines
pub mod Numbers
pub mod Readings
pub mod Words
