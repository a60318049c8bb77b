pub mod Addresses
pub mod Checked
pub mod Viewed
pub mod Words
