pub mod Happenings
