pub mod Embedded
