pub mod Decimal
pub mod Laying
pub mod Lines
pub mod Once
pub mod Examples
pub mod Room
