pub mod Writing
pub mod Forms
pub mod Misfits
pub mod Fits
pub mod OneWay
