pub mod Samples
pub mod SealTexts
