-- A printed scene is read as the same scene: tokens, words, lines, settings, and what lines say.
pub mod Splits
pub mod Digits
pub mod ByteRuns
pub mod Addresses
pub mod Tokens
pub mod LineTexts
pub mod SettingLines
pub mod Sayings
pub mod ByWord
pub mod Said
pub mod Repeats
pub mod Whole
