pub mod LiveTexts
