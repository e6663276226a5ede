pub mod Checked
pub mod JobParts
pub mod NumberFound
pub mod MadeParts
pub mod PairsPut
pub mod FieldTexts
pub mod FilledTexts
