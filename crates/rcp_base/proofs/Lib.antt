mod NamePadding
pub mod WritingLaws
pub mod AddingLaws
pub mod StateLaws
pub mod TableLaws
pub mod SearchLaws
pub mod PigeonholeLaws
pub mod BitLaws
pub mod FillLaws
pub mod CountLaws
pub mod MajorityLaws
pub mod MedianLaws
pub mod ReaderLaws
pub mod StepLaws
