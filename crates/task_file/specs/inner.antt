-- How the code holds the parts of a file. No promise to a user cites these.
pub mod DocumentParts
pub mod Limits
pub mod NameEntries
pub mod NameLists
pub mod SectionViews
pub mod SlotRows
pub mod TextRowsView
