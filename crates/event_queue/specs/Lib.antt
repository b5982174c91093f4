pub mod Event
pub mod Agenda
pub mod Picker
pub mod Laws
