-- Words that only the contracts of private functions use.
pub mod SlotKeys
pub mod Undoing
pub mod Marking
pub mod Printing
