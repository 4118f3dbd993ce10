-- Words that only the contracts of private functions use. No statement about a verdict rests on them.
pub mod Costs
pub mod Kinds
pub mod LineSets
pub mod Numbered
pub mod Premises
pub mod Rests
pub mod Sound
