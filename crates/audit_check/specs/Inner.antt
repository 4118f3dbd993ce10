-- Words that only the contracts of private functions use. No statement about a record rests on them but by what they unfold to.
pub mod Judging
pub mod RightAnswers
pub mod Replays
