-- Words that the contracts of readers use. No statement about an input rests on them but by what they unfold to.
pub mod Reading
