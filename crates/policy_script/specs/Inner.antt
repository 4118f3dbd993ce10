-- Words of the contracts of the reader. No statement about an input rests on them but by what they unfold to.
pub mod Reading
