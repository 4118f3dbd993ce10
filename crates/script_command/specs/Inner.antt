-- Words that only the contracts of private functions use. No statement about a script rests on them.
pub mod ScriptEnds
