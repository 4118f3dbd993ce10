pub mod ObjectFacts
