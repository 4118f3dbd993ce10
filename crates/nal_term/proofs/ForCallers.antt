-- What the proofs of other crates may cite.
-- the entries of a map that are seen as rows, by a function of each
unfoldable pub use Rattle.nal_term.proofs.EntryRows.{keys_in}
pub use Rattle.nal_term.proofs.EntryRows.{position_agrees, find_agrees, find_of_none, position_of_none, map-agrees, map-map, map-remove, All-remove}
-- items and names that stand once in a list, and what their places say as the list grows
unfoldable pub use Rattle.nal_term.proofs.Places.{put_item}
pub use Rattle.nal_term.proofs.Places.{length-put_item, get_or-put_item, same_item, fails_at}
pub use Rattle.nal_term.proofs.NamePlaces.{same_place, other_name, place_of_name, name_at_place, name_without_place}
pub use Rattle.nal_term.proofs.KeptPlaces.{place_stays, place_of_new, place_stays_set}
-- formulas and terms that a list of variables covers
pub use Rattle.nal_term.proofs.Closed.{closed_spec, closed_term_spec, closed_but_spec}
