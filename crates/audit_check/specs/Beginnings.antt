-- The beginnings of a journal.
use Rattle.std.specs.Prelude.{◌≡◌, ℕ, length, take}
use Rattle.policy_history.specs.Values.{History, entry_trees}

-- the journal has the head of the whole one, and its first n entries
pub record IsBeginning (part whole : History) (n : ℕ) : Type 0 where
  pub head : part.head ≡ whole.head
  pub entries : entry_trees part.entries ≡ take n (entry_trees whole.entries)
  pub count : length part.entries ≡ n
