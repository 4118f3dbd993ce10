use Rattle.verdict_words.proofs.Freshness.{finds_the_last, counts_all}
use Rattle.verdict_words.proofs.laws.what_is_found_is_fresh.Goals as goal

pub returns : goal.returns
returns c = record { last = finds_the_last; count = counts_all }
