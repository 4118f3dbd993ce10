-- The lines whose numbers the checker gives.
use Rattle.std.specs.Prelude.{Bool}
use Rattle.proof_lines.specs.Lines.{LineTree}
use Rattle.nal_rules.specs.Faults.{is_label, is_ask}
use Rattle.proof_check.specs.declared.numbers.Kind.{Kind}
use Rattle.proof_check.specs.declared.numbers.Kind.TheVariants.{Label, Ask}

-- the line is of this kind
abbrev pub is_of_kind : Kind → LineTree → Bool
is_of_kind Label l = is_label l
is_of_kind Ask l = is_ask l
