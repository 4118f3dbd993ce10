-- Which hypotheses a line rests on, as tests on what is known of the lines before it. A column belongs to
-- one hypothesis, and has a place for each line, by its number: whether the line rests on the hypothesis.
use Rattle.std.specs.Prelude.{◌≡◌, ◌↔◌, ◌<◌, ℕ, List, Bool, true, false, not, ◌&&◌, ◌||◌, nat_eq, nat_lt, Option, Some, None, length, slice_index_or}
use Rattle.std.specs.List.{list_any}
use Rattle.proof_lines.specs.declared.rules.Rule.{Rule}
use Rattle.proof_lines.specs.declared.rules.Rule.TheVariants.{Hyp}
use Rattle.proof_lines.specs.Lines.{LineTree}
use Rattle.nal_rules.specs.Faults.{line_at, supports_of, RestsOn}

-- the rule is that of a hypothesis
abbrev pub is_hyp_rule : Rule → Bool
is_hyp_rule Hyp = true
is_hyp_rule _ = false

-- there is a line with this number, and it is a hypothesis
abbrev pub is_hyp_at : List LineTree → ℕ → Bool
is_hyp_at lines k = is_hyp_line (line_at lines k)
  where
    is_hyp_line : Option LineTree → Bool
    is_hyp_line None = false
    is_hyp_line (Some l) = is_hyp_rule l.rule

-- the hypothesis h is not the one that is discharged
abbrev pub is_kept : ℕ → Option ℕ → Bool
is_kept h None = true
is_kept h (Some d) = not (nat_eq d h)

-- line j comes before line k, and rests on the hypothesis of the column
abbrev pub reaches : List Bool → ℕ → ℕ → Bool
reaches column k j = nat_lt j k && slice_index_or column j false

-- through this support, line k rests on the hypothesis h, to which the column belongs
abbrev pub leads : List Bool → ℕ → ℕ → (ℕ × Option ℕ) → Bool
leads column h k support = is_kept h support.1 && reaches column k support.0

-- line k, which is `l`, rests on the hypothesis h, to which the column belongs
abbrev pub rests_by : List Bool → ℕ → ℕ → LineTree → Bool
rests_by column h k l =
    (is_hyp_rule l.rule && nat_eq k h) || list_any (leads column h k) (supports_of l.rule l.refs)

-- the column is that of the hypothesis h, as far as the lines below n
abbrev pub IsColumnTo : List LineTree → ℕ → ℕ → List Bool → Type 0
IsColumnTo lines h n column =
    (length column ≡ n) × ((k : ℕ) → k < n → (slice_index_or column k false ≡ true) ↔ RestsOn lines k h)

-- the column is that of the hypothesis h
abbrev pub IsColumn : List LineTree → ℕ → List Bool → Type 0
IsColumn lines h column = (k : ℕ) → (slice_index_or column k false ≡ true) ↔ RestsOn lines k h
