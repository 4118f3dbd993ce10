use Rattle.std.proofs.Common.{◌≡◌, ◌∙◌, refl}
use Rattle.std.specs.String.{string_bytes}
use Rattle.nexus_drill.proofs.Loading.{core_line_of, four_at_least}
use Rattle.nexus_drill.proofs.core_load.core_text.Goals as goal

pub load_line-requires : goal.load_line-requires
load_line-requires c = four_at_least c.args.number c.args.steps c.in_ok-outcome.outcome c.in_ok-outcome.ensures

pub returns : goal.returns
returns c =
    let written : c.from_vec.result ≡ string_bytes c.in_ok-text.text = c.from_vec.ensures ∙ rw c.into_bytes.ensures.value refl in
    core_line_of c.args.number c.args.steps c.in_ok-outcome.outcome c.from_vec.result c.in_ok-outcome.ensures (written ∙ c.in_ok-text.ensures)
