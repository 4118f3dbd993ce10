use Rattle.std.proofs.Common.{sym, ap, ◌∙◌}
use Rattle.nal_term.specs.TreeKeys.{same_bytes-Decides}
use Rattle.nal_parse.specs.Canonical.{formula_text}
use Rattle.answer_commands.proofs.SameKeys.{text_tells}
use Rattle.answer_commands.proofs.keys.FormulaKey.is_same.Goals as goal

pub returns-then-self-other : goal.returns-then-self-other
returns-then-self-other c =
    let own = c.args.self.now in
    let other = c.args.other.now in
    let decides = same_bytes-Decides c.as_slice.result.now c.as_slice-then-self-other.result.now in (
      λ t. text_tells c.texts_spell_one_tree.ensures.spelled_formulas _ _ own.spellable other.spellable
          (sym own.written ∙ sym c.as_slice.ensures ∙ decides.0 (sym c.eq.ensures ∙ t) ∙ c.as_slice-then-self-other.ensures ∙ other.written),
      λ e. c.eq.ensures ∙ decides.1 (c.as_slice.ensures ∙ own.written ∙ ap formula_text e ∙ sym other.written ∙ sym c.as_slice-then-self-other.ensures),
    )
