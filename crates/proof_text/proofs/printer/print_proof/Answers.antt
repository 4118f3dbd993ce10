use Rattle.std.proofs.Common.{List, subst, arith}
use Rattle.std.proofs.lemmas.List.{length-map}
use Rattle.std.proofs.lemmas.List.Elements.{All-map}
use Rattle.proof_lines.specs.declared.lines.Line.{Line}
use Rattle.proof_lines.specs.Lines.{HasRuleForm, line_tree, line_trees}
use Rattle.proof_text.specs.CanonicalProof.{IsSpellableProof, ProofFits}
use Rattle.proof_text.specs.ProofText.{IsProofText}
use Rattle.proof_text.proofs.PrintedProofs.{pieces_read}
use Rattle.proof_text.proofs.printer.print_proof.Goals as goal

pub returns-clause-read_again : goal.returns-clause-read_again
returns-clause-read_again c =
    subst (λ (ls : List Line). ProofFits (line_trees ls) → IsProofText c.extend.new.self (line_trees ls)) c.as_slice.ensures.items (λ fits.
    pieces_read c.as_slice.result.now c.extend.new.self c.in_ok-text.text c.append_lines.new.text c.in_ok-text.ensures c.in_ok-append_lines.ensures.text c.in_ok-extend.ensures.ok
    c.as_slice.ensures.bound c.as_slice.ensures.form c.in_ok-append_lines.ensures.spellable fits)

pub returns-clause-spellable : goal.returns-clause-spellable
returns-clause-spellable c =
    let lines = c.as_slice.result.now in
    subst (λ (ls : List Line). IsSpellableProof (line_trees ls)) c.as_slice.ensures.items record {
      few = omega (arith, length-map lines line_tree, c.as_slice.ensures.bound);
      forms = All-map HasRuleForm line_tree lines c.as_slice.ensures.form;
      parts = c.in_ok-append_lines.ensures.spellable;
    }
