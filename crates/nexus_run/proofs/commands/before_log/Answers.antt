use Rattle.std.proofs.Common.{sym, subst, ◌∙◌}
use Rattle.service_commands.specs.Services.{IsAddress}
use Rattle.nexus_run.proofs.Words.{ends_same, not_so, texts_with_two}
use Rattle.nexus_run.proofs.commands.before_log.Goals.{else-is_same-via-then-is_same+else-is_address, else-is_same-via-else-is_same}
use Rattle.nexus_run.proofs.commands.before_log.Goals as goal

pub returns-else-is_same : goal.returns-else-is_same
returns-else-is_same c = λ front log is e.
    let last = c.in_ok-last.last.now in
    let word = c.in_ok-word.word.now in
    let texts = texts_with_two c.args.words.now c.in_ok-last.rest.now c.in_ok-word.front.now last word c.in_ok-last.ensures.cases.0 c.in_ok-word.ensures.cases.0 in
    let same = ends_same _ front word.now last.now _ log (sym texts ∙ e) in
    elim c.else-is_same.branch [
      | else-is_same-via-then-is_same+else-is_address w ↦
          not_so _ w.if-is_address.false (w.is_address.ensures.1 (subst IsAddress (sym (c.as_bytes-log.ensures.value ∙ same.2)) is))
      | else-is_same-via-else-is_same w ↦ not_so _ w.if-is_same.false (c.is_same.ensures.1 same.1)
    ]
