use Rattle.std.proofs.Common.{◌≤◌, length, arith}
use Rattle.journal_text.proofs.PolicyHeads.{authority_bad, authority_follows, both_ok, nothing_in, principal_bad, principal_follows, principal_late}
use Rattle.journal_text.proofs.policy_heads.add_line.Goals as goal

pub returns-then-count-gt0-clause-bad : goal.returns-then-count-gt0-clause-bad
returns-then-count-gt0-clause-bad c = λ _ next f. principal_late c.args.head.now c.in-Some.ensures (omega arith) next f

pub returns-in-Some-clause-ok : goal.returns-in-Some-clause-ok
returns-in-Some-clause-ok c =
    let few : length c.args.head.now.authorities ≤ 0 = omega arith in
    both_ok c.add_principal.result (principal_follows c.in-Some.ensures (nothing_in c.args.head.now.authorities few)) c.add_principal.ensures.ok c.add_principal.ensures.principals

pub returns-in-Some-clause-bad : goal.returns-in-Some-clause-bad
returns-in-Some-clause-bad c = λ e next f. principal_bad c.args.head.now c.in-Some.ensures (c.add_principal.ensures.bad e) next f

pub returns-clause-ok : goal.returns-clause-ok
returns-clause-ok c =
    both_ok c.add_authority.result (authority_follows c.in-Some-after_word.ensures) c.add_authority.ensures.ok c.add_authority.ensures.authorities

pub returns-clause-bad : goal.returns-clause-bad
returns-clause-bad c = λ e next f. authority_bad c.args.head.now c.in-Some-after_word.ensures (c.add_authority.ensures.bad e) next f
