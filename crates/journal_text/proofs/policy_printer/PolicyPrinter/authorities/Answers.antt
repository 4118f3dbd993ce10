use Rattle.std.proofs.Common.{◌≡◌, ◌+◌, ◌++◌, ◌∷◌, [], take, ap, sym, ◌∙◌}
use Rattle.std.specs.List.{flat_map}
use Rattle.std.proofs.lemmas.List.{flat_map_more}
use Rattle.policy_history.specs.declared.heads.Authority.{Authority}
use Rattle.policy_history.specs.PolicyTexts.{authority_text, ended}
use Rattle.journal_text.proofs.PolicyPrinting.{one_more}
use Rattle.journal_text.proofs.policy_printer.PolicyPrinter.authorities.Goals as goal

pub loop-place-preserved : goal.loop-place-preserved
loop-place-preserved c =
    let line = λ (a : Authority). ended (authority_text a) in
    let a = c.in-Some.authority.now in
    let before = take c.loop-place.place c.args.authorities.now in
    let next : take (c.loop-place.place + 1) c.args.authorities.now ≡ before ++ a ∷ [] = one_more c.args.authorities.now c.loop-place.place a c.in-Some.ensures in
    c.in_ok-authority.ensures ∙ ap (λ t. t ++ line a) c.loop-place.invariant ∙ flat_map_more line c.args.self.now.text before a
    ∙ sym (ap (λ xs. c.args.self.now.text ++ flat_map line xs) next)
