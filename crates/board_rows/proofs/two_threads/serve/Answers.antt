use Rattle.std.proofs.Common.{refl, ◌≡◌, ℕ, sym, ap, ◌∙◌, length, arith, [], ◌++◌, List, subst}
use Rattle.verdict_words.specs.Histories.{own}
use Rattle.verdict_words.specs.Rule.{last_met}
use Rattle.verdict_words.specs.Values.{met_seen}
use Rattle.verdict_words.proofs.ForCallers.{prefix_length, take_whole, last_met_kept, met_seen_kept}
use Rattle.board_rows.proofs.two_threads.serve.Goals as goal

none_before : {E : Type 0} (session : E → ℕ) (met more : List E) (s : ℕ) → met ≡ [] → own session met s ++ more ≡ more
none_before session met more s none_met = subst (λ l. own session l s ++ more ≡ more) (sym none_met) refl

pub returns-clause-own : goal.returns-clause-own
returns-clause-own g c =
    let start = c.raise-pass.result.0 in
    let one = c.look-touched.new.pass in
    let two = c.look-other.new.pass in
    let n : last_met start.trail ≡ length start.seen = c.raise-pass.ensures.pass.3 ∙ sym (ap length c.raise-pass.ensures.pass.2) in
    let trail₁ : last_met one.trail ≡ last_met start.trail = ap (λ p. last_met p.trail) c.look-touched.ensures.loaded.3 ∙ last_met_kept start.trail _ (λ m. refl) in
    let trail₂ : last_met two.trail ≡ last_met one.trail = ap (λ p. last_met p.trail) c.look-other.ensures.loaded.3 ∙ last_met_kept one.trail _ (λ m. refl) in
    let met₁ : met_seen one ≡ met_seen start = met_seen_kept start one c.look-touched.ensures.seen trail₁ (omega arith) in
    let longer = prefix_length start.seen one.seen c.look-touched.ensures.seen in
    let met₂ : met_seen two ≡ met_seen one = met_seen_kept one two c.look-other.ensures.seen trail₂ (omega arith) in
    let seen : met_seen two ≡ start.seen = met₂ ∙ (met₁ ∙ take_whole start.seen (last_met start.trail) n) in
    ap (λ l. own (λ e. e.session) l c.args.pass.session) (seen ∙ c.raise-pass.ensures.pass.2) ∙ (c.raise-pass.ensures.own ∙ none_before (λ e. e.session) _ _ _ c.requires.pass.1)
