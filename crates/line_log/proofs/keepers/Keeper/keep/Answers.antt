use Rattle.std.proofs.Common.{◌≡◌, ◌≢◌, ◌+◌, List, ℕ, bytes_eq, false, true, sym, ap, ◌∙◌, take}
use Rattle.std.proofs.lemmas.Slice.Eq.{bytes_eq-Decides}
use Rattle.line_log.specs.LogLines.{kept_text, request_text}
use Rattle.line_log.specs.LineLogs.{answered, end_line, ended, refused, stopped}
use Rattle.line_log.proofs.keepers.Keeper.keep.Goals as goal

-- a line that is not equal to the one that ends a text is another
apart : (line : List ℕ) → bytes_eq line end_line ≡ false → line ≢ end_line
apart line unequal same =
    let equal : bytes_eq line end_line ≡ true = (bytes_eq-Decides line end_line).1 same in
    absurd (cc (equal, unequal))

pub returns-then-eq-clause-kept : goal.returns-then-eq-clause-kept
returns-then-eq-clause-kept g c is_kept = ended ((bytes_eq-Decides c.args.line.now end_line).0 (sym c.eq.ensures ∙ c.if-eq.true))

pub returns-in_default-clause-lost : goal.returns-in_default-clause-lost
returns-in_default-clause-lost g c is_lost = stopped (apart c.args.line.now (sym c.eq.ensures ∙ c.if-eq.false))

pub returns-in_default-request-clause-lost : goal.returns-in_default-request-clause-lost
returns-in_default-request-clause-lost g c is_lost = stopped (apart c.args.line.now (sym c.eq.ensures ∙ c.if-eq.false))

pub returns-then-eq-2-clause-kept : goal.returns-then-eq-2-clause-kept
returns-then-eq-2-clause-kept g c is_kept =
    let number = c.in-Some.ensures.1 in
    let answer = take c.exchange-length.result c.exchange-length.new.answer in
    let request : c.as_slice.result.now ≡ request_text c.args.is_change c.in-Some.number c.args.line.now = c.as_slice.ensures.value ∙ c.in-Ok.ensures in
    let told : answer ≡ kept_text c.in-Some.number = (bytes_eq-Decides answer c.as_slice-2.result.now).0 (sym c.eq-2.ensures ∙ c.if-eq-2.true) ∙ c.as_slice-2.ensures.value ∙ c.kept_line.ensures.line in
    rw (← c.self.view_is, c.exchange-length.ensures.told, request, told, number) (answered (apart c.args.line.now (sym c.eq.ensures ∙ c.if-eq.false)))

pub returns-clause-lost : goal.returns-clause-lost
returns-clause-lost g c is_lost =
    let number = c.in-Some.ensures.1 in
    let answer = take c.exchange-length.result c.exchange-length.new.answer in
    let request : c.as_slice.result.now ≡ request_text c.args.is_change (c.self.inside.count + 1) c.args.line.now =
    c.as_slice.ensures.value ∙ c.in-Ok.ensures ∙ ap (λ (n : ℕ). request_text c.args.is_change n c.args.line.now) number in
    let other : answer ≢ kept_text (c.self.inside.count + 1) = λ same.
    let equal : answer ≡ c.as_slice-2.result.now = same ∙ ap kept_text (sym number) ∙ sym (c.as_slice-2.ensures.value ∙ c.kept_line.ensures.line) in
    let found = (bytes_eq-Decides answer c.as_slice-2.result.now).1 equal in
    absurd (cc (found, sym c.eq-2.ensures ∙ c.if-eq-2.false)) in
    rw (← c.self.view_is, c.exchange-length.ensures.told, request) (refused (apart c.args.line.now (sym c.eq.ensures ∙ c.if-eq.false)) other)
