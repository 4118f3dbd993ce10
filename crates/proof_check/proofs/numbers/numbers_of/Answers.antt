use Rattle.std.proofs.Common.{Err, ◌≡◌, ◌+◌, ◌++◌, ◌∷◌, [], append-nil, true, false, subst, sym}
use Rattle.nal_term.specs.declared.lists.ListError.{ListError}
use Rattle.proof_lines.specs.Lines.{line_tree}
use Rattle.proof_check.specs.Inner.Kinds.{is_of_kind}
use Rattle.proof_check.specs.LineLists.{IsLineList}
use Rattle.proof_check.proofs.Counted.{numbers_more, more_line_list}
use Rattle.proof_check.proofs.numbers.numbers_of.Goals as goal
use Rattle.proof_check.proofs.numbers.numbers_of.Goals.{then-is_of_kind+in-Ok, else-is_of_kind}

pub unreachable-requires : goal.unreachable-requires
unreachable-requires c =
    let lines = c.as_slice-lines.result.now in
    let l = c.index-lines-index.result in
    let p : is_of_kind c.args.kind (line_tree l) ≡ true = cc (c.is_of_kind.ensures, c.if-is_of_kind.true) in
    let fits = more_line_list (is_of_kind c.args.kind) lines c.loop-index.index l c.loop-index-test.true c.as_slice-lines.ensures.bound c.index-lines-index.is p in
    let room = subst (λ xs. IsLineList (xs ++ (c.loop-index.index + 1) ∷ [])) (sym c.loop-index.invariant) fits in
    refused c.in-Err.field-0 c.in-Err.is room
  where
    refused : (e : ListError) → c.push.result ≡ Err e → IsLineList (c.loop-index.list ++ (c.loop-index.index + 1) ∷ []) → ⊥
    refused ListError.Memory is room = c.push.ensures.memory is
    refused ListError.Bound is room = c.push.ensures.bound.0 is room

pub loop-index-preserved : goal.loop-index-preserved
loop-index-preserved c =
    let lines = c.as_slice-lines.result.now in
    let l = c.index-lines-index.result in
    let m = numbers_more (is_of_kind c.args.kind) lines c.loop-index.index l c.loop-index-test.true c.index-lines-index.is in
    elim c.if-is_of_kind.branch [
      | then-is_of_kind+in-Ok w ↦ let p : is_of_kind c.args.kind (line_tree l) ≡ true = cc (c.is_of_kind.ensures, w.if-is_of_kind.true) in
          let q = rw p at m in
          cc (w.list-is, w.in-Ok.ensures.ok, c.loop-index.invariant, q)
      | else-is_of_kind w ↦ let p : is_of_kind c.args.kind (line_tree l) ≡ false = cc (c.is_of_kind.ensures, w.if-is_of_kind.false) in
          let q = rw (p, append-nil) at m in
          cc (w.list-is, c.loop-index.invariant, q)
    ]
