use Rattle.std.proofs.Common.{length, arith}
use Rattle.std.proofs.lemmas.List.{length-map}
use Rattle.std.proofs.lemmas.Option.{slice_get_within}
use Rattle.nal_term.specs.Trees.{formula_tree, term_tree}
use Rattle.proof_lines.specs.Lines.{line_tree, line_trees}
use Rattle.chain_prover.specs.Chains.{part}
use Rattle.chain_prover.specs.Inner.Paths.{grant_step}
use Rattle.chain_prover.proofs.Along.{begun, granted, granted_within, parted, parted_whole, parted_within, arrived, smaller}
use Rattle.chain_prover.proofs.lines.proof_of.Goals as goal

pub loop-proof-init : goal.loop-proof-init
loop-proof-init c = λ labels b n path.
    rw (c.in_ok-add.ensures, c.in_ok-label.ensures, c.new-proof.ensures) (begun labels (formula_tree c.args.statement.now) b c.args.path.now.nodes.items c.args.path.now.first n path c.index.result.now c.index.ensures)

pub index-node-requires : goal.index-node-requires
index-node-requires c =
    let (labels, b, n, path, bound) = c.requires in
    let along = c.loop-proof.invariant labels b n path in
    omega (arith, slice_get_within c.args.path.now.nodes.items c.loop-proof.place along.node along.at)

pub returns-in-Goal : goal.returns-in-Goal
returns-in-Goal c = λ labels b n path.
    arrived labels (formula_tree c.args.statement.now) b c.args.path.now.nodes.items c.args.path.now.first n path c.loop-proof.place (line_trees c.loop-proof.proof)
    (c.loop-proof.invariant labels b n path) c.index-node.result.now c.index-node.ensures c.in-Goal.is

pub index-requires-in-Grant : goal.index-requires-in-Grant
index-requires-in-Grant c =
    let (labels, b, n, path, bound) = c.requires in
    let within = granted_within labels (formula_tree c.args.statement.now) b c.args.path.now.nodes.items c.args.path.now.first n path c.loop-proof.place (line_trees c.loop-proof.proof)
    (c.loop-proof.invariant labels b n path) c.index-node.result.now c.index-node.ensures c.in-Grant.scope c.in-Grant.next c.in-Grant.is in
    omega (arith, within.0)

pub add_grant-requires : goal.add_grant-requires
add_grant-requires c =
    let (labels, b, n, path, bound) = c.requires in
    let within = granted_within labels (formula_tree c.args.statement.now) b c.args.path.now.nodes.items c.args.path.now.first n path c.loop-proof.place (line_trees c.loop-proof.proof)
    (c.loop-proof.invariant labels b n path) c.index-node.result.now c.index-node.ensures c.in-Grant.scope c.in-Grant.next c.in-Grant.is in
    omega (arith, within.1, bound, length-map c.loop-proof.proof line_tree)

pub loop-proof-preserved-in-Grant : goal.loop-proof-preserved-in-Grant
loop-proof-preserved-in-Grant c = λ labels b n path.
    rw c.in_ok-add_grant-in-Grant.ensures (rw (length-map c.loop-proof.proof line_tree) at
    (granted labels (formula_tree c.args.statement.now) b c.args.path.now.nodes.items c.args.path.now.first n path c.loop-proof.place (line_trees c.loop-proof.proof)
    (c.loop-proof.invariant labels b n path) c.index-node.result.now c.index-node.ensures c.in-Grant.scope c.in-Grant.next c.index-in-Grant.result.now c.in-Grant.is c.index-in-Grant.ensures))

pub loop-proof-smaller-in-Grant : goal.loop-proof-smaller-in-Grant
loop-proof-smaller-in-Grant c =
    let (labels, b, n, path, bound) = c.requires in
    let f = formula_tree c.args.statement.now in
    let o = c.index-node.result.now in
    let within = granted_within labels f b c.args.path.now.nodes.items c.args.path.now.first n path c.loop-proof.place (line_trees c.loop-proof.proof)
    (c.loop-proof.invariant labels b n path) o c.index-node.ensures c.in-Grant.scope c.in-Grant.next c.in-Grant.is in
    smaller c.loop-proof.proof c.add_grant.new.proof f (length c.loop-proof.proof) (term_tree o.principal.now) (grant_step (term_tree c.index-in-Grant.result.now.principal.now) c.in-Grant.scope)
    c.in_ok-add_grant-in-Grant.ensures (omega (arith, within.1, bound, length-map c.loop-proof.proof line_tree))

pub index-requires-in-Part : goal.index-requires-in-Part
index-requires-in-Part c =
    let (labels, b, n, path, bound) = c.requires in
    let within = parted_within labels (formula_tree c.args.statement.now) b c.args.path.now.nodes.items c.args.path.now.first n path c.loop-proof.place (line_trees c.loop-proof.proof)
    (c.loop-proof.invariant labels b n path) c.index-node.result.now c.index-node.ensures c.in-Part.next c.in-Part.is in
    omega (arith, within.0)

pub add_part-requires : goal.add_part-requires
add_part-requires c =
    let (labels, b, n, path, bound) = c.requires in
    let within = parted_within labels (formula_tree c.args.statement.now) b c.args.path.now.nodes.items c.args.path.now.first n path c.loop-proof.place (line_trees c.loop-proof.proof)
    (c.loop-proof.invariant labels b n path) c.index-node.result.now c.index-node.ensures c.in-Part.next c.in-Part.is in
    omega (arith, within.1, bound, length-map c.loop-proof.proof line_tree)

pub loop-proof-preserved : goal.loop-proof-preserved
loop-proof-preserved c = λ labels b n path.
    parted labels (formula_tree c.args.statement.now) b c.args.path.now.nodes.items c.args.path.now.first n path c.loop-proof.place (line_trees c.loop-proof.proof)
    (c.loop-proof.invariant labels b n path) c.index-node.result.now c.index-node.ensures c.in-Part.next c.index-in-Part.result.now (line_trees c.add_part.new.proof) c.in-Part.is c.index-in-Part.ensures
    (λ p is. rw (length-map c.loop-proof.proof line_tree) (c.in_ok-add_part-in-Part.ensures p is))

pub loop-proof-smaller : goal.loop-proof-smaller
loop-proof-smaller c =
    let (labels, b, n, path, bound) = c.requires in
    let f = formula_tree c.args.statement.now in
    let nodes = c.args.path.now.nodes.items in
    let lines = line_trees c.loop-proof.proof in
    let along = c.loop-proof.invariant labels b n path in
    let o = c.index-node.result.now in
    let within = parted_within labels f b nodes c.args.path.now.first n path c.loop-proof.place lines along o c.index-node.ensures c.in-Part.next c.in-Part.is in
    let (p, whole) = parted_whole labels f b nodes c.args.path.now.first n path c.loop-proof.place lines along o c.index-node.ensures c.in-Part.next c.index-in-Part.result.now c.in-Part.is c.index-in-Part.ensures in
    smaller c.loop-proof.proof c.add_part.new.proof f (length c.loop-proof.proof) (term_tree o.principal.now) (part p)
    (c.in_ok-add_part-in-Part.ensures p whole) (omega (arith, within.1, bound, length-map c.loop-proof.proof line_tree))
