use Rattle.std.proofs.Common.{◌∙◌, sym, ap, None}
use Rattle.std.specs.Option.{option_and_then, is_some}
use Rattle.proof_store.specs.Cases.{proof_of}
use Rattle.proof_store.proofs.HeldCases.{number_of_key, number_of_unknown, rows_in, held-set_value_at, clear_had, clear_rows}
use Rattle.proof_store.proofs.cases.ProofStore.clear.Goals as goal

pub returns-in-None-clause-had : goal.returns-in-None-clause-had
returns-in-None-clause-had c =
    let held = c.self.invariant in
    let rows = rows_in c.self.inside.ops.keys c.self.inside.cases.entries in
    let none = sym c.get_index_of.ensures.index ∙ c.in-None.is in
    let number = number_of_unknown c.self.inside.ops.keys held.distinct c.self.inside.cases.entries held.places c.args.subject c.args.op.now c.args.object none in
    rw (← c.self.view_is) (ap (λ n. is_some (option_and_then (proof_of rows) n)) (sym number))

pub returns-in-None-get_index_of-clause-had : goal.returns-in-None-get_index_of-clause-had
returns-in-None-get_index_of-clause-had c =
    let held = c.self.invariant in
    let rows = rows_in c.self.inside.ops.keys c.self.inside.cases.entries in
    let at = sym c.get_index_of.ensures.index ∙ c.in-Some.is in
    let number = number_of_key c.self.inside.ops.keys held.distinct c.self.inside.cases.entries held.places c.args.subject c.args.op.now c.args.object c.in-Some.place at in
    rw (← c.self.view_is) (ap (λ n. is_some (option_and_then (proof_of rows) n)) (sym (number ∙ sym c.get_index_of-2.ensures.index ∙ c.in-None-get_index_of.is)))

pub returns-then-is_none-clause-had : goal.returns-then-is_none-clause-had
returns-then-is_none-clause-had c =
    let held = c.self.invariant in
    let at = sym c.get_index_of.ensures.index ∙ c.in-Some.is in
    let at_key = sym c.get_index_of-2.ensures.index ∙ c.in-Some-get_index_of.is in
    let had = clear_had c.self.inside.ops.keys held.distinct c.self.inside.cases.entries held.places c.args.subject c.args.op.now c.args.object c.in-Some.place c.in-Some-get_index_of.number at at_key c.index.result.now c.index.ensures in
    rw (← c.self.view_is) (sym (had ∙ c.if-is_none.ensures))

pub invariant_of-self : goal.invariant_of-self
invariant_of-self c = held-set_value_at c.self.inside.ops.keys c.self.inside.cases.entries c.in-Some-get_index_of.number None c.self.invariant

pub returns-clause-had : goal.returns-clause-had
returns-clause-had c =
    let held = c.self.invariant in
    let at = sym c.get_index_of.ensures.index ∙ c.in-Some.is in
    let at_key = sym c.get_index_of-2.ensures.index ∙ c.in-Some-get_index_of.is in
    let had = clear_had c.self.inside.ops.keys held.distinct c.self.inside.cases.entries held.places c.args.subject c.args.op.now c.args.object c.in-Some.place c.in-Some-get_index_of.number at at_key c.index.result.now c.index.ensures in
    rw (← c.self.view_is) (sym (had ∙ c.if-is_none.ensures))

pub returns-clause-cleared : goal.returns-clause-cleared
returns-clause-cleared c =
    let held = c.self.invariant in
    let at = sym c.get_index_of.ensures.index ∙ c.in-Some.is in
    let at_key = sym c.get_index_of-2.ensures.index ∙ c.in-Some-get_index_of.is in
    rw (← c.self.view_is)
    (λ yes. clear_rows c.self.inside.ops.keys held.distinct c.self.inside.cases.entries held.places c.args.subject c.args.op.now c.args.object c.in-Some.place c.in-Some-get_index_of.number at at_key)
