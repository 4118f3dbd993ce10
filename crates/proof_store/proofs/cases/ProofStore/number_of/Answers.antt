use Rattle.std.proofs.Common.{◌∙◌, sym}
use Rattle.proof_store.proofs.HeldCases.{number_of_key, number_of_unknown}
use Rattle.proof_store.proofs.cases.ProofStore.number_of.Goals as goal

pub returns-in-None-clause-number : goal.returns-in-None-clause-number
returns-in-None-clause-number c =
    let held = c.self.invariant in
    let none = sym c.get_index_of.ensures.index ∙ c.in-None.is in
    rw (← c.self.view_is) (sym (number_of_unknown c.self.inside.ops.keys held.distinct c.self.inside.cases.entries held.places c.args.subject c.args.op.now c.args.object none))

pub returns-in-Some-get_index_of-clause-number : goal.returns-in-Some-get_index_of-clause-number
returns-in-Some-get_index_of-clause-number c =
    let held = c.self.invariant in
    let at = sym c.get_index_of.ensures.index ∙ c.in-Some.is in
    let number = number_of_key c.self.inside.ops.keys held.distinct c.self.inside.cases.entries held.places c.args.subject c.args.op.now c.args.object c.in-Some.place at in
    rw (← c.self.view_is) (sym (number ∙ sym c.get_index_of-2.ensures.index ∙ c.in-Some-get_index_of.is))

pub returns-in-None-get_index_of-clause-number : goal.returns-in-None-get_index_of-clause-number
returns-in-None-get_index_of-clause-number c =
    let held = c.self.invariant in
    let at = sym c.get_index_of.ensures.index ∙ c.in-Some.is in
    let number = number_of_key c.self.inside.ops.keys held.distinct c.self.inside.cases.entries held.places c.args.subject c.args.op.now c.args.object c.in-Some.place at in
    rw (← c.self.view_is) (sym (number ∙ sym c.get_index_of-2.ensures.index ∙ c.in-None-get_index_of.is))
