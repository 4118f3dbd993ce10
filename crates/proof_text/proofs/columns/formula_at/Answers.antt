use Rattle.std.proofs.Common.{◌≡◌, ◌+◌, ◌-◌, ◌≤◌, length, arith}
use Rattle.proof_text.specs.ProofText.{HasHead}
use Rattle.proof_text.specs.Places.{column_of}
use Rattle.proof_text.specs.Inner.Reading.{NoForm, Reads, head_of}
use Rattle.proof_text.proofs.FormulaPlaces as places
use Rattle.proof_text.proofs.columns.formula_at.Goals as goal

pub returns-in_default-found-clause-found : goal.returns-in_default-found-clause-found
returns-in_default-found-clause-found c =
    let stands = c.in-Some.ensures in
    let missing : NoForm (HasHead c.in-Some.bytes.now) = rw c.in_default-found.is at c.in_ok-found.ensures in
    places.no_head c.args.text.now c.args.segment stands.0 c.in-Some.bytes.now stands.1 stands.2 stands.3 missing

pub overflow_sub-before : goal.overflow_sub-before
overflow_sub-before c =
    let reads : Reads (HasHead c.in-Some.bytes.now) (head_of c.in-Some-found.field-0-0) c.in-Some-found.formula.now = rw c.in-Some-found.is at c.in_ok-found.ensures in
    places.formula_shorter c.in-Some.bytes.now (head_of c.in-Some-found.field-0-0) c.in-Some-found.formula.now reads.form

pub returns-clause-found : goal.returns-clause-found
returns-clause-found c =
    let stands = c.in-Some.ensures in
    let reads : Reads (HasHead c.in-Some.bytes.now) (head_of c.in-Some-found.field-0-0) c.in-Some-found.formula.now = rw c.in-Some-found.is at c.in_ok-found.ensures in
    let shorter : length c.in-Some-found.formula.now ≤ length c.in-Some.bytes.now =
    places.formula_shorter c.in-Some.bytes.now (head_of c.in-Some-found.field-0-0) c.in-Some-found.formula.now reads.form in
    let column : c.segment_column.result ≡ column_of c.args.segment c.args.text.now = c.segment_column.ensures.column in
    places.formula_stands c.args.text.now c.args.segment stands.0 c.in-Some.bytes.now stands.1 stands.2 stands.3 (head_of c.in-Some-found.field-0-0)
    c.in-Some-found.formula.now reads.form
    (c.segment_column.result + (length c.in-Some.bytes.now - length c.in-Some-found.formula.now)) (omega arith)
