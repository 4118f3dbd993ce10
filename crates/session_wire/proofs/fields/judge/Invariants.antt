use Rattle.std.proofs.Common.{◌≤◌, length, take}
use Rattle.session_wire.specs.Fields.{BeginsFields}
use Rattle.session_wire.proofs.fields.judge.Given as goal

abbrev pub invariant-loop-sort : goal.invariant-loop-sort
invariant-loop-sort l = record {
  fields : BeginsFields (take l.sort-index l.sorts) l.initial.rest l.rest;
  within : length l.rest ≤ length l.initial.rest;
}
