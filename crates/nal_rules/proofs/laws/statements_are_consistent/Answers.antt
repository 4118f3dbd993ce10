use Rattle.std.proofs.Common.{refl}
use Rattle.nal_term.specs.Trees.{falsum, atom}
use Rattle.nal_rules.proofs.Consistent.{not_derived, sound}
use Rattle.nal_rules.proofs.laws.statements_are_consistent.Goals as goal

pub returns-clause-sound : goal.returns-clause-sound
returns-clause-sound c = λ labels answers f l a d. sound labels answers l a _ f d tt

pub returns-clause-no_falsehood : goal.returns-clause-no_falsehood
returns-clause-no_falsehood c = λ labels answers l a d. not_derived labels answers falsum refl l a d

pub returns-clause-no_atom : goal.returns-clause-no_atom
returns-clause-no_atom c = λ labels answers p ts l a d. not_derived labels answers (atom p ts) refl l a d
