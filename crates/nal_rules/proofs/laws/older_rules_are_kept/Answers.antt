use Rattle.nal_rules.proofs.OneNamed.{derived, older_applies}
use Rattle.nal_rules.proofs.laws.older_rules_are_kept.Goals as goal

pub returns-clause-derivable : goal.returns-clause-derivable
returns-clause-derivable c = λ labels answers f d. derived d

pub returns-clause-faultless : goal.returns-clause-faultless
returns-clause-faultless c =
    λ proof target h older k l e fault applies. older k l e fault (older_applies proof target k l h fault applies)
