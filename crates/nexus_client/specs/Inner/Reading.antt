-- What the readers of the inputs of a talk answer.
use Rattle.std.specs.Prelude.{ℕ, List}
use Rattle.nexus_client.specs.declared.inputs.TalkInput.{TalkInput}
use Rattle.nexus_client.specs.declared.requests.RequestsError.{RequestsError}
use Rattle.nexus_client.specs.declared.requests.RequestsError.TheVariants.{Wrong, Memory}
use Rattle.nexus_client.specs.Imports.{IsWrongImportLine}
use Rattle.nexus_client.specs.LineFrames.{IsWrongLine}
use Rattle.nexus_client.specs.TalkInputs.{IsWrongLineOf}

-- the line that is told is the lowest that is wrong
abbrev pub IsWrongInput : List ℕ → RequestsError → Type 0
IsWrongInput text (Wrong k) = IsWrongLine text k
IsWrongInput text Memory = Unit {0}

abbrev pub IsWrongImport : List ℕ → RequestsError → Type 0
IsWrongImport text (Wrong k) = IsWrongImportLine text k
IsWrongImport text Memory = Unit {0}

abbrev pub IsWrongInputOf : TalkInput → List ℕ → RequestsError → Type 0
IsWrongInputOf input text (Wrong k) = IsWrongLineOf input text k
IsWrongInputOf input text Memory = Unit {0}
