-- What is known of a request whose frame is written.
use Rattle.session_wire.specs.declared.requests.Request.{Request}
use Rattle.session_wire.specs.declared.requests.Request.TheVariants.{Say, SetGoal, SetProof, Bind, Unbind}
use Rattle.session_wire.specs.Frames.{IsShort}

-- the length of each text fits two bytes
abbrev pub HasShortTexts : Request → Type 0
HasShortTexts (Say principal formula) = IsShort principal × IsShort formula
HasShortTexts (SetGoal op object formula) = IsShort formula
HasShortTexts (SetProof op object proof) = IsShort proof
HasShortTexts (Bind principal port) = IsShort principal
HasShortTexts (Unbind principal) = IsShort principal
HasShortTexts _ = Unit {0}
