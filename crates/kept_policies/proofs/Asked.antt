-- The event that a request asks for is kept, where the request's names and numbers are such.
use Rattle.std.proofs.Common.{Some, None, sym, subst}
use Rattle.nal_term.specs.Names.{IsName}
use Rattle.policy_history.specs.Events.{EventTree}
use Rattle.policy_history.specs.Events as event
use Rattle.session_wire.specs.declared.requests.Request.{Request}
use Rattle.session_wire.specs.declared.requests.Request.TheVariants.{Hello, Say, Transfer, Delete, NewObject, SetGoal, ClearGoal, SetProof, ClearProof, Bind, Unbind, Call, See}
use Rattle.session_wire.specs.Frames.{HasFittingParts}
use Rattle.journal_text.specs.PolicyLaws.{IsKeptEvent}
use Rattle.journal_text.specs.RequestEvents.{IsEventOf}
use Rattle.journal_text.specs.RequestLines.{IsNumber64, IsWritable}
use Rattle.kept_policies.specs.Kept.{AskedEvents}
use Rattle.kept_policies.proofs.Spelled.{spelled_formulas, spelled_terms}
use Rattle.kept_policies.proofs.SpelledProofs.{spelled_proofs}

-- the names and numbers that a request hands to its event
abbrev IsNamed : Request → Type 0
IsNamed (Transfer number to) = IsNumber64 number × IsName to
IsNamed (Delete number) = IsNumber64 number
IsNamed (NewObject name) = IsName name
IsNamed (SetGoal op object formula) = IsName op × IsName object
IsNamed (ClearGoal op object) = IsName op × IsName object
IsNamed (SetProof op object proof) = IsName op × IsName object
IsNamed (ClearProof op object) = IsName op × IsName object
IsNamed (Bind principal port) = IsNumber64 port
IsNamed _ = Unit {0}

-- they are such in a request of a frame, and in one of a line
fitting_named : (request : Request) → HasFittingParts request → IsNamed request
fitting_named (Hello name secret) fits = tt
fitting_named (Say principal formula) fits = tt
fitting_named (Transfer number to) fits = fits
fitting_named (Delete number) fits = fits
fitting_named (NewObject name) fits = fits
fitting_named (SetGoal op object formula) fits = (fits.0, fits.1)
fitting_named (ClearGoal op object) fits = fits
fitting_named (SetProof op object proof) fits = (fits.0, fits.1)
fitting_named (ClearProof op object) fits = fits
fitting_named (Bind principal port) fits = fits.1
fitting_named (Unbind principal) fits = tt
fitting_named (Call op object arg) fits = tt
fitting_named (See number) fits = tt

writable_named : (request : Request) → IsWritable request → IsNamed request
writable_named (Hello name secret) fits = tt
writable_named (Say principal formula) fits = tt
writable_named (Transfer number to) fits = fits
writable_named (Delete number) fits = fits
writable_named (NewObject name) fits = fits
writable_named (SetGoal op object formula) fits = fits
writable_named (ClearGoal op object) fits = fits
writable_named (SetProof op object proof) fits = fits
writable_named (ClearProof op object) fits = fits
writable_named (Bind principal port) fits = fits.1
writable_named (Unbind principal) fits = tt
writable_named (Call op object arg) fits = tt
writable_named (See number) fits = tt

named_kept : (request : Request) (e : EventTree) → IsNamed request → IsEventOf request e → IsKeptEvent e
named_kept (Say principal formula) (event.say (Some t) (Some f)) named is = (spelled_terms principal t is.0, spelled_formulas formula f is.1)
named_kept (Say principal formula) (event.say (Some t) None) named is = tt
named_kept (Say principal formula) (event.say None f) named is = tt
named_kept (Transfer number to) e named is = subst IsKeptEvent (sym is) named
named_kept (Delete number) e named is = subst IsKeptEvent (sym is) named
named_kept (NewObject name) e named is = subst IsKeptEvent (sym is) named
named_kept (SetGoal op object formula) (event.set_goal op2 object2 (Some g)) named (same, also, is) =
    (subst IsName (sym same) named.0, subst IsName (sym also) named.1, spelled_formulas formula g is)
named_kept (SetGoal op object formula) (event.set_goal op2 object2 None) named is = tt
named_kept (ClearGoal op object) e named is = subst IsKeptEvent (sym is) named
named_kept (SetProof op object proof) (event.set_proof op2 object2 (Some ls)) named (same, also, is) =
    (subst IsName (sym same) named.0, subst IsName (sym also) named.1, spelled_proofs proof ls is)
named_kept (SetProof op object proof) (event.set_proof op2 object2 None) named is = tt
named_kept (ClearProof op object) e named is = subst IsKeptEvent (sym is) named
named_kept (Bind principal port) (event.bind (Some t) port2) named (is, same) = (spelled_terms principal t is, subst IsNumber64 (sym same) named)
named_kept (Bind principal port) (event.bind None port2) named is = tt
named_kept (Unbind principal) (event.unbind (Some t)) named is = spelled_terms principal t is
named_kept (Unbind principal) (event.unbind None) named is = tt
named_kept (Say principal formula) _ named is = absurd is
named_kept (SetGoal op object formula) _ named is = absurd is
named_kept (SetProof op object proof) _ named is = absurd is
named_kept (Bind principal port) _ named is = absurd is
named_kept (Unbind principal) _ named is = absurd is
named_kept (Hello name secret) e named is = absurd is
named_kept (Call op object arg) e named is = absurd is
named_kept (See number) e named is = absurd is

pub asked_events : AskedEvents
asked_events request e fits is = named_kept request e (fitting_named request fits) is

pub written_events : (request : Request) (e : EventTree) → IsWritable request → IsEventOf request e → IsKeptEvent e
written_events request e fits is = named_kept request e (writable_named request fits) is
