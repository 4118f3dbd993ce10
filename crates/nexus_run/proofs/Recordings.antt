-- The sink for records behind a service.
use Rattle.std.proofs.Common.{◌≡◌, ℕ, Bool, true, false, List, refl, sym, subst}
use Rattle.nx_io.specs.Streams.{Grows}
use Rattle.nx_io.proofs.ForCallers.{grows-nothing}
use Rattle.service_commands.specs.Services.{IsService}
use Rattle.std.specs.declared.option.Option.{Option}
use Rattle.nexus_run.specs.Commands.{IsRecordedCall, serve_words}

-- what was sent no more has grown
pub grows_same : {before now : List ℕ} → now ≡ before → Grows before now
grows_same {before = before} same = subst (Grows before) (sym same) (grows-nothing before)

-- a service whose calls are not recorded
pub not_recorded : (recording : Bool) {words : List (List ℕ)} {address : List ℕ} {workers sessions : ℕ} {patience : Option ℕ} → IsService address workers sessions patience
    → words ≡ serve_words address workers sessions patience recording → (IsRecordedCall words → ⊥) → recording ≡ false
not_recorded true {address = a} {workers = w} {sessions = s} {patience = p} within are none = absurd (none (a, w, s, p, within, are))
not_recorded false within are none = refl
