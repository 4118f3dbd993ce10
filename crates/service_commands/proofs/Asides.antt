-- A sink for records is the recorder of a service, or kept aside, and is handed back.
use Rattle.std.specs.Option.{option_or}
use Rattle.std.specs.Prelude.{option_map}
use Rattle.std.proofs.Common.{◌≡◌, ℕ, Bool, true, false, not, List, Option, None, Some, refl, sym, ap, subst, ◌∙◌}
use Rattle.nx_io.specs.Views.{RecorderView}
use Rattle.service_commands.specs.Services.{EndedView, HandsBack, only_where}
use Rattle.service_commands.proofs.ServiceEnds.{IsStillUnsent}

-- nothing is handed back of a recorder where there was none
none_back : {R : Type 0} (view : R → RecorderView) (back : Option R) → option_map view back ≡ None → back ≡ None
none_back view None is = refl
none_back view (Some r) is = absurd (cc is)

some_back : {R : Type 0} (view : R → RecorderView) (sent : List ℕ) (back : Option R) → HandsBack (option_map view back) (λ (r : RecorderView). r.sent ≡ sent) → HandsBack back (λ (r : R). (view r).sent ≡ sent)
some_back view sent None is = is
some_back view sent (Some r) is = is

first_alone : {A : Type 0} (it : Option A) → option_or it None ≡ it
first_alone None = refl
first_alone (Some one) = refl

-- what is handed back of a sink, of which that came back from a service
abbrev pub sink_of : {R : Type 0} → Bool → R → Option R → Option R
sink_of recording given back = option_or back (only_where (not recording) (Some given))

module _ {R : Type 0} (view : R → RecorderView) (given : R) (back : Option R) where
  -- where it was the recorder it was sent no more itself
  sink_unsent : (recording : Bool) → IsStillUnsent (option_map view (only_where recording (Some given))) (option_map view back)
      → HandsBack (sink_of recording given back) (λ (r : R). (view r).sent ≡ (view given).sent)
  sink_unsent true is = rw (first_alone back) (some_back view (view given).sent back is)
  sink_unsent false is = rw (none_back view back is) refl

  -- and it is as it was where it was kept aside
  sink_same : (recording : Bool) → IsStillUnsent (option_map view (only_where recording (Some given))) (option_map view back) → recording ≡ false
      → HandsBack (sink_of recording given back) (λ (r : R). r ≡ given)
  sink_same true is e = absurd (cc e)
  sink_same false is e = rw (none_back view back is) refl

  -- so what a service tells of its recorder is told of it
  told_back : (recording : Bool) → IsStillUnsent (option_map view (only_where recording (Some given))) (option_map view back)
      → option_map view back ≡ only_where recording (option_map view (sink_of recording given back))
  told_back true is = ap (option_map view) (sym (first_alone back))
  told_back false is = is

  told_in : (recording : Bool) → option_map view (only_where recording (Some given)) ≡ only_where recording (Some (view given))
  told_in true = refl
  told_in false = refl

module _ {P C R : Type 0} (view : R → RecorderView) (recording : Bool) (given : R) (back : Option R) (ended : EndedView P C) (recorder_is : ended.recorder ≡ option_map view back)
    (still : IsStillUnsent (option_map view (only_where recording (Some given))) ended.recorder) where
  unsent : IsStillUnsent (option_map view (only_where recording (Some given))) (option_map view back)
  unsent = subst (IsStillUnsent (option_map view (only_where recording (Some given)))) recorder_is still

  pub sink_back : HandsBack (sink_of recording given back) (λ (r : R). (view r).sent ≡ (view given).sent)
  sink_back = sink_unsent view given back recording unsent

  pub aside_back : recording ≡ false → HandsBack (sink_of recording given back) (λ (r : R). r ≡ given)
  aside_back = sink_same view given back recording unsent

  -- what holds of a run over the recorder holds of it over the sink, where this is the recorder
  pub beside : (Holds : Option RecorderView → EndedView P C → Type 0) → Holds (option_map view (only_where recording (Some given))) ended
      → Holds (only_where recording (Some (view given))) (record ended { recorder = only_where recording (option_map view (sink_of recording given back)) })
  beside Holds holds =
      let told = recorder_is ∙ told_back view given back recording unsent in
      let same : ended ≡ record ended { recorder = only_where recording (option_map view (sink_of recording given back)) } = ap (λ (r : Option RecorderView). record ended { recorder = r }) told in
      subst (λ (e : EndedView P C). Holds (only_where recording (Some (view given))) e) same
      (subst (λ (r : Option RecorderView). Holds r ended) (told_in view given back recording) holds)
