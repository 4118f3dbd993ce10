-- How the ends of a run of `serve` with a log come from those of its parts.
use Rattle.std.proofs.Common.{◌≡◌, ◌≢◌, inl, List, Option, refl, sym, ap, subst, ◌∙◌, arith}
use Rattle.nx_io.specs.Streams.{one_more}
use Rattle.nx_io.specs.Views.{DoorView, RecorderView, SinkView, sink_view}
use Rattle.policy_history.specs.declared.heads.Head.{Head}
use Rattle.policy_history.specs.Events.{EntryTree}
use Rattle.policy_history.specs.Values.{entry_trees}
use Rattle.authority_ask.specs.PanelCalls.{PanelHistory}
use Rattle.nexus_serve.specs.Hosting.{Hosts, Plan}
use Rattle.run_streams.specs.Refusals.{RefusesExactly}
use Rattle.run_streams.specs.Runs.{SourceRun}
use Rattle.run_streams.proofs.ForCallers.{apart, not_refused, unanswered_memory, unanswered_refuses}
use Rattle.service_commands.specs.Logged.{EndsLogged, IsCompleteLogged, LogAt, RunsLogged, hosted, unbegun, unreached}
use Rattle.service_commands.specs.Services.{EndedView, IsPolicyOf, hosted_of, most_session, policy_form, sink_between}
use Rattle.service_commands.proofs.ServiceEnds.{IsStillUnsent, complete_hosts, not_three, unsent_hosts, unsent_same}

module _ {P C : Type 0} (panel : P → PanelHistory) (plan : Plan) (source : SourceRun) (output output_now : SinkView) {J : Type 0} (at : LogAt J) (door : DoorView) (asked : P) (recorder : Option RecorderView) (ended : EndedView P C) where
  complete : EndsLogged panel plan source output output_now at door asked recorder ended → IsCompleteLogged panel plan source output output_now (sink_view at.sink at.log) door asked recorder ended
  complete (hosted log_then h opening written end policy still same was hosts) = λ p o q r s t form.
      let over : Hosts panel plan h opening (sink_view at.sink at.log) door asked recorder (hosted_of ended written end) =
      subst (λ sink. Hosts panel plan h opening sink door asked recorder (hosted_of ended written end)) was.view hosts in
      complete_hosts panel plan source (sink_view at.sink at.log) door asked recorder ended q r s t h opening written end policy over
  complete (unreached log_now h opening policy still same was idle log_is status) = λ p o q r s t form.
      let failed : at.sink.faults log_now ≡ one_more (at.sink.faults at.log) = ap (λ (sink : SinkView). sink.faults) was.view in
      absurd (q (sink_view at.sink log_now) log_is (omega (arith, failed)))
  complete (unbegun idle log_is grows kept ends) = λ p o q r s t form.
      let six = unanswered_memory (policy_form (most_session plan)) source (sink_between output output_now) ended.status ends p o form in
      inl (record { status = six; reports = idle.reports; output = log_is })

  refuses : EndsLogged panel plan source output output_now at door asked recorder ended → RefusesExactly (policy_form (most_session plan)) source ended.status
  refuses (hosted log_then h opening written end policy still same was hosts) = λ x y z.
      ((λ three. absurd (not_three panel plan source _ door asked recorder ended h opening written end hosts three)), λ r. absurd (not_refused (policy_form (most_session plan)) source.given policy.form.0 (h, entry_trees opening, policy.form) r))
  refuses (unreached log_now h opening policy still same was idle log_is status) = λ x y z.
      ((λ three. absurd (cc (sym three ∙ status))), λ r. absurd (not_refused (policy_form (most_session plan)) source.given policy.form.0 (h, opening, policy.form) r))
  refuses (unbegun idle log_is grows kept ends) = unanswered_refuses (policy_form (most_session plan)) source (sink_between output output_now) ended.status ends

  -- a policy that was read is not refused
  pub read_not_refused : (h : Head) (es : List EntryTree) → IsPolicyOf source (most_session plan) h es → EndsLogged panel plan source output output_now at door asked recorder ended → ended.status ≢ 3
  read_not_refused h es policy e three =
      let exactly = refuses e (λ four. apart ended.status 3 4 three four refl) (λ five. apart ended.status 3 5 three five refl) (λ six. apart ended.status 3 6 three six refl) in
      not_refused (policy_form (most_session plan)) source.given policy.form.0 (h, es, policy.form) (exactly.0 three)

  -- what ends a run of `serve` with a log is a run of it
  pub runs_logged : EndsLogged panel plan source output output_now at door asked recorder ended → RunsLogged panel plan source output output_now at door asked recorder ended
  runs_logged e = record { ends = e; complete = complete e; refuses = refuses e }

  -- a recorder is handed back, and was sent no more itself
  pub logged_unsent : EndsLogged panel plan source output output_now at door asked recorder ended → IsStillUnsent recorder ended.recorder
  logged_unsent (unreached log_now h opening policy still same was idle log_is status) = unsent_same recorder ended.recorder idle.recorder_is
  logged_unsent (hosted log_then h opening written end policy still same was hosts) = unsent_hosts panel plan source _ door asked recorder ended h opening written end hosts
  logged_unsent (unbegun idle log_is grows kept ends) = unsent_same recorder ended.recorder idle.recorder_is
