-- How the ends of a run of `script` come from those of its parts.
use Rattle.std.proofs.Common.{◌≡◌, ◌≢◌, ◌<◌, ◌+◌, ◌⊎◌, inl, inr, ℕ, List, [], ◌++◌, Option, Some, None, IsTrue, refl, sym, ap, subst, ◌∙◌, append_assoc}
use Rattle.std.specs.Prelude.{Result, IfOk, map}
use Rattle.std.specs.declared.alloc.AllocError.{AllocError}
use Rattle.input_flaws.specs.PolicyFlaws.{IsFrontFlaw}
use Rattle.input_flaws.proofs.ForCallers.{each_flaw}
use Rattle.std.specs.Io.KnownBytes.{IsAtEnd}
use Rattle.std.specs.List.{All}
use Rattle.std.proofs.lemmas.List.{append-nil}
use Rattle.std.proofs.lemmas.List.Elements.{All-cons, All-nil}
use Rattle.nx_io.specs.Streams.{gained, prepended}
use Rattle.nx_io.proofs.ForCallers.{gained-by}
use Rattle.policy_history.specs.declared.heads.Head.{Head}
use Rattle.policy_history.specs.Events.{EntryTree}
use Rattle.policy_history.specs.Values.{History, entry_trees, greatest_of}
use Rattle.authority_ask.specs.PanelCalls.{HasOnlyAsked, PanelHistory, asked, asked_since}
use Rattle.session_wire.specs.declared.replies.Reply.{Reply}
use Rattle.session_core.proofs.ForCallers.{alone_is_true}
use Rattle.session_core.specs.Sessions.{Point, Told1, at_start}
use Rattle.policy_script.specs.ScriptText.{script_text}
use Rattle.session_core.specs.declared.lines.Asking.{Asking}
use Rattle.session_core.specs.Reaching.{reached_at}
use Rattle.policy_script.specs.ScriptForm.{AreAskings, none, next, IsScript, ScriptTree, most_session}
use Rattle.policy_script.specs.declared.input.ScriptError.{ScriptError}
use Rattle.policy_script.specs.declared.input.ScriptError.TheVariants.{Wrong, Memory}
use Rattle.policy_script.specs.Inner.Reading.{IsWrongInput}
use Rattle.run_streams.specs.Runs.{SinkRun, SourceRun}
use Rattle.run_streams.specs.Flaws.{flaw_tree}
use Rattle.run_streams.specs.declared.flaws.Flaw.{Flaw}
use Rattle.run_streams.specs.Refusals.{RefusesExactly}
use Rattle.run_streams.specs.Ends.{IsAnswerOf, cut_off, whole}
use Rattle.run_streams.proofs.ForCallers.{answer_complete, answer_refuses, apart, not_refused, read_whole, unanswered_refuses}
use Rattle.script_command.specs.Scripts.{EndsScript, answered, unanswered, unreached, no_memory, HasAsked, HasMore, IsAnswered, IsCompleteScript, IsScriptOf, PanelRun, RunsScript, panel_run, script_command, script_form}
use Rattle.script_command.specs.Inner.ScriptEnds.{script_of, AreAnswered, EndsReached, replied, replied_in_part, not_replied, EndsReplies, reached_and_replied, reached_and_replied_in_part, not_reached, reached_and_not_replied, EndsAnswers, answered as was_answered, cut_off as was_cut_off, unreached as was_unreached, no_memory as had_no_memory}

-- what was answered is the answer to the input
script_answer : {source : SourceRun} {panel : PanelRun} {journal : Option History} {text : List ℕ} (script : ScriptTree) → IsScriptOf source script → IsAnswered script panel journal text
    → IsAnswerOf (script_command panel journal) source text
script_answer script of_source a = record { small = of_source.form.0; formed = (script, of_source.form); told = (script, of_source.form, a); whole = of_source.whole }

-- an input in its form that was read whole ends as its answers do
pub answers_end : (source : SourceRun) (sink : SinkRun) (panel : PanelRun) (journal : Option History) (status : ℕ) (script : ScriptTree) → IsScriptOf source script
    → source.faults_now ≡ source.faults → EndsAnswers script sink panel journal status → EndsScript source sink panel journal status
answers_end source sink panel journal status script of_source still (was_answered e a f) = answered (whole sink.sent e (script_answer script of_source a) refl still f)
answers_end source sink panel journal status script of_source still (was_cut_off text e a p f) = answered (cut_off text e (script_answer script of_source a) p still f)
answers_end source sink panel journal status script of_source still (was_unreached e u j s f) = unreached script e of_source u j s still f
answers_end source sink panel journal status script of_source still (had_no_memory said e a for j s f) = no_memory script said e of_source a for j s still f

-- what was answered, and its text
pub are_answered : (journal last : History) (askings : List Asking) (first : ℕ) (before now : PanelHistory) (replies : List Reply) (text : List ℕ)
    → ((point : Point) × Told1 journal.head first (at_start (entry_trees journal.entries)) askings replies (asked_since before now) point × (point.entries ≡ entry_trees last.entries))
    → first ≡ greatest_of (entry_trees journal.entries) + 1 → last.head ≡ journal.head → text ≡ script_text replies last.head (entry_trees last.entries)
    → HasOnlyAsked before now → AreAnswered (script_of journal askings) last (panel_run before now) text
are_answered journal last askings first before now replies text told number head text_is only = record {
  replies = replies;
  point = told.0;
  told = subst (λ n. Told1 journal.head n (at_start (entry_trees journal.entries)) askings replies (asked_since before now) told.0) number told.1;
  head = head;
  entries = told.2;
  text_is = text_is ∙ ap (λ (h : Head). script_text replies h (entry_trees last.entries)) head ∙ ap (λ (es : List EntryTree). script_text replies journal.head es) (sym told.2);
  only_asked = only;
}

-- the text of an answered script, as the sink tells it
pub text_sent : (script : ScriptTree) (last : History) (panel : PanelRun) (before now text : List ℕ) → now ≡ before ++ text → AreAnswered script last panel text
    → AreAnswered script last panel (gained before now)
text_sent script last panel before now text sent a = subst (λ (bytes : List ℕ). AreAnswered script last panel bytes) (sym (gained-by before now text sent)) a

-- nothing but asks was made of a panel of which each authority was reached
has_asked : (script : ScriptTree) (before mid now : PanelHistory) → mid ≡ record before { calls = before.calls ++ map reached_at script.head.authorities } → HasOnlyAsked mid now
    → HasAsked script (asked_since mid now) (panel_run before now)
has_asked script before mid now all only =
    let said = asked_since mid now in
    only ∙ ap (λ (m : PanelHistory). record m { calls = m.calls ++ map asked said }) all
    ∙ ap (λ calls. record before { calls = calls }) (append_assoc before.calls (map reached_at script.head.authorities) (map asked said))

-- what the authorities were reached for
with_reached : (script : ScriptTree) (last : History) (before mid now : PanelHistory) (text : List ℕ) → mid ≡ record before { calls = before.calls ++ map reached_at script.head.authorities }
    → AreAnswered script last (panel_run mid now) text → IsAnswered script (panel_run before now) (Some last) text
with_reached script last before mid now text all a = record {
  said = asked_since mid now;
  calls = has_asked script before mid now all a.only_asked;
  replies = a.replies;
  last = a.point;
  told = a.told;
  truth = alone_is_true script.head (greatest_of script.entries + 1) script.entries script.askings a.replies (asked_since mid now) a.point a.told;
  handed = (a.head, sym a.entries);
  text_is = a.text_is;
}

pub reached_end : (script : ScriptTree) (last : History) (sink : SinkRun) (before mid now : PanelHistory) (status : ℕ)
    → mid ≡ record before { calls = before.calls ++ map reached_at script.head.authorities } → EndsReached script last sink (panel_run mid now) status
    → EndsReplies script last sink (panel_run before now) status
reached_end script last sink before mid now status all (replied e a f) = reached_and_replied e (with_reached script last before mid now sink.sent all a) f
reached_end script last sink before mid now status all (replied_in_part text e a p f) = reached_and_replied_in_part text e (with_reached script last before mid now text all a) p f
reached_end script last sink before mid now status all (not_replied e only for s f) = reached_and_not_replied (asked_since mid now) e (has_asked script before mid now all only) for s f

-- the journal is handed back where the replies were to be written
pub handed_end : (script : ScriptTree) (last : History) (sink : SinkRun) (panel : PanelRun) (journal : Option History) (status : ℕ)
    → ((status ≡ 0) ⊎ (status ≡ 5) → journal ≡ Some last) → (status ≡ 8 → journal ≡ None) → (status ≡ 6 → journal ≡ None) → EndsReplies script last sink panel status → EndsAnswers script sink panel journal status
handed_end script last sink panel journal status some no_journal lost (reached_and_replied e a f) =
    was_answered e (subst (λ (j : Option History). IsAnswered script panel j sink.sent) (sym (some (inl e))) a) f
handed_end script last sink panel journal status some no_journal lost (reached_and_replied_in_part text e a p f) =
    was_cut_off text e (subst (λ (j : Option History). IsAnswered script panel j text) (sym (some (inr e))) a) p f
handed_end script last sink panel journal status some no_journal lost (not_reached e u s f) = was_unreached e u (no_journal e) s f
handed_end script last sink panel journal status some no_journal lost (reached_and_not_replied said e a for s f) = had_no_memory said e a for (lost e) s f

-- each request's session has a place among the 64
pub places : {text : List ℕ} {askings : List Asking} → AreAskings text askings → All (λ (a : Asking). a.place < 64) askings
places none = All-nil (λ (a : Asking). a.place < 64)
places (next {asking = asking} {askings = askings} some line behind) = All-cons (λ (a : Asking). a.place < 64) asking askings line.place (places behind)

-- an input in its form, as the source gave it
pub script_given : (source : SourceRun) (left_now : Option (List ℕ)) (script : ScriptTree) (bytes : List ℕ) → source.known ≡ prepended source.given left_now → source.given ≡ bytes
    → IsTrue source.over → IsAtEnd left_now → IsScript bytes script → IsScriptOf source script
script_given source left_now script bytes taken same over end form =
    record { form = subst (λ (b : List ℕ). IsScript b script) (sym same) form; whole = read_whole source left_now taken over end }

-- a text in which a line is wrong, and what was told of it
pub wrong_told : (text : List ℕ) (error : ScriptError) (k : ℕ) (told : Result Flaw AllocError) → error ≡ Wrong k → IsWrongInput text error
    → IfOk told (λ flaw. IsFrontFlaw most_session text text k (flaw_tree flaw)) → IfOk told (λ flaw. script_form.wrong text k (flaw_tree flaw))
wrong_told text error k told e w is = each_flaw told (λ flaw at. (subst (IsWrongInput text) e w, at)) is

pub not_formed : (text : List ℕ) (error : ScriptError) (k : ℕ) → error ≡ Wrong k → (error ≢ Memory → (script : ScriptTree) → ¬ IsScript text script) → ¬ script_form.formed text
not_formed text error k e no_form = λ has. no_form (λ m. cc (sym e ∙ m)) has.0 has.1

-- where requests were to be answered, nothing was refused
pub never_refused : {script : ScriptTree} {sink : SinkRun} {panel : PanelRun} {journal : Option History} {status : ℕ} → EndsAnswers script sink panel journal status → status ≢ 3
never_refused {status = status} (was_answered e a f) three = apart status 0 3 e three refl
never_refused {status = status} (was_cut_off text e a p f) three = apart status 5 3 e three refl
never_refused {status = status} (was_unreached e u j s f) three = apart status 8 3 e three refl
never_refused {status = status} (had_no_memory said e a for j s f) three = apart status 6 3 e three refl

complete : (source : SourceRun) (sink : SinkRun) (panel : PanelRun) (journal : Option History) (status : ℕ) → EndsScript source sink panel journal status
    → IsCompleteScript source sink panel journal status
complete source sink panel journal status (answered ends) = λ reached. answer_complete (script_command panel journal) source sink status (inl ends)
complete source sink panel journal status (unanswered ends i j) = λ reached. answer_complete (script_command panel journal) source sink status (inr ends)
complete source sink panel journal status (unreached script e s u j n f g) = λ reached. absurd (reached (script, u))
complete source sink panel journal status (no_memory script said e s a for j n f g) = λ reached p q formed. inl e

refuses : (source : SourceRun) (sink : SinkRun) (panel : PanelRun) (journal : Option History) (status : ℕ) → EndsScript source sink panel journal status
    → RefusesExactly script_form source status
refuses source sink panel journal status (answered ends) =
    answer_refuses (script_command panel journal) source sink status (λ text is e three. apart status 0 3 e three refl) (inl ends)
refuses source sink panel journal status (unanswered ends i j) = unanswered_refuses script_form source sink status ends
refuses source sink panel journal status (unreached script e s u j n f g) = λ x y z.
    ((λ h. absurd (apart status 8 3 e h refl)), λ r. absurd (not_refused script_form source.given s.form.0 (script, s.form) r))
refuses source sink panel journal status (no_memory script said e s a for j n f g) = λ x y z. absurd (z e)

-- what ends a run of `script` is a run of `script`
pub runs_script : {source : SourceRun} {sink : SinkRun} {panel : PanelRun} {journal : Option History} {status : ℕ} → EndsScript source sink panel journal status
    → RunsScript source sink panel journal status
runs_script {source = source} {sink = sink} {panel = panel} {journal = journal} {status = status} e = record {
  ends = e;
  complete = complete source sink panel journal status e;
  refuses = refuses source sink panel journal status e;
}

-- ---- A panel forgets nothing

pub more_nothing : {before now : PanelHistory} → now ≡ before → HasMore before now
more_nothing {before = before} same = ([], same ∙ ap (λ calls. record before { calls = calls }) (sym (append-nil before.calls)))

pub has_more : {source : SourceRun} {sink : SinkRun} {panel : PanelRun} {journal : Option History} {status : ℕ} → EndsScript source sink panel journal status → HasMore panel.before panel.now
has_more (answered (whole text e is s f g)) = (_, is.told.2.calls)
has_more (answered (cut_off text e is cut f g)) = (_, is.told.2.calls)
has_more (unanswered ends i j) = more_nothing i
has_more (unreached script e s u j n f g) = (_, u.3)
has_more (no_memory script said e s a for j n f g) = (_, a)
