-- How a service is made ready, and how it ends where it is not.
use Rattle.std.proofs.Common.{◌≡◌, ◌<◌, ◌+◌, ◌++◌, ◌∷◌, [], ℕ, zero, suc, List, Option, Result, Ok, Err, length, replicate, inl, inr, refl, sym, subst, ap, ◌∙◌, append_assoc}
use Rattle.std.proofs.lemmas.Grind.{flat_map-append}
use Rattle.std.proofs.lemmas.List.{append-nil, length-map, replicate-append-replicate}
use Rattle.std.proofs.lemmas.List.Elements.{All-map, All-weaker}
use Rattle.std.specs.List.{flat_map}
use Rattle.std.specs.Prelude.{All, IsErrAnd, map}
use Rattle.nx_io.specs.DoorCalls.{DoorCall, DoorOrigin, Listening, listening_in, listened, no_room_to_share, not_shared, share_of, shared}
use Rattle.authority_ask.specs.PanelCalls.{PanelCall, PanelHistory, Placed, place_in, with_call}
use Rattle.authority_ask.specs.PanelCalls as panels
use Rattle.policy_history.specs.declared.events.Entry.{Entry}
use Rattle.policy_history.specs.declared.heads.Head.{Head}
use Rattle.session_core.specs.Reaching.{reached_at}
use Rattle.session_core.specs.Records.{unwanted}
use Rattle.nexus_serve.specs.declared.shares.Unready.{Unready}
use Rattle.nexus_serve.specs.declared.shares.Unready.TheVariants.{Panel, Records, Door, Memory}
use Rattle.nexus_serve.specs.declared.means.Means.{Means}
use Rattle.nx_io.specs.Views.{DoorView, LinkView, RecorderView, SinkView}
use Rattle.nexus_serve.specs.Hosting.{HasCalled, HasCalledPanel, HasLent, HaveShares, HostedView, Hosts, IsDoorShare, IsIdle, IsPanelShare, Plan, kept_of, listening_of, no_door, no_panel, no_recorder, not_heard, not_made, panel_calls, ready_calls, unheard, unlent, unreached, unready, unshared}
use Rattle.nexus_serve.specs.Inner.Sharing.{IsMade, IsShareOf, ReadiesDoor, SharesDoor, SharesPanel, SharesRecorder, unready_status}
use Rattle.nexus_serve.proofs.Recorders.{all_lent, none_lent}

-- ---- Shares of a door

-- one share more
pub shared_more : (calls now : List DoorCall) (n : ℕ) → now ≡ calls ++ replicate n shared → now ++ shared ∷ [] ≡ calls ++ replicate (n + 1) shared
shared_more calls now n e =
    ap (λ cs. cs ++ shared ∷ []) e ∙ append_assoc calls (replicate n shared) (shared ∷ [])
    ∙ ap (λ cs. calls ++ cs) (replicate-append-replicate n 1 shared)

-- by shares a door listens nowhere else
nowhere_else : (n : ℕ) → flat_map listening_in (replicate n shared) ≡ []
nowhere_else zero = refl
nowhere_else (suc n) = nowhere_else n

still_nowhere : (n : ℕ) (last : DoorCall) → listening_in last ≡ [] → flat_map listening_in (replicate n shared ++ last ∷ []) ≡ []
still_nowhere zero last none = ap (λ places. places ++ []) none
still_nowhere (suc n) last none = still_nowhere n last none

nowhere : {A : Type 0} (r : Result A Unready) (count made : ℕ) (more : List DoorCall) → SharesDoor r count made more → flat_map listening_in more ≡ []
nowhere (Ok a) count made more is = ap (flat_map listening_in) is.1 ∙ nowhere_else made
nowhere (Err Panel) count made more is = absurd is
nowhere (Err Records) count made more is = absurd is
nowhere (Err Door) count made more is = ap (flat_map listening_in) is.1 ∙ still_nowhere made not_shared refl
nowhere (Err Memory) count made more is = ap (flat_map listening_in) is.1 ∙ still_nowhere made no_room_to_share refl

-- what is a share of a door is one of the door behind calls by which it listens nowhere else
same_share : (o : DoorOrigin) (calls more : List DoorCall) → flat_map listening_in more ≡ [] → share_of o (calls ++ more) ≡ share_of o calls
same_share o calls more none =
    ap (λ places. record { depth = o.depth + 1; listened_at = o.listened_at ++ places })
    (flat_map-append listening_in calls more ∙ ap (λ places. flat_map listening_in calls ++ places) none ∙ append-nil (flat_map listening_in calls))

module _ {X : Type 0} (origin : X → DoorOrigin) (calls : X → List DoorCall) where
  -- what is made as a share of a door that has shares already is a share of it
  pub is_share : (door now share : X) (n : ℕ) → origin now ≡ origin door → calls now ≡ calls door ++ replicate n shared
      → origin share ≡ share_of (origin now) (calls now) → calls share ≡ [] → IsShareOf origin calls door share
  is_share door now share n same called there unasked = record {
    origin_is = there ∙ ap (λ o. share_of o (calls now)) same ∙ ap (share_of (origin door)) called ∙ same_share (origin door) (calls door) (replicate n shared) (nowhere_else n);
    unasked = unasked;
  }

  -- shares of a door are shares of it as it is once they are made
  pub shares_of : {A : Type 0} (r : Result A Unready) (door now : X) (xs : List X) (count made : ℕ) (more : List DoorCall) → origin now ≡ origin door → calls now ≡ calls door ++ more
      → SharesDoor r count made more → All (IsShareOf origin calls door) xs → All (IsShareOf origin calls now) xs
  shares_of r door now xs count made more same called is shares =
      All-weaker (IsShareOf origin calls door) (IsShareOf origin calls now)
      (λ share one. record {
        origin_is = one.origin_is ∙ sym (ap (λ o. share_of o (calls now)) same ∙ ap (share_of (origin door)) called ∙ same_share (origin door) (calls door) more (nowhere r count made more is));
        unasked = one.unasked;
      })
      xs shares

-- a door that listens, and was to be shared
pub readies : {A : Type 0} (r : Result A Unready) (listening : Listening) (count made : ℕ) (more : List DoorCall) → SharesDoor r count made more → ReadiesDoor r listening count made (listened listening ∷ more)
readies (Ok a) listening count made more is = (is.0, ap (λ cs. listened listening ∷ cs) is.1)
readies (Err Panel) listening count made more is = is
readies (Err Records) listening count made more is = is
readies (Err Door) listening count made more is = inr (is.0, ap (λ cs. listened listening ∷ cs) is.1)
readies (Err Memory) listening count made more is = (is.0, ap (λ cs. listened listening ∷ cs) is.1)

-- ---- Shares of a panel

-- what was made of a panel, and then more
pub called_then : (asked middle now : PanelHistory) (first more : List PanelCall) → HasCalledPanel first asked middle → HasCalledPanel more middle now → HasCalledPanel (first ++ more) asked now
called_then asked middle now first more is then_is =
    then_is ∙ ap (λ (p : PanelHistory). record p { calls = p.calls ++ more }) is ∙ ap (λ (calls : List PanelCall). record asked { calls = calls }) (append_assoc asked.calls first more)

-- one share more
pub panel_shared_more : (asked now later : PanelHistory) (n : ℕ) → HasCalledPanel (replicate n panels.shared) asked now → later ≡ with_call now panels.shared → HasCalledPanel (replicate (n + 1) panels.shared) asked later
panel_shared_more asked now later n is more =
    subst (λ (calls : List PanelCall). HasCalledPanel calls asked later) (replicate-append-replicate n 1 panels.shared) (called_then asked now later (replicate n panels.shared) (panels.shared ∷ []) is more)

-- by a call that reaches nothing a panel has the same addresses
pub same_places : (now later : PanelHistory) (call : PanelCall) → place_in call ≡ [] → later ≡ with_call now call → panels.share_of now ≡ panels.share_of later
same_places now later call none is =
    ap (λ (places : List Placed). record { origin = record { depth = now.origin.depth + 1; reached_at = now.origin.reached_at ++ places }; calls = [] })
    (sym (flat_map-append place_in now.calls (call ∷ []) ∙ ap (λ (places : List Placed). flat_map place_in now.calls ++ (places ++ [])) none ∙ append-nil (flat_map place_in now.calls)))
    ∙ ap panels.share_of (sym is)

module _ {P : Type 0} (history : P → PanelHistory) where
  -- so what was a share of it is one still
  pub shares_stay : (now later : PanelHistory) (call : PanelCall) → place_in call ≡ [] → later ≡ with_call now call → (ps : List P) → All (λ (share : P). IsPanelShare now (history share)) ps
      → All (λ (share : P). IsPanelShare later (history share)) ps
  shares_stay now later call none is ps shares =
      All-weaker (λ (share : P). IsPanelShare now (history share)) (λ (share : P). IsPanelShare later (history share)) (λ share one. one ∙ same_places now later call none is) ps shares

module _ (h : Head) (asked reached now : PanelHistory) (reach : HasCalledPanel (map reached_at h.authorities) asked reached) (n : ℕ) where
  -- a panel that is ready
  pub panel_ready : HasCalledPanel (replicate n panels.shared) reached now → HasCalledPanel (panel_calls h n) asked now
  panel_ready shares = called_then asked reached now (map reached_at h.authorities) (replicate n panels.shared) reach shares

-- ---- What is made ready

module _ {P X : Type 0} (panel : P → PanelHistory) (links : X → Option (List LinkView)) (origin : X → DoorOrigin) (calls : X → List DoorCall) where
  abbrev view : X → DoorView
  view x = record { links = links x; origin = origin x; calls = calls x }

  -- the shares as they are seen
  pub doors_viewed : (door : X) (xs : List X) → All (IsShareOf origin calls door) xs → All (IsDoorShare (view door)) (map view xs)
  doors_viewed door xs shares =
      All-map (IsDoorShare (view door)) view xs (All-weaker (IsShareOf origin calls door) (λ x. IsDoorShare (view door) (view x)) (λ x is. record { origin = is.origin_is; unasked = is.unasked }) xs shares)

  module _ {C : Type 0} (plan : Plan) (h : Head) (d d_now : X) (asked asked_now : PanelHistory) (recorder recorder_now : Option RecorderView) (xs : List X) (means : List (Means P C)) (reached : HasCalledPanel (panel_calls h plan.workers) asked asked_now)
      (lent : HasLent plan.workers recorder recorder_now) (count : length means ≡ plan.workers) (panel_shares : All (λ (own : Means P C). IsPanelShare asked_now (panel own.panel)) means) (keepers : HaveShares plan.workers recorder (kept_of means)) (more : List DoorCall) (called : HasCalled more (view d) (view d_now)) where
    abbrev seen : List DoorCall → Type 0
    seen cs = HasCalled cs (view d) (view d_now)

    -- what was made once the door was to be shared
    pub door_made : {A : Type 0} (r : Result A Unready) → ReadiesDoor r (listening_of plan) plan.workers (length xs) more → All (IsShareOf origin calls d_now) xs
        → IsMade panel plan h (view d) (view d_now) asked asked_now recorder recorder_now (map view xs) means r
    door_made (Ok a) made shares = record {
      reached = reached;
      lent = lent;
      called = subst (λ n. seen (ready_calls (listening_of plan) n)) made.0 (subst seen made.1 called);
      door_count = length-map xs view ∙ made.0;
      door_shares = doors_viewed d_now xs shares;
      means_count = count;
      panel_shares = panel_shares;
      keepers = all_lent plan.workers recorder means count keepers;
    }
    door_made (Err Panel) made shares = absurd made
    door_made (Err Records) made shares = absurd made
    door_made (Err Door) (inl made) shares = record { all_shared = count; reached = reached; lent = lent; failed = not_heard (length-map xs view ∙ made.0) (subst seen made.1 called); keepers = keepers }
    door_made (Err Door) (inr made) shares = record {
      all_shared = count;
      reached = reached;
      lent = lent;
      keepers = keepers;
      failed = not_made (subst (λ n. n < plan.workers) (sym (length-map xs view)) made.0) (subst (λ n. seen (ready_calls (listening_of plan) n ++ not_shared ∷ [])) (sym (length-map xs view)) (subst seen made.1 called));
    }
    door_made (Err Memory) made shares = record {
      lent = plan.workers;
      held = no_door (subst (λ n. n < plan.workers) (sym (length-map xs view)) made.0) count refl
          (subst (λ n. seen (ready_calls (listening_of plan) n ++ no_room_to_share ∷ [])) (sym (length-map xs view)) (subst seen made.1 called))
          (subst (λ n. HasCalledPanel (panel_calls h n) asked asked_now) (sym count) reached) lent;
      keepers = keepers;
    }

-- ---- What is not ready

-- an error that is handed on
pub handed_on : {A : Type 0} (result : Result A Unready) (e : Unready) → IsErrAnd result (λ now. now ≡ e) → result ≡ Err e
handed_on (Ok a) e is = absurd is
handed_on (Err now) e is = ap Err is

module _ {P C : Type 0} (A : Type 0) (panel : P → PanelHistory) (plan : Plan) (h : Head) (door : DoorView) (asked : PanelHistory) (recorder : Option RecorderView) (doors : List DoorView) (means : List (Means P C)) (no_doors : doors ≡ []) where
  module _ (reached : PanelHistory) (reach : HasCalledPanel (map reached_at h.authorities) asked reached) where
    -- the panel could not be shared
    pub panel_unmade : (asked_now : PanelHistory) (result : Result A Unready) (e : Unready) (more : List PanelCall) → result ≡ Err e → HasCalledPanel more reached asked_now → SharesPanel {A = A} (Err e) plan.workers (length means) more
        → kept_of means ≡ replicate (length means) unwanted → IsMade panel plan h door door asked asked_now recorder recorder doors means result
    panel_unmade asked_now result e more failed called shares nobody = subst (IsMade panel plan h door door asked asked_now recorder recorder doors means) (sym failed) (by_cause e shares)
      where
        all_calls : (last : PanelCall) → more ≡ replicate (length means) panels.shared ++ last ∷ [] → HasCalledPanel (panel_calls h (length means) ++ last ∷ []) asked asked_now
        all_calls last is =
            subst (λ calls. HasCalledPanel calls asked asked_now)
            (ap (λ calls. map reached_at h.authorities ++ calls) is ∙ sym (append_assoc (map reached_at h.authorities) (replicate (length means) panels.shared) (last ∷ [])))
            (called_then asked reached asked_now (map reached_at h.authorities) more reach called)

        keepers : HaveShares 0 recorder (kept_of means)
        keepers = none_lent recorder (kept_of means) (length means) nobody

        by_cause : (e : Unready) → SharesPanel {A = A} (Err e) plan.workers (length means) more → IsMade {A = A} panel plan h door door asked asked_now recorder recorder doors means (Err e)
        by_cause Panel (fewer, is) = record { door_is = refl; no_doors = no_doors; lost = unshared fewer (all_calls panels.not_shared is); recorder_is = refl; keepers = keepers }
        by_cause Records is = absurd is
        by_cause Door is = absurd is
        by_cause Memory (fewer, is) = record { lent = 0; held = no_panel (ap length no_doors) fewer refl refl (all_calls panels.no_room_to_share is) refl; keepers = keepers }

  -- the recorder could not be shared
  pub recorder_unmade : (asked_now : PanelHistory) (recorder_now : Option RecorderView) (result : Result A Unready) (e : Unready) (lent : ℕ) → result ≡ Err e → HasCalledPanel (panel_calls h plan.workers) asked asked_now
      → length means ≡ plan.workers → HaveShares lent recorder (kept_of means) → SharesRecorder {A = A} (Err e) plan.workers lent recorder recorder_now
      → IsMade panel plan h door door asked asked_now recorder recorder_now doors means result
  recorder_unmade asked_now recorder_now result e lent failed ready count keepers shares = subst (IsMade panel plan h door door asked asked_now recorder recorder_now doors means) (sym failed) (by_cause e shares)
    where
      by_cause : (e : Unready) → SharesRecorder {A = A} (Err e) plan.workers lent recorder recorder_now → IsMade {A = A} panel plan h door door asked asked_now recorder recorder_now doors means (Err e)
      by_cause Panel is = absurd is
      by_cause Records is = record { door_is = refl; no_doors = no_doors; all_shared = count; reached = ready; lent = lent; failed = is; keepers = keepers }
      by_cause Door is = absurd is
      by_cause Memory is = record {
        lent = lent;
        held = no_recorder (ap length no_doors) count refl (subst (λ n. HasCalledPanel (panel_calls h n) asked asked_now) (sym count) ready) is;
        keepers = keepers;
      }

-- how a service ends that is not ready
pub hosts_unready : {P C : Type 0} (A : Type 0) (panel : P → PanelHistory) (plan : Plan) (h : Head) (opening : List Entry) (sink : SinkView) (door : DoorView) (asked : P) (recorder : Option RecorderView) (hosted : HostedView P C) (e : Unready)
    → IsMade {A = A} panel plan h door hosted.door (panel asked) (panel hosted.panel) recorder hosted.recorder hosted.served.doors hosted.served.means (Err e) → hosted.status ≡ unready_status e
    → ((lent : ℕ) → HaveShares lent recorder (kept_of hosted.served.means) → IsIdle panel sink hosted.door (panel hosted.panel) lent recorder hosted.served) → Hosts panel plan h opening sink door asked recorder hosted
hosts_unready A panel plan h opening sink door asked recorder hosted Panel made is idle = unreached is (idle 0 made.keepers) made.door_is made.no_doors made.lost made.recorder_is
hosts_unready A panel plan h opening sink door asked recorder hosted Records made is idle = unlent made.lent is (idle made.lent made.keepers) made.door_is made.no_doors made.all_shared made.reached made.failed
hosts_unready A panel plan h opening sink door asked recorder hosted Door made is idle = unheard is (idle plan.workers made.keepers) made.all_shared made.reached made.lent made.failed
hosts_unready A panel plan h opening sink door asked recorder hosted Memory made is idle = unready made.lent is (idle made.lent made.keepers) made.held
