-- What the replies of a session mean: the promise of the whole service, reply by reply.
use Rattle.std.specs.Prelude.{◌≡◌, ◌≤◌, ◌<◌, ◌+◌, ℕ, List, [], length, map, Option, Some, None, slice_get}
use Rattle.std.specs.List.{flat_map}
use Rattle.nal_rules.specs.Numbers.{cause_numbers}
use Rattle.nal_rules.specs.declared.verdicts.Cause.{Cause}
use Rattle.object_table.specs.Objects.{number_of}
use Rattle.proof_check.specs.Laws.{IsSupported}
use Rattle.policy_history.specs.declared.heads.Head.{Head}
use Rattle.policy_history.specs.Events.{EntryTree, admitted}
use Rattle.policy_history.specs.Judged.{case_at}
use Rattle.authority_ask.specs.Panels.{Told}
use Rattle.guard_core.specs.Judging.{IsJudged}
use Rattle.guard_core.specs.declared.findings.Finding.TheVariants.{Allowed as AllowedFinding, Denied as DeniedFinding}
use Rattle.session_wire.specs.declared.requests.Request.{Request}
use Rattle.session_wire.specs.declared.requests.Request.TheVariants.{Hello, Call, See}
use Rattle.session_wire.specs.declared.replies.Reply.{Reply}
use Rattle.session_wire.specs.declared.replies.Reply.TheVariants.{Welcome, Done, Allowed, Denied, Refused, Down, Seen}
use Rattle.verdict_words.specs.declared.views.Item.{Item}
use Rattle.session_core.specs.Ends.{HasEnded}
use Rattle.session_core.specs.Served.{Reported}
use Rattle.session_core.specs.Sessions.{Point, Told1, admitted_in}
use Rattle.session_core.specs.Standing.{Standing}
use Rattle.session_core.specs.declared.lines.Asking.{Asking}
use Rattle.session_core.specs.Calls.{state_at}
use Rattle.session_core.specs.Told.{IsTold}

-- A call of principal p is earned at a length of the history: the object stands there, and the case of p there is allowed, judged with
-- what authorities answered in this very call, of whom exactly that was asked which the case asks for. So the goal in force, the caller's
-- name in place of `?subject`, is derived from labels that the caller holds there and from statements to which authorities answered Yes
pub record IsEarned (h : Head) (es : List EntryTree) (p : ℕ) (op object : List ℕ) (at : ℕ) (asked : List Told) : Type 0 where
  pub number : ℕ
  pub count : ℕ
  pub object_is : number_of (state_at h es at).objects object ≡ Some number
  pub judged : IsJudged (case_at h (state_at h es at) p op number) asked (AllowedFinding count)
  pub supported : IsSupported (case_at h (state_at h es at) p op number) judged.asks

-- The call is denied there by a cause with these numbers: judged with what authorities answered in this very call, of whom exactly that
-- was asked which the case asks for, the cause is true of the case, and no earlier one is
pub record IsRefuted (h : Head) (es : List EntryTree) (p : ℕ) (op object : List ℕ) (at : ℕ) (asked : List Told) (cause line fault : ℕ) : Type 0 where
  pub number : ℕ
  pub reason : Cause
  pub object_is : number_of (state_at h es at).objects object ≡ Some number
  pub numbers : cause_numbers reason ≡ (cause, line, fault)
  pub judged : IsJudged (case_at h (state_at h es at) p op number) asked (DeniedFinding reason)

-- principal p is the one who was welcomed before request i of session s: with the name and the secret of p
pub record IsWelcomed (h : Head) (s : ℕ) (requests : List Request) (replies : List Reply) (i p : ℕ) : Type 0 where
  pub place : ℕ
  pub at : ℕ
  pub name : List ℕ
  pub secret : List ℕ
  pub before : place < i
  pub hello : slice_get requests place ≡ Some (Hello name secret)
  pub welcome : slice_get replies place ≡ Some (Welcome s at)
  pub admitted_is : admitted h.principals name secret ≡ Some p

-- session s, whose history had at least `low` entries as it began, and what it was told
module _ (h : Head) (es : List EntryTree) (s low : ℕ) (requests : List Request) (replies : List Reply) where
  -- Request i is a call of a principal who was welcomed, and at this length of the history, which is none below `low`, what was asked for
  -- it makes this true of it
  pub record IsCallOf (asked_for : List (List Told)) (i at : ℕ) (Truth : ℕ → List ℕ → List ℕ → List Told → Type 0) : Type 0 where
    pub principal : ℕ
    pub op : List ℕ
    pub object : List ℕ
    pub arg : ℕ
    pub asked : List Told
    pub call : slice_get requests i ≡ Some (Call op object arg)
    pub welcomed : IsWelcomed h s requests replies i principal
    pub asked_is : slice_get asked_for i ≡ Some asked
    pub late : low ≤ at
    pub within : at ≤ length es
    pub truth : Truth principal op object asked

  -- What the session was told of its calls is true. What was asked in it was asked for its requests, one behind the other. Each reply that
  -- allows a call is earned at the point that it names, and where its verdict was a kept one nobody was asked. Each that denies a call
  -- tells the first cause that is true there
  pub record IsTrue (asks : List Told) : Type 0 where
    pub asked_for : List (List Told)
    pub asks_are : asks ≡ flat_map (λ (mine : List Told). mine) asked_for
    pub allowed : (i at hit value : ℕ) → slice_get replies i ≡ Some (Allowed at hit value)
        → IsCallOf asked_for i at (λ p op object asked. IsEarned h es p op object at asked × (hit ≡ 1 → asked ≡ []))
    pub denied : (i at cause line fault : ℕ) → slice_get replies i ≡ Some (Denied at cause line fault)
        → IsCallOf asked_for i at (λ p op object asked. IsRefuted h es p op object at asked cause line fault)

-- whatever a session over a shared board is told
abbrev pub TellsWhatIsTrue : Type 0
TellsWhatIsTrue =
    (h : Head) (es : List EntryTree) (s low : ℕ) (requests : List Request) (replies : List Reply) (asks : List Told) (trail : List Item)
    (last : Standing)
    → IsTold h es s low requests replies asks trail last → IsTrue h es s low requests replies asks

-- the point that a reply names, a length of the history, where it names one
abbrev pub point_of : Reply → Option ℕ
point_of (Welcome session at) = Some at
point_of (Done at number) = Some at
point_of (Allowed at hit value) = Some at
point_of (Denied at cause line fault) = Some at
point_of (Refused at number) = Some at
point_of (Down at line) = Some at
point_of (Seen at) = Some at
point_of _ = None

-- a reply of a session names no point before one that an earlier reply named, and none below `low`
abbrev pub PointsRise : ℕ → List Reply → Type 0
PointsRise low replies =
    (i j a b : ℕ) (reply next : Reply) → i ≤ j → slice_get replies i ≡ Some reply → slice_get replies j ≡ Some next
    → point_of reply ≡ Some a → point_of next ≡ Some b → (low ≤ a) × (a ≤ b)

-- whatever a session over a shared board is told
abbrev pub TellsInOrder : Type 0
TellsInOrder =
    (h : Head) (es : List EntryTree) (s low : ℕ) (requests : List Request) (replies : List Reply) (asks : List Told) (trail : List Item)
    (last : Standing)
    → IsTold h es s low requests replies asks trail last → PointsRise low replies

-- where it was told that a length has been reached, no reply from then on names a point below the one for which was asked
abbrev pub SeenLasts : List Request → List Reply → Type 0
SeenLasts requests replies =
    (i j k m b : ℕ) (next : Reply) → i ≤ j → slice_get requests i ≡ Some (See k) → slice_get replies i ≡ Some (Seen m)
    → slice_get replies j ≡ Some next → point_of next ≡ Some b → k ≤ b

-- whatever a session over a shared board is told
abbrev pub TellsWhatLasts : Type 0
TellsWhatLasts =
    (h : Head) (es : List EntryTree) (s low : ℕ) (requests : List Request) (replies : List Reply) (asks : List Told) (trail : List Item)
    (last : Standing)
    → IsTold h es s low requests replies asks trail last → SeenLasts requests replies

-- What is reported of a session is true: what was taken from its link are the frames of requests, what was sent to it those of replies, and
-- these are true
pub record IsTrueReport (h : Head) (es : List EntryTree) (low : ℕ) (report : Reported) (asks : List Told) : Type 0 where
  pub requests : List Request
  pub replies : List Reply
  pub ended : HasEnded report.end report.taken report.sent requests replies
  pub truth : IsTrue h es report.session low requests replies asks
  pub points : PointsRise low replies
  pub seen : SeenLasts requests replies

-- principal p is the one who was welcomed, before request i, in the session in this place among those from `first` on: with the name and
-- the secret of p
pub record IsWelcomedIn (h : Head) (first : ℕ) (askings : List Asking) (replies : List Reply) (i place p : ℕ) : Type 0 where
  pub number : ℕ
  pub at : ℕ
  pub name : List ℕ
  pub secret : List ℕ
  pub before : number < i
  pub hello : slice_get askings number ≡ Some (record { place = place; request = Hello name secret })
  pub welcome : slice_get replies number ≡ Some (Welcome (first + place) at)
  pub admitted_is : admitted h.principals name secret ≡ Some p

-- sessions over one journal, from number `first` on, the journal that they left, and what they were told
module _ (h : Head) (first : ℕ) (es : List EntryTree) (askings : List Asking) (replies : List Reply) where
  -- As of a session over a board: request i is a call of a principal who was welcomed in the session in its place
  pub record IsAskingOf (asked_for : List (List Told)) (i at : ℕ) (Truth : ℕ → List ℕ → List ℕ → List Told → Type 0) : Type 0 where
    pub principal : ℕ
    pub place : ℕ
    pub op : List ℕ
    pub object : List ℕ
    pub arg : ℕ
    pub asked : List Told
    pub call : slice_get askings i ≡ Some (record { place = place; request = Call op object arg })
    pub welcomed : IsWelcomedIn h first askings replies i place principal
    pub asked_is : slice_get asked_for i ≡ Some asked
    pub within : at ≤ length es
    pub truth : Truth principal op object asked

  -- What the sessions were told of their calls is true of the journal that they left. What was asked in them was asked for their requests,
  -- one behind the other. Their points rise, whichever of them is told one
  pub record IsTrueAlone (asks : List Told) : Type 0 where
    pub asked_for : List (List Told)
    pub asks_are : asks ≡ flat_map (λ (mine : List Told). mine) asked_for
    pub allowed : (i at hit value : ℕ) → slice_get replies i ≡ Some (Allowed at hit value)
        → IsAskingOf asked_for i at (λ p op object asked. IsEarned h es p op object at asked)
    pub denied : (i at cause line fault : ℕ) → slice_get replies i ≡ Some (Denied at cause line fault)
        → IsAskingOf asked_for i at (λ p op object asked. IsRefuted h es p op object at asked cause line fault)
    pub points : PointsRise 0 replies
    pub seen : SeenLasts (map (λ (asking : Asking). asking.request) askings) replies

-- whatever sessions over one journal are told, from a point on at which nobody is admitted
abbrev pub TellsWhatIsTrueAlone : Type 0
TellsWhatIsTrueAlone =
    (h : Head) (first : ℕ) (point last : Point) (askings : List Asking) (replies : List Reply) (asks : List Told)
    → ((place : ℕ) → admitted_in point place ≡ None) → Told1 h first point askings replies asks last
    → IsTrueAlone h first last.entries askings replies asks
