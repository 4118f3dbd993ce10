-- The generated load of the service: the requests of each worker, which hang on no other worker, and the line of what comes of them.
use Rattle.std.specs.Prelude.{◌+◌, ◌*◌, ◌%◌, ◌^◌, ◌==◌, ℕ, zero, suc, List, [], ◌∷◌, ◌++◌, Bool, true, not, if◌then◌else◌, slice_get, unwrap_or, codes}
use Rattle.std.specs.Fmt.{decimal}
use Rattle.std.specs.List.{join_with_byte}
use Rattle.policy_history.specs.declared.heads.Principal.{Principal}
use Rattle.session_wire.specs.declared.requests.Request.{Request}
use Rattle.session_wire.specs.declared.requests.Request.TheVariants.{Hello, Say, NewObject, SetGoal, ClearGoal, SetProof, Call}
use Rattle.session_wire.specs.Frames.{request_frames}
use Rattle.nexus_drill.specs.declared.outcomes.DrillTotals.{DrillTotals}
use Rattle.nexus_drill.specs.Draws.{draw}

-- ---- The names and texts of a worker

abbrev pub principal : ℕ → List ℕ
principal worker = codes "p" ++ decimal worker

abbrev pub secret : ℕ → List ℕ
secret worker = codes "s" ++ decimal worker

-- its principal, under that name and with that secret
abbrev pub drill_principal : ℕ → Principal
drill_principal worker = record { name = principal worker; secret = secret worker }

abbrev pub object : ℕ → List ℕ
object worker = codes "o" ++ decimal worker

-- the principal says ok: the goal of both operations, and the label that the worker holds
abbrev pub goal_text : ℕ → List ℕ
goal_text worker = principal worker ++ codes " says ok"

-- the proof of one line, which is the label
abbrev pub proof_text : ℕ → List ℕ
proof_text worker = codes "proof 1 ; 1 label : " ++ (principal worker ++ codes " says ok ; end")

-- ---- The requests of a worker

-- the worker makes its object, sets both goals, registers both proofs and says what they stand on
abbrev pub first_requests : ℕ → List Request
first_requests worker =
    Hello (principal worker) (secret worker) ∷ NewObject (object worker)
    ∷ SetGoal (codes "read") (object worker) (goal_text worker) ∷ SetGoal (codes "write") (object worker) (goal_text worker)
    ∷ SetProof (codes "read") (object worker) (proof_text worker) ∷ SetProof (codes "write") (object worker) (proof_text worker)
    ∷ Say (principal worker) (codes "ok") ∷ []

-- the draw of a worker at this place, from 0: its generator starts at the number and the worker's own, added up
abbrev pub worker_draw : ℕ → ℕ → ℕ → ℕ
worker_draw number worker place = draw ((number + worker) % 2 ^ 64) place

-- whether the goal of `read` is set after the request of a draw, which turns it at 1
abbrev pub set_after : ℕ → Bool → Bool
set_after h is_set = if h % 8 == 1 then not is_set else is_set

-- whether the goal of `read` is set before the request at this place
abbrev pub is_goal_set : ℕ → ℕ → ℕ → Bool
is_goal_set number worker zero = true
is_goal_set number worker (suc place) = set_after (worker_draw number worker place) (is_goal_set number worker place)

-- the goal of `read` is cleared where it is set, and set otherwise
abbrev pub turning : ℕ → Bool → Request
turning worker is_set = if is_set then ClearGoal (codes "read") (object worker) else SetGoal (codes "read") (object worker) (goal_text worker)

-- the request of a draw, by the draw modulo 8: a note is said, the goal of `read` is turned, `write` is called three times, and from 5 on
-- `read` is
abbrev pub request_of : ℕ → ℕ → Bool → Request
request_of worker h is_set = unwrap_or (slice_get below_5 (h % 8)) (Call (codes "read") (object worker) 0)
  where
    writing : Request
    writing = Call (codes "write") (object worker) h

    below_5 : List Request
    below_5 = Say (principal worker) (codes "note") ∷ turning worker is_set ∷ writing ∷ writing ∷ writing ∷ []

-- all requests of a worker, the last so many of which are drawn
abbrev pub requests_of : ℕ → ℕ → ℕ → List Request
requests_of number worker zero = first_requests worker
requests_of number worker (suc calls) =
    requests_of number worker calls ++ request_of worker (worker_draw number worker calls) (is_goal_set number worker calls) ∷ []

-- their frames, one after another
abbrev pub frames_of : ℕ → ℕ → ℕ → List ℕ
frames_of number worker calls = request_frames (requests_of number worker calls)

-- ---- What comes of the requests

abbrev pub plus : DrillTotals → DrillTotals → DrillTotals
plus a b = record { allowed = a.allowed + b.allowed; denied = a.denied + b.denied; entries = a.entries + b.entries }

abbrev pub one_allowed : DrillTotals
one_allowed = record { allowed = 1; denied = 0; entries = 0 }

abbrev pub one_denied : DrillTotals
one_denied = record { allowed = 0; denied = 1; entries = 0 }

abbrev pub one_entry : DrillTotals
one_entry = record { allowed = 0; denied = 0; entries = 1 }

-- what comes of the request of a draw: a change is an entry, a call of `write` is allowed, and one of `read` is where its goal is set
abbrev pub outcome_of : ℕ → Bool → DrillTotals
outcome_of h is_set =
    unwrap_or (slice_get (one_entry ∷ one_entry ∷ one_allowed ∷ one_allowed ∷ one_allowed ∷ []) (h % 8)) (if is_set then one_allowed else one_denied)

-- what comes of a worker's requests: of the first seven all but the greeting are entries
abbrev pub totals_of : ℕ → ℕ → ℕ → DrillTotals
totals_of number worker zero = record { allowed = 0; denied = 0; entries = 6 }
totals_of number worker (suc calls) = plus (totals_of number worker calls) (outcome_of (worker_draw number worker calls) (is_goal_set number worker calls))

-- what comes of the requests of the first so many workers
abbrev pub totals : ℕ → ℕ → ℕ → DrillTotals
totals number zero calls = record { allowed = 0; denied = 0; entries = 0 }
totals number (suc workers) calls = plus (totals number workers calls) (totals_of number workers calls)

-- ---- The line

-- the line of these numbers, with its line feed: of workers, of requests, of calls that are allowed and that are denied, and of
-- entries at the end
abbrev pub line_of_totals : ℕ → ℕ → DrillTotals → List ℕ
line_of_totals workers calls t =
    join_with_byte 32 (
    codes "workers" ∷ decimal workers ∷ codes "requests" ∷ decimal (workers * (7 + calls)) ∷ codes "allowed" ∷ decimal t.allowed
    ∷ codes "denied" ∷ decimal t.denied ∷ codes "length" ∷ decimal t.entries ∷ [])
    ++ 10 ∷ []

-- the line of the load of a number, so many workers and so many drawn requests of each
abbrev pub drill_line : ℕ → ℕ → ℕ → List ℕ
drill_line number workers calls = line_of_totals workers calls (totals number workers calls)
