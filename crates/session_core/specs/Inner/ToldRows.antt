-- Worked sessions over a shared board, each with all that it was told.
use Rattle.std.specs.Prelude.{ℕ, zero, suc, ◌+◌, ◌/◌, ◌%◌, List, [], ◌∷◌, ◌++◌, take, codes, Some, None}
use Rattle.nal_term.specs.Trees.{FormulaTree, TermTree, name, atom, verum, says}
use Rattle.nal_parse.specs.Canonical.{formula_text, term_text}
use Rattle.proof_lines.specs.Lines.{LineTree}
use Rattle.proof_lines.specs.declared.rules.Rule.TheVariants.{Ask as AskRule, Label, TrueI}
use Rattle.proof_text.specs.CanonicalProof.{proof_text}
use Rattle.policy_history.specs.declared.heads.Head.{Head}
use Rattle.policy_history.specs.Events.{EventTree, EntryTree, say, delete, new_object, set_goal, clear_goal, set_proof, bind}
use Rattle.authority_ask.specs.Panels.{Told as Ask}
use Rattle.authority_ask.specs.declared.panels.Ask.{Ask as Answer}
use Rattle.authority_ask.specs.declared.panels.Ask.TheVariants.{Yes, No, Down as DownAnswer, NoMemory as NoAnswer}
use Rattle.session_wire.specs.declared.requests.Request.{Request}
use Rattle.session_wire.specs.declared.requests.Request.TheVariants.{Hello, Say, Delete, NewObject, SetGoal, ClearGoal, SetProof, Call, Bind, See}
use Rattle.session_wire.specs.declared.replies.Reply.{Reply}
use Rattle.session_wire.specs.declared.replies.Reply.TheVariants.{Welcome, Done, Allowed, Denied, Refused, Down, NoMemory, Seen}
use Rattle.verdict_words.specs.declared.places.CasePlace.{CasePlace}
use Rattle.verdict_words.specs.declared.views.RegisterStep.TheVariants.{Read}
use Rattle.verdict_words.specs.declared.views.Item.{Item}
use Rattle.verdict_words.specs.declared.views.Item.TheVariants.{Loaded, Met, Filled, Ran}
use Rattle.session_core.specs.Standing.{Standing}
use Rattle.session_core.specs.Told.{IsTold}

-- ---- One principal, alice, whose sessions have an object f and call `read f`

abbrev pub head : Head
head = record { principals = record { name = codes "alice"; secret = codes "pa" } ∷ []; authorities = [] }

abbrev pub alice : TermTree
alice = name (codes "alice")

abbrev pub read : List ℕ
read = codes "read"

abbrev pub f : List ℕ
f = codes "f"

abbrev pub ok : FormulaTree
ok = atom (codes "ok") []

abbrev pub other : FormulaTree
other = atom (codes "other") []

abbrev pub alice_says_ok : FormulaTree
alice_says_ok = says alice ok

-- the proofs of one line
abbrev pub by_label : List LineTree
by_label = record { rule = Label; refs = []; term = None; formula = alice_says_ok } ∷ []

abbrev pub by_truth : List LineTree
by_truth = record { rule = TrueI; refs = []; term = None; formula = verum } ∷ []

-- what alice does
abbrev pub make_f : EventTree
make_f = new_object f

abbrev pub want_ok : EventTree
want_ok = set_goal read f (Some alice_says_ok)

abbrev pub say_ok : EventTree
say_ok = say (Some alice) (Some ok)

abbrev pub show_label : EventTree
show_label = set_proof read f (Some by_label)

abbrev pub say_other : EventTree
say_other = say (Some alice) (Some other)

abbrev pub show_truth : EventTree
show_truth = set_proof read f (Some by_truth)

abbrev pub clear : EventTree
clear = clear_goal read f

abbrev pub want_truth : EventTree
want_truth = set_goal read f (Some verum)

-- an entry of alice in the session
abbrev pub entry : ℕ → EventTree → EntryTree
entry session e = record { session = session; principal = 0; event = e }

abbrev pub hello : Request
hello = Hello (codes "alice") (codes "pa")

abbrev pub call : Request
call = Call read f 0

-- how far the session of alice is behind its first call
abbrev pub behind_call : ℕ → Standing
behind_call low = record { who = Some 0; low = low; known = (read, f) ∷ [] }

abbrev pub place : CasePlace
place = record { case = 0; object = 0; store = 0 }

-- ---- A call that is allowed, and again by the verdict that was kept

abbrev pub allowed_entries : List EntryTree
allowed_entries =
    entry 1 make_f ∷ entry 1 want_ok
    ∷ entry 1 say_ok ∷ entry 1 show_label ∷ []

abbrev pub allowed_requests : List Request
allowed_requests =
    hello ∷ NewObject f ∷ SetGoal read f (formula_text alice_says_ok) ∷ Say (term_text alice) (formula_text ok)
    ∷ SetProof read f (proof_text by_label) ∷ call ∷ call ∷ []

abbrev pub allowed_replies : List Reply
allowed_replies = Welcome 1 0 ∷ Done 1 0 ∷ Done 2 0 ∷ Done 3 3 ∷ Done 4 0 ∷ Allowed 4 0 0 ∷ Allowed 4 1 0 ∷ []

-- The slot says that case 0 was allowed at 4. The region of the object was raised last for the proof, and that of what alice holds
-- never.
abbrev pub allowed_steps : List Item
allowed_steps =
    Met 0 ∷ Met 1 ∷ Met 1 ∷ Met 2 ∷ Met 2 ∷ Met 3 ∷ Met 3 ∷ Met 4
    ∷ Met 4 ∷ Filled 0 4 (record { code = 1; line = 0; fault = 0 }) ∷ Ran 0 Read 0
    ∷ Loaded place 1099511627780 4 4 0 ∷ Ran 0 Read 0 ∷ []

abbrev pub AllowedAndKept : Type 0
AllowedAndKept = IsTold head allowed_entries 1 0 allowed_requests allowed_replies [] (Met 0 ∷ allowed_steps) (behind_call 4)

-- ---- Then the label is deleted, and the call is denied for want of it

abbrev pub deleted_entries : List EntryTree
deleted_entries = allowed_entries ++ entry 1 (delete 3) ∷ []

abbrev pub deleted_requests : List Request
deleted_requests = Delete 3 ∷ call ∷ Delete 3 ∷ []

abbrev pub deleted_replies : List Reply
deleted_replies = Done 5 0 ∷ Denied 5 4 1 0 ∷ Refused 5 6 ∷ []

-- the region of what alice holds was raised, and so the look makes no hit
abbrev pub deleted_steps : List Item
deleted_steps = Met 4 ∷ Met 5 ∷ Loaded place 1099511627780 5 4 5 ∷ Met 5 ∷ Met 5 ∷ []

abbrev pub AllowedAndThenDeleted : Type 0
AllowedAndThenDeleted =
    IsTold head deleted_entries 1 0 (allowed_requests ++ deleted_requests) (allowed_replies ++ deleted_replies) [] (Met 0 ∷ (allowed_steps ++ deleted_steps)) (behind_call 5)

-- ---- Or something else is said, and the kept verdict still serves

abbrev pub other_entries : List EntryTree
other_entries = allowed_entries ++ entry 1 say_other ∷ []

abbrev pub other_requests : List Request
other_requests = Say (term_text alice) (formula_text other) ∷ call ∷ []

abbrev pub other_replies : List Reply
other_replies = Done 5 5 ∷ Allowed 5 1 0 ∷ []

abbrev pub other_steps : List Item
other_steps = Met 4 ∷ Met 5 ∷ Loaded place 1099511627780 5 4 0 ∷ Ran 0 Read 0 ∷ []

abbrev pub AllowedAndOtherSaid : Type 0
AllowedAndOtherSaid =
    IsTold head other_entries 1 0 (allowed_requests ++ other_requests) (allowed_replies ++ other_replies) [] (Met 0 ∷ (allowed_steps ++ other_steps)) (behind_call 5)

-- ---- A wrong line is kept too

abbrev pub wrong_entries : List EntryTree
wrong_entries =
    entry 1 make_f ∷ entry 1 want_ok ∷ entry 1 show_truth ∷ []

abbrev pub wrong_requests : List Request
wrong_requests =
    hello ∷ NewObject f ∷ SetGoal read f (formula_text alice_says_ok) ∷ SetProof read f (proof_text by_truth) ∷ call ∷ call ∷ []

-- the line is the last one, and is not the goal
abbrev pub wrong_replies : List Reply
wrong_replies = Welcome 1 0 ∷ Done 1 0 ∷ Done 2 0 ∷ Done 3 0 ∷ Denied 3 3 1 12 ∷ Denied 3 3 1 12 ∷ []

abbrev pub wrong_steps : List Item
wrong_steps =
    Met 0 ∷ Met 1 ∷ Met 1 ∷ Met 2 ∷ Met 2 ∷ Met 3
    ∷ Met 3 ∷ Filled 0 3 (record { code = 4; line = 1; fault = 12 })
    ∷ Loaded place 864713118687690755 3 3 0 ∷ []

abbrev pub WrongLineKept : Type 0
WrongLineKept = IsTold head wrong_entries 1 0 wrong_requests wrong_replies [] (Met 0 ∷ wrong_steps) (behind_call 3)

-- ---- Then the goal is cleared, and set to what the line says: each time another verdict is kept

abbrev pub cleared_entries : List EntryTree
cleared_entries = wrong_entries ++ entry 1 clear ∷ entry 1 want_truth ∷ []

abbrev pub cleared_requests : List Request
cleared_requests = ClearGoal read f ∷ call ∷ SetGoal read f (formula_text verum) ∷ call ∷ call ∷ []

abbrev pub cleared_replies : List Reply
cleared_replies = Done 4 0 ∷ Denied 4 1 0 0 ∷ Done 5 0 ∷ Allowed 5 0 0 ∷ Allowed 5 1 0 ∷ []

abbrev pub cleared_steps : List Item
cleared_steps =
    Met 3 ∷ Met 4 ∷ Loaded place 864713118687690755 4 4 0 ∷ Met 4 ∷ Filled 0 4 (record { code = 2; line = 0; fault = 0 })
    ∷ Met 4 ∷ Met 5 ∷ Loaded place 2199023255556 5 5 0 ∷ Met 5 ∷ Filled 0 5 (record { code = 1; line = 0; fault = 0 }) ∷ Ran 0 Read 0
    ∷ Loaded place 1099511627781 5 5 0 ∷ Ran 0 Read 0 ∷ []

abbrev pub WrongLineAndThenCleared : Type 0
WrongLineAndThenCleared =
    IsTold head cleared_entries 1 0 (wrong_requests ++ cleared_requests) (wrong_replies ++ cleared_replies) [] (Met 0 ∷ (wrong_steps ++ cleared_steps)) (behind_call 5)

-- ---- A history that made 257 objects before. A change of the goal of one that has another region leaves what is kept

abbrev pub object_name : ℕ → List ℕ
object_name k = codes "o" ++ (48 + k / 100) ∷ (48 + k / 10 % 10) ∷ (48 + k % 10) ∷ []

abbrev pub objects_made : ℕ → List EntryTree
objects_made zero = []
objects_made (suc k) = objects_made k ++ entry 1 (new_object (object_name k)) ∷ []

-- what is true is the goal of an object
abbrev pub want_object : ℕ → EventTree
want_object k = set_goal read (object_name k) (Some verum)

abbrev pub show_object : ℕ → EventTree
show_object k = set_proof read (object_name k) (Some by_truth)

abbrev pub ask_object : ℕ → Request
ask_object k = SetGoal read (object_name k) (formula_text verum)

-- the calls are of the first object
abbrev pub call_first : Request
call_first = Call read (object_name 0) 0

abbrev pub behind_first_call : ℕ → Standing
behind_first_call low = record { who = Some 0; low = low; known = (read, object_name 0) ∷ [] }

abbrev pub far_entries : List EntryTree
far_entries = objects_made 257 ++ entry 2 (want_object 0) ∷ entry 2 (show_object 0) ∷ entry 2 (want_object 255) ∷ []

abbrev pub far_requests : List Request
far_requests = hello ∷ ask_object 0 ∷ SetProof read (object_name 0) (proof_text by_truth) ∷ call_first ∷ ask_object 255 ∷ call_first ∷ []

abbrev pub far_replies : List Reply
far_replies = Welcome 2 257 ∷ Done 258 0 ∷ Done 259 0 ∷ Allowed 259 0 0 ∷ Done 260 0 ∷ Allowed 260 1 0 ∷ []

-- every region's word was 257 at first
abbrev pub far_steps : List Item
far_steps =
    Met 257 ∷ Met 258 ∷ Met 258 ∷ Met 259 ∷ Met 259 ∷ Filled 0 259 (record { code = 1; line = 0; fault = 0 }) ∷ Ran 0 Read 0
    ∷ Met 259 ∷ Met 260 ∷ Loaded place 1099511628035 260 259 257 ∷ Ran 0 Read 0 ∷ []

abbrev pub OtherRegionLeaves : Type 0
OtherRegionLeaves = IsTold head far_entries 2 257 far_requests far_replies [] (Met 257 ∷ far_steps) (behind_first_call 260)

-- ---- Then that of one with the same region is changed, and what is kept serves no more

abbrev pub near_entries : List EntryTree
near_entries = far_entries ++ entry 2 (want_object 256) ∷ []

abbrev pub near_requests : List Request
near_requests = ask_object 256 ∷ call_first ∷ call_first ∷ []

abbrev pub near_replies : List Reply
near_replies = Done 261 0 ∷ Allowed 261 0 0 ∷ Allowed 261 1 0 ∷ []

abbrev pub near_steps : List Item
near_steps =
    Met 260 ∷ Met 261 ∷ Loaded place 1099511628035 261 261 257 ∷ Met 261 ∷ Filled 0 261 (record { code = 1; line = 0; fault = 0 }) ∷ Ran 0 Read 0
    ∷ Loaded place 1099511628037 261 261 257 ∷ Ran 0 Read 0 ∷ []

abbrev pub SameRegionRaises : Type 0
SameRegionRaises =
    IsTold head near_entries 2 257 (far_requests ++ near_requests) (far_replies ++ near_replies) [] (Met 257 ∷ (far_steps ++ near_steps)) (behind_first_call 261)

-- ---- Another session of alice, which began with an empty history, sees what the first one changes

abbrev pub later_requests : List Request
later_requests = hello ∷ call ∷ call ∷ call ∷ []

abbrev pub later_replies : List Reply
later_replies = Welcome 2 0 ∷ Allowed 4 0 0 ∷ Allowed 4 1 0 ∷ Denied 5 4 1 0 ∷ []

abbrev pub later_steps : List Item
later_steps =
    Met 4 ∷ Filled 0 4 (record { code = 1; line = 0; fault = 0 }) ∷ Ran 0 Read 0
    ∷ Loaded place 1099511627780 4 4 0 ∷ Ran 0 Read 0
    ∷ Loaded place 1099511627780 5 4 5 ∷ Met 5 ∷ []

abbrev pub ChangesAreSeen : Type 0
ChangesAreSeen = IsTold head deleted_entries 2 0 later_requests later_replies [] (Met 0 ∷ later_steps) (behind_call 5)

-- ---- Who is greeted, and who is not: each reply is at what the session has seen by then, and so is what it is told of a length

abbrev pub greeted_requests : List Request
greeted_requests = NewObject f ∷ Hello (codes "alice") (codes "xx") ∷ hello ∷ hello ∷ Call read (codes "g") 0 ∷ hello ∷ See 5 ∷ See 4 ∷ []

abbrev pub greeted_replies : List Reply
greeted_replies = Refused 0 1 ∷ Refused 0 3 ∷ Welcome 2 0 ∷ Refused 0 2 ∷ Refused 4 8 ∷ Refused 4 2 ∷ Refused 4 23 ∷ Seen 4 ∷ []

abbrev pub GreetedOnce : Type 0
GreetedOnce = IsTold head allowed_entries 2 0 greeted_requests greeted_replies [] (Met 0 ∷ Met 4 ∷ Met 4 ∷ Met 4 ∷ []) (record { who = Some 0; low = 4; known = [] })

-- ---- A change that could not be recorded. No goal is set then, and a call that has no case number is neither known nor kept. The pass
-- is met before the line of a change is written and again behind it, which is told of the first two changes

abbrev pub unrecorded_requests : List Request
unrecorded_requests = hello ∷ NewObject f ∷ SetGoal read f (formula_text verum) ∷ NewObject f ∷ call ∷ call ∷ []

abbrev pub unrecorded_replies : List Reply
unrecorded_replies = Welcome 1 0 ∷ Done 1 0 ∷ Refused 1 20 ∷ Refused 1 9 ∷ Denied 1 1 0 0 ∷ Denied 1 1 0 0 ∷ []

abbrev pub NotRecordedIsRefused : Type 0
NotRecordedIsRefused =
    IsTold head (entry 1 make_f ∷ []) 1 0 unrecorded_requests unrecorded_replies [] (Met 0 ∷ Met 0 ∷ Met 0 ∷ Met 1 ∷ Met 1 ∷ Met 1 ∷ Met 1 ∷ Met 1 ∷ Met 1 ∷ []) (record { who = Some 0; low = 1; known = [] })

-- ---- An authority is asked at each call, and nothing is kept

abbrev pub asking_head : Head
asking_head = record { principals = head.principals; authorities = record { port = 1; address = codes "mem" } ∷ [] }

abbrev pub by_ask : List LineTree
by_ask = record { rule = AskRule; refs = []; term = None; formula = alice_says_ok } ∷ []

abbrev pub bind_alice : EventTree
bind_alice = bind (Some alice) 1

abbrev pub show_ask : EventTree
show_ask = set_proof read f (Some by_ask)

abbrev pub asked : Answer → Ask
asked answer = record { port = 1; statement = ok; answer = answer }

abbrev pub asking_entries : List EntryTree
asking_entries = entry 1 make_f ∷ entry 1 want_ok ∷ entry 1 bind_alice ∷ entry 1 show_ask ∷ []

abbrev pub asking_requests : List Request
asking_requests =
    hello ∷ NewObject f ∷ SetGoal read f (formula_text alice_says_ok) ∷ Bind (term_text alice) 1 ∷ SetProof read f (proof_text by_ask)
    ∷ call ∷ call ∷ call ∷ call ∷ []

-- what the authority answered to the four calls: yes, no, nothing, and there was no memory for the last ask
abbrev pub asking_replies : List Reply
asking_replies =
    Welcome 1 0 ∷ Done 1 0 ∷ Done 2 0 ∷ Done 3 0 ∷ Done 4 0
    ∷ Allowed 4 0 0 ∷ Denied 4 6 1 0 ∷ Down 4 1 ∷ NoMemory ∷ []

abbrev pub asks_told : List Ask
asks_told = asked Yes ∷ asked No ∷ asked DownAnswer ∷ asked NoAnswer ∷ []

abbrev pub asking_steps : List Item
asking_steps =
    Met 0 ∷ Met 1 ∷ Met 1 ∷ Met 2 ∷ Met 2 ∷ Met 3 ∷ Met 3 ∷ Met 4
    ∷ Met 4 ∷ Ran 0 Read 0 ∷ Loaded place 0 4 4 0 ∷ Met 4 ∷ Loaded place 0 4 4 0 ∷ Met 4 ∷ Loaded place 0 4 4 0 ∷ Met 4 ∷ []

abbrev pub AskedEachTime : Type 0
AskedEachTime = IsTold asking_head asking_entries 1 0 asking_requests asking_replies asks_told (Met 0 ∷ asking_steps) (behind_call 4)

-- ---- What a session is never told, whatever was asked and whatever steps it made

abbrev pub NeverTold : List EntryTree → List Request → List Reply → Type 0
NeverTold es requests replies = (asks : List Ask) (trail : List Item) (last : Standing) → ¬ IsTold head es 1 0 requests replies asks trail last

-- that a change was done whose entry is not in the history
abbrev pub DoneWithoutEntry : Type 0
DoneWithoutEntry = (at number : ℕ) → NeverTold [] (hello ∷ NewObject f ∷ []) (Welcome 1 0 ∷ Done at number ∷ [])

-- that its first call was allowed by a verdict that was kept
abbrev pub FirstCallHits : Type 0
FirstCallHits = (at value : ℕ) → NeverTold allowed_entries (take 6 allowed_requests) (take 5 allowed_replies ++ Allowed at 1 value ∷ [])

-- that the next one is denied
abbrev pub AllowedThenDenied : Type 0
AllowedThenDenied = (at cause line fault : ℕ) → NeverTold allowed_entries allowed_requests (take 6 allowed_replies ++ Denied at cause line fault ∷ [])

-- that a call is allowed behind the change that took its label away
abbrev pub DeletedStillAllowed : Type 0
DeletedStillAllowed =
    (at hit value : ℕ) → NeverTold deleted_entries (allowed_requests ++ Delete 3 ∷ call ∷ []) (allowed_replies ++ Done 5 0 ∷ Allowed at hit value ∷ [])

-- that it has come to a length that the history does not have
abbrev pub SeenTooEarly : Type 0
SeenTooEarly = (at : ℕ) → NeverTold (entry 1 make_f ∷ []) (hello ∷ NewObject f ∷ See 2 ∷ []) (Welcome 1 0 ∷ Done 1 0 ∷ Seen at ∷ [])

-- that two calls are allowed by one yes of the authority
abbrev pub YesUsedTwice : Type 0
YesUsedTwice =
    (hit value later_hit later_value : ℕ) (trail : List Item) (last : Standing)
    → ¬ IsTold asking_head asking_entries 1 0 (take 7 asking_requests) (take 5 asking_replies ++ Allowed 4 hit value ∷ Allowed 4 later_hit later_value ∷ []) (asked Yes ∷ []) trail last
