-- The words by which commands are called.
use Rattle.std.specs.Prelude.{◌≡◌, ◌<◌, ◌≤◌, ◌^◌, ◌⊎◌, ℕ, List, [], ◌∷◌, ◌++◌, Bool, true, false, codes, None, Some}
use Rattle.std.specs.declared.option.Option.{Option}
use Rattle.std.specs.Fmt.{decimal}
use Rattle.nal_term.specs.Names.{IsName}
use Rattle.nexus_client.specs.declared.inputs.TalkInput.{TalkInput}
use Rattle.nexus_client.specs.declared.inputs.TalkInput.TheVariants.{RequestLines, PeerBundle}
use Rattle.service_commands.specs.Services.{IsAddress, IsService}
use Rattle.nexus_run.specs.declared.commands.Call.{Call}
use Rattle.nexus_run.specs.declared.commands.Call.TheVariants.{Serve, Talk, Plain}
use Rattle.nexus_run.specs.declared.commands.Command.{Command}
use Rattle.nexus_run.specs.declared.commands.Command.TheVariants.{Check, Script, Trust, Prove, Audit, Explain, Recover, Compact, Export, Core, Drill}

abbrev pub check_words : List (List ℕ)
check_words = codes "check" ∷ []

abbrev pub script_words : List (List ℕ)
script_words = codes "script" ∷ []

abbrev pub trust_words : List (List ℕ)
trust_words = codes "trust" ∷ []

abbrev pub prove_words : List (List ℕ)
prove_words = codes "prove" ∷ []

abbrev pub audit_words : List (List ℕ)
audit_words = codes "audit" ∷ []

abbrev pub explain_words : List (List ℕ)
explain_words = codes "explain" ∷ []

abbrev pub recover_words : List (List ℕ)
recover_words = codes "recover" ∷ []

abbrev pub compact_words : List (List ℕ)
compact_words = codes "compact" ∷ []

-- whose labels are exported
abbrev pub export_words : List ℕ → List (List ℕ)
export_words name = codes "export" ∷ name ∷ []

-- a number from which a load is drawn, and how many steps it has
abbrev pub core_words : ℕ → ℕ → List (List ℕ)
core_words number steps = codes "core" ∷ decimal number ∷ decimal steps ∷ []

-- how many steps a load has at most
abbrev pub most_steps : ℕ
most_steps = 1000000

-- the numbers of `core` are within their bounds
pub record IsLoad (number steps : ℕ) : Type 0 where
  pub number_is : number < 2 ^ 64
  pub steps_are : steps ≤ most_steps

-- a number from which a load is drawn, on how many workers it runs, and how many drawn requests each has
abbrev pub drill_words : ℕ → ℕ → ℕ → List (List ℕ)
drill_words number workers calls = codes "drill" ∷ decimal number ∷ decimal workers ∷ decimal calls ∷ []

-- the numbers of `drill` are within their bounds
pub record IsDrill (number workers calls : ℕ) : Type 0 where
  pub number_is : number < 2 ^ 64
  pub workers_are : (1 ≤ workers) × (workers ≤ 64)
  pub calls_are : (1 ≤ calls) × (calls ≤ 4000)

-- the words of a command that is neither a service nor a talk
abbrev pub command_words : Command → List (List ℕ)
command_words Check = check_words
command_words Script = script_words
command_words Trust = trust_words
command_words Prove = prove_words
command_words Audit = audit_words
command_words Explain = explain_words
command_words Recover = recover_words
command_words Compact = compact_words
command_words (Export name) = export_words name.now
command_words (Core number steps) = core_words number steps
command_words (Drill number workers calls) = drill_words number workers calls

-- its name or its numbers, if it has some, are within their bounds
abbrev pub IsWithin : Command → Type 0
IsWithin (Export name) = IsName name.now
IsWithin (Core number steps) = IsLoad number steps
IsWithin (Drill number workers calls) = IsDrill number workers calls
IsWithin _ = Unit {0}

-- the words are those of a command that is neither a service nor a talk
abbrev pub IsPlain : List (List ℕ) → Type 0
IsPlain words = (command : Command) × IsWithin command × (words ≡ command_words command)

-- for how many seconds a service waits for a peer that is admitted, where that is said
abbrev pub patience_words : Option ℕ → List (List ℕ)
patience_words None = []
patience_words (Some seconds) = decimal seconds ∷ []

-- whether the calls of a service are recorded
abbrev pub records_words : Bool → List (List ℕ)
records_words true = codes "records" ∷ []
records_words false = []

-- where a service listens, how many workers it has, how many sessions each of them serves, its patience, where that is said, and whether its calls are
-- recorded
abbrev pub serve_words : List ℕ → ℕ → ℕ → Option ℕ → Bool → List (List ℕ)
serve_words address workers sessions patience records = codes "serve" ∷ address ∷ decimal workers ∷ decimal sessions ∷ (patience_words patience ++ records_words records)

-- the words are those of a service whose text goes to the output
abbrev pub IsServiceCall : List (List ℕ) → Type 0
IsServiceCall words =
    (address : List ℕ) × (workers : ℕ) × (sessions : ℕ) × (patience : Option ℕ) × (records : Bool) × IsService address workers sessions patience
    × (words ≡ serve_words address workers sessions patience records)

-- the words are those of a service whose calls are recorded
abbrev pub IsRecordedCall : List (List ℕ) → Type 0
IsRecordedCall words =
    (address : List ℕ) × (workers : ℕ) × (sessions : ℕ) × (patience : Option ℕ) × IsService address workers sessions patience × (words ≡ serve_words address workers sessions patience true)

-- at which address the log is reached that keeps the text of a service
abbrev pub log_words : List ℕ → List (List ℕ)
log_words log = codes "log" ∷ log ∷ []

-- the words of a service whose text is kept by a log
abbrev pub logged_words : List ℕ → ℕ → ℕ → Option ℕ → Bool → List ℕ → List (List ℕ)
logged_words address workers sessions patience records log = serve_words address workers sessions patience records ++ log_words log

-- the words are those of a service whose text is kept by a log
abbrev pub IsLoggedCall : List (List ℕ) → Type 0
IsLoggedCall words =
    (address : List ℕ) × (workers : ℕ) × (sessions : ℕ) × (patience : Option ℕ) × (records : Bool) × (log : List ℕ) × IsService address workers sessions patience × IsAddress log
    × (words ≡ logged_words address workers sessions patience records log)

-- the word of a talk whose input is this
abbrev pub talk_word : TalkInput → List ℕ
talk_word RequestLines = codes "client"
talk_word PeerBundle = codes "import"

-- what the input of a talk is, and where the service is that is talked to
abbrev pub talk_words : TalkInput → List ℕ → List (List ℕ)
talk_words input address = talk_word input ∷ address ∷ []

-- the words are those of a talk
abbrev pub IsTalkCall : List (List ℕ) → Type 0
IsTalkCall words = (input : TalkInput) × (address : List ℕ) × IsAddress address × (words ≡ talk_words input address)

-- the words are those of a command that needs no log
abbrev pub IsUnlogged : List (List ℕ) → Type 0
IsUnlogged words = IsPlain words ⊎ IsServiceCall words ⊎ IsTalkCall words

-- the words are those of a command
abbrev pub IsCommand : List (List ℕ) → Type 0
IsCommand words = IsUnlogged words ⊎ IsLoggedCall words

-- the words are those of the call, and its parts are within their bounds
abbrev pub IsCalledBy : Call → List (List ℕ) → Type 0
IsCalledBy (Serve s) words =
    IsService s.address.now s.workers s.sessions s.patience × (words ≡ serve_words s.address.now s.workers s.sessions s.patience s.records)
IsCalledBy (Talk t) words = IsAddress t.address.now × (words ≡ talk_words t.input t.address.now)
IsCalledBy (Plain command) words = IsWithin command × (words ≡ command_words command)
