-- The numbers of the refusals that a session makes by itself. Those of the journal's are given by `refusal_number`.
use Rattle.std.specs.Prelude.{ℕ}

-- nobody is admitted yet, and the request is no hello
abbrev pub not_open : ℕ
not_open = 1

-- a hello, where somebody is admitted already
abbrev pub already_open : ℕ
already_open = 2

-- a hello without the name and the secret of a principal
abbrev pub bad_secret : ℕ
bad_secret = 3

-- kept for later: no session is told this
abbrev pub read_only : ℕ
read_only = 21

-- the session has not come to the length for which was asked
abbrev pub not_yet : ℕ
not_yet = 23
