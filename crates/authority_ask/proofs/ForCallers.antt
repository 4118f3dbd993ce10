-- Laws of a panel's history, which the proofs of other crates may cite.
use Rattle.std.proofs.Common.{Bool, count_by, ◌-◌, ◌^◌, min, length, arith, ◌≡◌, List, [], ◌∷◌, ◌++◌, ◌+◌, map, cond, refl, sym, ap, ◌∙◌, append_assoc}
use Rattle.std.proofs.lemmas.List.{append-nil, map-append}
use Rattle.std.proofs.lemmas.List.Sums.{sum_by-append, sum_by-cons}
use Rattle.nx_io.proofs.ForCallers.{gained-by, gained-nothing}
use Rattle.authority_ask.specs.PanelCalls.{HasOnlyAsked, PanelCall, PanelHistory, asked, asked_since, asks_in, downs_in, faults_in, is_ask, is_down, is_fault, said_in}
use Rattle.authority_ask.specs.Panels.{Told}

-- a history with these asks at its end
abbrev with_asked : PanelHistory → List Told → PanelHistory
with_asked history told = record history { calls = history.calls ++ map asked told }

-- asks tell what they are made of
said_asked : (told : List Told) → said_in (map asked told) ≡ told
said_asked [] = refl
said_asked (t ∷ ts) = ap (λ (more : List Told). t ∷ more) (said_asked ts)

-- what was asked where asks alone were made
pub since_told : (before now : PanelHistory) (told : List Told) → now ≡ record before { calls = before.calls ++ map asked told } → asked_since before now ≡ told
since_told before now told e = ap said_in (gained-by before.calls now.calls (map asked told) (ap (λ (h : PanelHistory). h.calls) e)) ∙ said_asked told

pub only_told : (before now : PanelHistory) (told : List Told) → now ≡ record before { calls = before.calls ++ map asked told } → HasOnlyAsked before now
only_told before now told e = e ∙ ap (with_asked before) (sym (since_told before now told e))

-- where no call was made
pub since_nothing : (h : PanelHistory) → asked_since h h ≡ []
since_nothing h = ap said_in (gained-nothing h.calls)

pub only_nothing : (h : PanelHistory) → HasOnlyAsked h h
only_nothing h = only_told h h [] (ap (λ (calls : List PanelCall). record h { calls = calls }) (sym (append-nil h.calls)))

-- one stretch behind another
through : (a b c : PanelHistory) → HasOnlyAsked a b → HasOnlyAsked b c → c ≡ with_asked a (asked_since a b ++ asked_since b c)
through a b c first second =
    second ∙ ap (λ (h : PanelHistory). with_asked h (asked_since b c)) first
    ∙ ap (λ (calls : List PanelCall). record a { calls = calls })
    (append_assoc a.calls (map asked (asked_since a b)) (map asked (asked_since b c))
    ∙ ap (λ (more : List PanelCall). a.calls ++ more) (sym (map-append asked (asked_since a b) (asked_since b c))))

pub only_through : (a b c : PanelHistory) → HasOnlyAsked a b → HasOnlyAsked b c → HasOnlyAsked a c
only_through a b c first second = only_told a c (asked_since a b ++ asked_since b c) (through a b c first second)

pub since_through : (a b c : PanelHistory) → HasOnlyAsked a b → HasOnlyAsked b c → asked_since a c ≡ asked_since a b ++ asked_since b c
since_through a b c first second = since_told a c (asked_since a b ++ asked_since b c) (through a b c first second)

-- how many were answered Down
pub downs_append : (xs ys : List Told) → downs_in (xs ++ ys) ≡ downs_in xs + downs_in ys
downs_append xs ys = sum_by-append (λ (t : Told). cond (is_down t.answer) 1 0) xs ys

-- ---- what asks do to the counts

count_asked : (is_such : PanelCall → Bool) (told : List Told) → count_by is_such (map asked told) ≡ count_by (λ (t : Told). is_such (asked t)) told
count_asked is_such [] = refl
count_asked is_such (t ∷ ts) =
    let later = count_asked is_such ts in
    let here = sum_by-cons (λ (c : PanelCall). cond (is_such c) 1 0) (asked t) (map asked ts) in
    let told = sum_by-cons (λ (t : Told). cond (is_such (asked t)) 1 0) t ts in
    omega (arith, later, here, told)

count_since : (is_such : PanelCall → Bool) (before now : PanelHistory) → HasOnlyAsked before now
    → count_by is_such now.calls ≡ count_by is_such before.calls + count_by (λ (t : Told). is_such (asked t)) (asked_since before now)
count_since is_such before now only =
    let told = asked_since before now in
    ap (λ (h : PanelHistory). count_by is_such h.calls) only ∙ sum_by-append (λ (c : PanelCall). cond (is_such c) 1 0) before.calls (map asked told)
    ∙ ap (λ n. count_by is_such before.calls + n) (count_asked is_such told)

count_all : (told : List Told) → count_by (λ (t : Told). is_ask (asked t)) told ≡ length told
count_all [] = refl
count_all (t ∷ ts) =
    let later = count_all ts in
    let here = sum_by-cons (λ (t : Told). cond (is_ask (asked t)) 1 0) t ts in
    omega (arith, later, here)

-- the faults rise by the answers that are Down
pub faults_since : (before now : PanelHistory) → HasOnlyAsked before now → faults_in now.calls ≡ min (faults_in before.calls + downs_in (asked_since before now)) (2 ^ 64 - 1)
faults_since before now only = let all = count_since is_fault before now only in omega (arith, all)

-- how often was asked rises by the asks
pub asks_since : (before now : PanelHistory) → HasOnlyAsked before now → asks_in now.calls ≡ min (asks_in before.calls + length (asked_since before now)) (2 ^ 64 - 1)
asks_since before now only =
    let all = count_since is_ask before now only in
    let each = count_all (asked_since before now) in
    omega (arith, all, each)
