-- Laws of what an ask exchanges.
use Rattle.std.proofs.Common.{◌≡◌, ◌≢◌, ◌<◌, inl, inr, ℕ, zero, suc, Bool, true, false, List, take, Some, subst, arith}
use Rattle.std.specs.Prelude.{codes}
use Rattle.nal_term.specs.Trees.{FormulaTree}
use Rattle.authority_ask.specs.Exchanges.{IsAskedOver, answer_line}
use Rattle.authority_ask.specs.Hosts.{IsAskedAt}
use Rattle.authority_ask.specs.PanelCalls.{Placed, address_at}
use Rattle.authority_ask.specs.WireCalls.{WireCall}
use Rattle.authority_ask.specs.declared.panels.Ask.{Ask}

-- an ask over wires, at the address of its port, which is not `clock`
pub asked_at : (places : List Placed) (port : ℕ) (at : List ℕ) (f : FormulaTree) (before now : List WireCall) (answer : Ask) → address_at places port ≡ Some at → at ≢ codes "clock" → IsAskedOver port at f before now answer → IsAskedAt places port f before now answer
asked_at places port at f before now answer e ne asked = (
  λ address is _. let same : at ≡ address = cc (e, is) in subst (λ (x : List ℕ). IsAskedOver port x f before now answer) same asked,
  λ none. elim none [ inl n ↦ absurd (cc (e, n)) | inr k ↦ absurd (ne (cc (e, k))) ],
)

-- where an answer's line came, some bytes came
pub some_came : (affirmed : Bool) (n : ℕ) (bytes : List ℕ) → take n bytes ≡ answer_line affirmed → 0 < n
some_came true zero bytes e = absurd (cc e)
some_came false zero bytes e = absurd (cc e)
some_came affirmed (suc n) bytes e = omega arith
