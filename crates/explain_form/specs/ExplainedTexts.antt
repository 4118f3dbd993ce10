-- The lines that say why a call has its verdict.
use Rattle.std.specs.Prelude.{◌+◌, ℕ, List, [], ◌∷◌, ◌++◌, Bool, true, false, Option, Some, None, codes}
use Rattle.std.specs.Fmt.{decimal}
use Rattle.nal_term.specs.Trees.{formula_tree}
use Rattle.nal_parse.specs.Canonical.{formula_text}
use Rattle.nal_rules.specs.declared.verdicts.Verdict.{Verdict}
use Rattle.nal_rules.specs.declared.verdicts.Verdict.TheVariants.{Allowed, Denied}
use Rattle.proof_lines.specs.Lines.{LineTree, line_trees}
use Rattle.proof_text.specs.CanonicalProof.{line_text}
use Rattle.policy_history.specs.declared.heads.Head.{Head}
use Rattle.policy_history.specs.declared.heads.Principal.{Principal}
use Rattle.policy_history.specs.Events.{name_of}
use Rattle.policy_history.specs.PolicyLines.{spaced}
use Rattle.policy_history.specs.PolicyTexts.{ended}
use Rattle.audit_form.specs.VerdictTexts.{cause_text, fault_name}
use Rattle.case_reasons.specs.declared.explanations.Explained.{Explained}
use Rattle.case_reasons.specs.declared.explanations.Explained.TheVariants.{NoObject, Known}
use Rattle.case_reasons.specs.declared.explanations.Explanation.{Explanation}
use Rattle.case_reasons.specs.declared.explanations.GoalReason.{GoalReason}
use Rattle.case_reasons.specs.declared.explanations.ObjectReason.{ObjectReason}
use Rattle.case_reasons.specs.declared.explanations.ProofReason.{ProofReason}
use Rattle.case_reasons.specs.declared.lines.LineReason.{LineReason}
use Rattle.case_reasons.specs.declared.lines.LineReason.TheVariants.{Faulty, Held, Missing, Answered, NotAsked, NotBound, Derived}

-- the verdict, and the point at which it was asked for
abbrev pub verdict_line : ℕ → Verdict → List ℕ
verdict_line at Allowed = spaced (codes "allowed") (decimal at)
verdict_line at (Denied cause) = spaced (codes "denied") (spaced (decimal at) (cause_text cause))

-- the entry that made the object, and the name of its owner
abbrev pub object_line : List Principal → ObjectReason → List ℕ
object_line principals r = spaced (codes "object") (spaced (decimal r.entry) (name_of principals r.owner))

-- the entry that set the goal, and the goal; or that there is none
abbrev pub goal_line : Option GoalReason → List ℕ
goal_line None = codes "goal -"
goal_line (Some r) = spaced (codes "goal") (spaced (decimal r.entry) (spaced (codes ":") (formula_text (formula_tree r.goal))))

-- what an authority answered
abbrev pub answer_word : Bool → List ℕ
answer_word true = codes "yes"
answer_word false = codes "no"

-- the words for what a line rests on; of a line of another rule that stands, nothing is told
abbrev pub reason_words : LineReason → Option (List ℕ)
reason_words (Faulty fault) = Some (fault_name fault)
reason_words (Held by) = Some (spaced (codes "held") (spaced (decimal by.said) (decimal by.received)))
reason_words Missing = Some (codes "missing")
reason_words (Answered port affirmed) = Some (spaced (decimal port) (answer_word affirmed))
reason_words (NotAsked port) = Some (spaced (decimal port) (codes "not asked"))
reason_words NotBound = Some (codes "not bound")
reason_words Derived = None

-- what stands behind the text of a line: those words, where there are any
abbrev pub behind_line : LineReason → List ℕ
behind_line reason = of (reason_words reason)
  where
    of : Option (List ℕ) → List ℕ
    of None = []
    of (Some words) = codes " ; " ++ words

-- the lines from number k on, each with what it rests on
abbrev pub lines_text : ℕ → List LineTree → List LineReason → List ℕ
lines_text k [] reasons = []
lines_text k (l ∷ ls) [] = []
lines_text k (l ∷ ls) (r ∷ rs) = ended (line_text k l ++ behind_line r) ++ lines_text (k + 1) ls rs

-- the entry that registered the proof, and its lines; or that there is none
abbrev pub proof_lines : Option ProofReason → List ℕ
proof_lines None = ended (codes "proof -")
proof_lines (Some r) = ended (spaced (codes "proof") (decimal r.entry)) ++ lines_text 1 (line_trees r.proof) r.lines.items

-- the verdict, and what it comes from
abbrev pub explanation_text : Head → ℕ → Explanation → List ℕ
explanation_text h at x = ended (verdict_line at x.verdict) ++ ended (object_line h.principals x.object) ++ ended (goal_line x.goal) ++ proof_lines x.proof

-- why a call has its verdict at this point; or that no object has the name
abbrev pub explained_text : Head → ℕ → Explained → List ℕ
explained_text h at NoObject = ended (spaced (codes "refused") (spaced (decimal at) (codes "NoSuchObject")))
explained_text h at (Known x) = explanation_text h at x
