-- What the parts of a line's segment make.
use Rattle.std.proofs.Common.{◌≡◌, ◌≢◌, ℕ, ◌≤◌, List, refl, ap, subst, ◌∙◌, Bool, true, false, Option, Some, None, is_some}
use Rattle.nal_term.specs.Trees.{TermTree, FormulaTree}
use Rattle.nal_parse.specs.Grammar.{IsFormulaText}
use Rattle.nal_parse.specs.Errors.{IsFormulaError}
use Rattle.nal_parse.specs.declared.parse.ParseError.{ParseError}
use Rattle.nal_parse.specs.declared.parse.ParseError.TheVariants as parse
use Rattle.proof_lines.specs.Lines.{LineTree, HasRuleForm, takes_term}
use Rattle.proof_text.specs.declared.read.ProofError.TheVariants as error
use Rattle.proof_text.specs.ProofText.{Head, HasHead, IsLineText, BeginsWithOptionalTerm}
use Rattle.proof_text.specs.ProofText.IsWrong.{bad_line, bad_number, too_many, formula as bad_formula}
use Rattle.proof_text.specs.Inner.Reading.{Reads, NoForm}
use Rattle.proof_text.specs.Inner.Lines.{ReadsLine, IsWrongLine}
use Rattle.proof_text.proofs.Numbers.{numbers_length}

module _ (k : ℕ) (seg : List ℕ) (h : Head) (rest : List ℕ) (reads : Reads (HasHead seg) h rest) where
  pub line_reads : (f : FormulaTree) → h.number ≡ k → k ≤ 256 → IsFormulaText rest f → ((g : FormulaTree) → IsFormulaText rest g → g ≡ f) → ReadsLine k seg (record { rule = h.rule; refs = h.refs; term = h.term; formula = f })
  line_reads f e le is alone = record {
    within = le;
    text = record { text = rest; head = subst (λ x. HasHead seg (record h { number = x }) rest) e reads.form; formula = is };
    only = λ l t.
        let same = reads.only_value (record { number = k; rule = l.rule; refs = l.refs; term = l.term }) t.text t.head in
        let place = reads.only_rest (record { number = k; rule = l.rule; refs = l.refs; term = l.term }) t.text t.head in
        let tree = alone l.formula (subst (λ x. IsFormulaText x l.formula) place t.formula) in
        ap (λ (x : Head). let y : LineTree = record { rule = x.rule; refs = x.refs; term = x.term; formula = l.formula } in y) same
        ∙ ap (λ x. let y : LineTree = record { rule = h.rule; refs = h.refs; term = h.term; formula = x } in y) tree;
  }

  pub wrong_number : h.number ≢ k → IsWrongLine k seg (error.BadNumber k)
  wrong_number ne = λ others at. bad_number reads.form ne

  pub wrong_many : h.number ≡ k → k ≡ 257 → IsWrongLine k seg error.TooManyLines
  wrong_many e f = λ others at. too_many reads.form e f

  pub wrong_formula : h.number ≡ k → k ≤ 256 → (e : ParseError) → e ≢ parse.Memory → ((g : FormulaTree) → ¬ IsFormulaText rest g) → IsFormulaError rest e → IsWrongLine k seg (error.Formula k e)
  wrong_formula same le e told missing why = λ others at. bad_formula le reads.form same missing told why

pub wrong_form : (k : ℕ) (seg : List ℕ) → NoForm (HasHead seg) → IsWrongLine k seg (error.BadLine k)
wrong_form k seg missing = λ others at. bad_line missing at

term_form : (t : Bool) (bytes : List ℕ) (v : Option TermTree) (r : List ℕ) → BeginsWithOptionalTerm t bytes v r → is_some v ≡ t
term_form true bytes (Some t) r h = refl
term_form true bytes None r h = absurd h
term_form false bytes (Some t) r h = absurd h
term_form false bytes None r h = refl

-- the text of a line gives it the form of its rule
pub line_form : (k : ℕ) (seg : List ℕ) (l : LineTree) → IsLineText k seg l → HasRuleForm l
line_form k seg l t = record {
  references = numbers_length t.head.references;
  term = term_form (takes_term l.rule) _ l.term _ t.head.term;
}
