-- A segment has at most one head, which its parts make.
use Rattle.std.proofs.Common.{◌≡◌, ℕ, ◌≤◌, List, [], ◌∷◌, take, Bool, true, false, cond, Option, Some, None, refl, ap, subst, ◌∙◌, sym, arith}
use Rattle.std.specs.List.{find}
use Rattle.std.specs.Str.{bytes_eq}
use Rattle.std.proofs.lemmas.Slice.Eq.{bytes_eq-Decides}
use Rattle.nal_parse.specs.Tokens.{after_blanks}
use Rattle.nal_term.specs.Trees.{TermTree}
use Rattle.proof_lines.specs.declared.rules.Rule.{Rule}
use Rattle.proof_lines.specs.declared.rules.Rule.TheVariants.{Label, Ask, Hyp, TrueI, AndI, AndL, AndR, OrL, OrR, OrE, ImpI, ImpE, FalseE, ForallI, ForallE, ExistsI, ExistsE, EqRefl, EqSym, EqTrans, Arith, LtTrans, SaysI, Deduce, SaysJoin, SfRefl, SfTrans, SfSub, SfE, SfOnE, SfWeak, Handoff, HandoffOn}
use Rattle.proof_lines.specs.Lines.{reference_count, takes_term}
use Rattle.proof_text.specs.ProofText.{Head, HasHead, BeginsWithRun, BeginsWithNumber, BeginsWithNumbers, BeginsWithOptionalTerm, BeginsWithTerm, bracket_length, trimmed}
use Rattle.proof_text.specs.RuleNames.{rule_name}
use Rattle.proof_text.specs.Inner.Reading.{Reads, NoForm, BeginsWithBracket, BeginsWithColon, all_rules, rule_named}
use Rattle.nal_parse.specs.Grammar.{IsTermText}

-- each rule has its name, and no other rule has it
pub rule_named_name : (r : Rule) → rule_named (rule_name r) ≡ Some r
unfolding rule_named
rule_named_name Label = refl
rule_named_name Ask = refl
rule_named_name Hyp = refl
rule_named_name TrueI = refl
rule_named_name AndI = refl
rule_named_name AndL = refl
rule_named_name AndR = refl
rule_named_name OrL = refl
rule_named_name OrR = refl
rule_named_name OrE = refl
rule_named_name ImpI = refl
rule_named_name ImpE = refl
rule_named_name FalseE = refl
rule_named_name ForallI = refl
rule_named_name ForallE = refl
rule_named_name ExistsI = refl
rule_named_name ExistsE = refl
rule_named_name EqRefl = refl
rule_named_name EqSym = refl
rule_named_name EqTrans = refl
rule_named_name Arith = refl
rule_named_name LtTrans = refl
rule_named_name SaysI = refl
rule_named_name Deduce = refl
rule_named_name SaysJoin = refl
rule_named_name SfRefl = refl
rule_named_name SfTrans = refl
rule_named_name SfSub = refl
rule_named_name SfE = refl
rule_named_name SfOnE = refl
rule_named_name SfWeak = refl
rule_named_name Handoff = refl
rule_named_name HandoffOn = refl

pub count_le : (r : Rule) → reference_count r ≤ 5
count_le r = elim r as (λ x. reference_count x ≤ 5) [ Label ↦ omega arith | Ask ↦ omega arith | _ ↦ omega arith ]

find_gives : (p : Rule → Bool) (rs : List Rule) (r : Rule) → find p rs ≡ Some r → p r ≡ true
find_gives p [] r h = absurd (cc)
find_gives p (x ∷ xs) r h =
    elim (p x) as (λ t. p x ≡ t → cond t (Some x) (find p xs) ≡ Some r → p r ≡ true) [
      | true ↦ λ e f. let same : x ≡ r = cc in subst (λ y. p y ≡ true) same e
      | false ↦ λ e f. find_gives p xs r f
    ] refl h

pub name_of_named : (name : List ℕ) (r : Rule) → rule_named name ≡ Some r → rule_name r ≡ name
unfolding rule_named
name_of_named name r e = (bytes_eq-Decides (rule_name r) name).0 (find_gives (λ s. bytes_eq (rule_name s) name) all_rules r e)

pub same_rule : (r s : Rule) → rule_name r ≡ rule_name s → r ≡ s
same_rule r s e =
    let a = rule_named_name r in
    let b = rule_named_name s in
    let c = ap rule_named e in
    cc

-- what the parts read so far say of any head of the segment
module _ (seg : List ℕ) (n : ℕ) (a : List ℕ) (num : Reads (BeginsWithNumber seg) n a) (name b : List ℕ) (run : BeginsWithRun a name b) where
  run_of : (v : Head) (r : List ℕ) (h : HasHead seg v r) → BeginsWithRun a (rule_name v.rule) h.after_rule
  run_of v r h =
      subst (λ x. BeginsWithRun x (rule_name v.rule) h.after_rule) (num.only_rest v.number h.after_number h.number) h.rule

  rest_same : (v : Head) (r : List ℕ) (h : HasHead seg v r) → h.after_rule ≡ b
  rest_same v r h = (run_of v r h).1 ∙ sym run.1

  named : (v : Head) (r : List ℕ) (h : HasHead seg v r) → rule_named name ≡ Some v.rule
  named v r h = ap rule_named (run.0 ∙ sym (run_of v r h).0) ∙ rule_named_name v.rule

  pub no_rule : rule_named name ≡ None → NoForm (HasHead seg)
  no_rule e = λ v r h. let w = named v r h in cc

  module _ (rule : Rule) (is : rule_named name ≡ Some rule) where
    rule_same : (v : Head) (r : List ℕ) (h : HasHead seg v r) → v.rule ≡ rule
    rule_same v r h = let w = named v r h in cc

    references_of : (v : Head) (r : List ℕ) (h : HasHead seg v r) → BeginsWithNumbers (reference_count rule) b v.refs h.after_references
    references_of v r h =
        subst (λ x. BeginsWithNumbers (reference_count x) b v.refs h.after_references) (rule_same v r h)
        (subst (λ x. BeginsWithNumbers (reference_count v.rule) x v.refs h.after_references) (rest_same v r h) h.references)

    pub no_references : NoForm (BeginsWithNumbers (reference_count rule) b) → NoForm (HasHead seg)
    no_references missing = λ v r h. missing v.refs h.after_references (references_of v r h)

    module _ (refs c : List ℕ) (reads : Reads (BeginsWithNumbers (reference_count rule) b) refs c) where
      term_of : (v : Head) (r : List ℕ) (h : HasHead seg v r) → BeginsWithOptionalTerm (takes_term rule) c v.term h.after_term
      term_of v r h =
          subst (λ x. BeginsWithOptionalTerm (takes_term x) c v.term h.after_term) (rule_same v r h)
          (subst (λ x. BeginsWithOptionalTerm (takes_term v.rule) x v.term h.after_term) (reads.only_rest v.refs h.after_references (references_of v r h)) h.term)

      pub no_term : NoForm (BeginsWithOptionalTerm (takes_term rule) c) → NoForm (HasHead seg)
      no_term missing = λ v r h. missing v.term h.after_term (term_of v r h)

      module _ (t : Option TermTree) (d : List ℕ) (term : Reads (BeginsWithOptionalTerm (takes_term rule) c) t d) where
        colon_of : (v : Head) (r : List ℕ) (h : HasHead seg v r) → BeginsWithColon d r
        colon_of v r h = (h.after_colon, ap after_blanks (sym (term.only_rest v.term h.after_term (term_of v r h))) ∙ h.colon, h.formula)

        pub no_colon : ((rest : List ℕ) → ¬ BeginsWithColon d rest) → NoForm (HasHead seg)
        no_colon missing = λ v r h. missing r (colon_of v r h)

        abbrev made : Head
        made = record { number = n; rule = rule; refs = refs; term = t }

        head_same : (v : Head) (r : List ℕ) (h : HasHead seg v r) → v ≡ made
        head_same v r h =
            let e = num.only_value v.number h.after_number h.number in
            let f = rule_same v r h in
            let g = reads.only_value v.refs h.after_references (references_of v r h) in
            let i = term.only_value v.term h.after_term (term_of v r h) in
            ap (λ x. record v { number = x }) e
            ∙ (ap (λ x. record v { number = n; rule = x }) f
            ∙ (ap (λ x. record v { number = n; rule = rule; refs = x }) g
            ∙ ap (λ x. record v { number = n; rule = rule; refs = refs; term = x }) i))

        colon_same : (r s : List ℕ) → BeginsWithColon d r → BeginsWithColon d s → r ≡ s
        colon_same r s g h =
            let e : 58 ∷ g.0 ≡ 58 ∷ h.0 = sym g.1 ∙ h.1 in
            let f : g.0 ≡ h.0 = cc in
            g.2 ∙ (ap after_blanks f ∙ sym h.2)

        pub head_reads : (rest : List ℕ) → BeginsWithColon d rest → Reads (HasHead seg) (record { number = n; rule = rule; refs = refs; term = t }) rest
        head_reads rest colon = record {
          form = record {
            after_number = a;
            after_rule = b;
            after_references = c;
            after_term = d;
            after_colon = colon.0;
            number = num.form;
            rule = (name_of_named name rule is ∙ run.0, run.1);
            references = reads.form;
            term = term.form;
            colon = colon.1;
            formula = colon.2;
          };
          only_value = head_same;
          only_rest = λ v r h. colon_same r rest (colon_of v r h) colon;
        }

-- the term of a text in brackets
module _ (bytes inner rest : List ℕ) (br : Reads (BeginsWithBracket bytes) inner rest) where
  bracket_of : (v : TermTree) (r : List ℕ) (h : BeginsWithTerm bytes v r) → BeginsWithBracket bytes (trimmed (take (bracket_length false h.0) h.0)) r
  bracket_of v r h = (h.0, h.1, h.2, refl, h.4)

  text_of : (v : TermTree) (r : List ℕ) → BeginsWithTerm bytes v r → IsTermText inner v
  text_of v r h = subst (λ x. IsTermText x v) (br.only_value _ r (bracket_of v r h)) h.3

  pub term_reads : (t : TermTree) → IsTermText inner t → ((u : TermTree) → IsTermText inner u → u ≡ t) → Reads (BeginsWithTerm bytes) t rest
  term_reads t is alone =
      let w = br.form in
      record {
        form = (w.0, w.1, w.2, subst (λ x. IsTermText x t) w.3 is, w.4);
        only_value = λ v r h. alone v (text_of v r h);
        only_rest = λ v r h. br.only_rest _ r (bracket_of v r h);
      }

  pub no_term_text : ((u : TermTree) → ¬ IsTermText inner u) → NoForm (BeginsWithTerm bytes)
  no_term_text missing = λ v r h. missing v (text_of v r h)

pub no_bracket : (bytes : List ℕ) → NoForm (BeginsWithBracket bytes) → NoForm (BeginsWithTerm bytes)
no_bracket bytes missing = λ v r h. missing (trimmed (take (bracket_length false h.0) h.0)) r (h.0, h.1, h.2, refl, h.4)

-- where the rule has a term
module _ (bytes : List ℕ) where
  inner_term : (v : Option TermTree) (r : List ℕ) → BeginsWithOptionalTerm true bytes v r → (t : TermTree) × (v ≡ Some t) × BeginsWithTerm bytes t r
  inner_term None r h = absurd h
  inner_term (Some t) r h = (t, refl, h)

  pub optional_reads : (t : TermTree) (rest : List ℕ) → Reads (BeginsWithTerm bytes) t rest → Reads (BeginsWithOptionalTerm true bytes) (Some t) rest
  optional_reads t rest reads = record {
    form = reads.form;
    only_value = λ v r h. let w = inner_term v r h in w.1 ∙ ap (λ x. Some x) (reads.only_value w.0 r w.2);
    only_rest = λ v r h. let w = inner_term v r h in reads.only_rest w.0 r w.2;
  }

  pub no_optional : NoForm (BeginsWithTerm bytes) → NoForm (BeginsWithOptionalTerm true bytes)
  no_optional missing = λ v r h. let w = inner_term v r h in missing w.0 r w.2
