-- What the keys of a store say of its bindings: a row stands where its principal stands among the keys.
use Rattle.std.proofs.Common.{◌≡◌, ℕ, Bool, List, [], ◌∷◌, ◌++◌, map, get_or, slice_set, Option, Some, None, refl, sym, ap, ◌∙◌}
use Rattle.std.specs.List.{position}
use Rattle.std.specs.Map.{lookup}
use Rattle.std.specs.Option.{option_map}
use Rattle.std.proofs.lemmas.List.{map-append}
use Rattle.std.proofs.lemmas.List.Quantifiers.{position-Some}
use Rattle.indexmap.specs.IndexMap.{insert_entry}
use Rattle.indexmap.proofs.MapLemmas.{Found-position, Missing-position, insert_entry-first, insert_entry-absent}
use Rattle.nal_term.specs.declared.terms.Term.{Term}
use Rattle.nal_term.specs.Trees.{term_tree}
use Rattle.nal_term.specs.TreeKeys.{same_terms, same_terms-Decides}
use Rattle.nal_term.proofs.ForCallers.{keys_in, position_agrees, find_agrees}
use Rattle.goal_store.specs.GoalRows.{HeldPort, PortRow, port_row, is_port, port_place, port_of}
use Rattle.goal_store.proofs.HeldGoals.{map-set_value_at}

abbrev pub same_key : Term → Term → Bool
same_key t u = same_terms (term_tree t) (term_tree u)

module _ (es : List HeldPort) (principal : Term) where
  -- the place of a principal's row
  pub port_place_of_key : port_place (map port_row es) (term_tree principal) ≡ position (same_key principal) (keys_in es)
  port_place_of_key = position_agrees port_row (is_port (term_tree principal)) (same_key principal) es (λ k d within. refl)

  option_itself : (o : Option ℕ) → option_map (λ n. n) o ≡ o
  option_itself None = refl
  option_itself (Some n) = refl

  -- and its port
  pub port_of_key : port_of (map port_row es) (term_tree principal) ≡ lookup (same_key principal) es
  port_of_key =
      find_agrees port_row (is_port (term_tree principal)) (same_key principal) (λ (row : PortRow). row.1) (λ n. n) (λ e. refl) es (λ k d within. refl)
      ∙ option_itself (lookup (same_key principal) es)

  -- what `bind` makes of the bindings
  module _ (port : ℕ) (es' : List HeldPort) (entries : es' ≡ insert_entry same_key es principal port) where
    pub bind_known : (k : ℕ) → port_place (map port_row es) (term_tree principal) ≡ Some k → map port_row es' ≡ slice_set (map port_row es) k (term_tree principal, port)
    bind_known k n =
        let at_key = sym port_place_of_key ∙ n in
        let found = Found-position (same_key principal) es k at_key in
        let stands = position-Some (same_key principal) (keys_in es) k principal at_key in
        let same = sym ((same_terms-Decides (term_tree principal) (term_tree (get_or (keys_in es) k principal))).0 stands.1) in
        ap (map port_row) (entries ∙ insert_entry-first same_key principal port es k found.first)
        ∙ map-set_value_at port_row es k principal port (ap (λ t. (t, port)) same)

    pub bind_fresh : port_place (map port_row es) (term_tree principal) ≡ None → map port_row es' ≡ map port_row es ++ (term_tree principal, port) ∷ []
    bind_fresh n =
        let missing = Missing-position (same_key principal) es (sym port_place_of_key ∙ n) in
        ap (map port_row) (entries ∙ insert_entry-absent same_key principal port es missing.absent) ∙ map-append port_row es ((principal, port) ∷ [])
