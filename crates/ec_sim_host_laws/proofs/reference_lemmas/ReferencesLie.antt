-- The references of a statement, one behind the other, are those that are found.
use Rattle.std.proofs.Common.{◌≡◌, ◌∙◌, List, [], ◌∷◌, ◌++◌, take, length, refl, sym, subst}
use Rattle.ec_ctypes.specs.trees.Exprs.{ExprData, integer, identifier, index, member, arrow}
use Rattle.ec_ctypes.specs.trees.Types.{arithmetic}
use Rattle.ec_language.specs.Letters.{Text}
use Rattle.ec_host_defs.specs.Programs.{Denoted, variable_of, names_count}
use Rattle.ec_typing_defs.specs.statement_parts.References.{ReferenceData, References, names_in, all_names}
use Rattle.ec_typing_defs.specs.Embedded as checked
use Rattle.ec_typing_defs.specs.Embedded.{denoted_by, denoted_in}
use Rattle.ec_typing_defs.specs.Operands.{OperandData}
use Rattle.ec_typing_defs.specs.Tables.{find}
use Rattle.ec_typing_defs.specs.Worlds.{Place, World, Rule, or_else, look_up, look_up_in, chain as check_chain}
use Rattle.ec_resolving_defs.specs.Embedded.{reference_rule, reference_of, references_rule}
use Rattle.ec_resolving_defs.specs.Storage.{Storage, ReferenceForm, reached, chain, pure}
use Rattle.ec_direct_defs.specs.Statements.{Around, behind}
use Rattle.ec_sim_statement_laws.specs.expression.Laws.{ExpressionsAreAlike}
use Rattle.ec_sim_statement_laws.specs.expression.Worlds.{AreAlike}
use Rattle.ec_sim_world_laws.specs.place.References.{IsIndex, IsReference, IsTypedEntry, IndexHasType, IndexesHaveTypes, variable_in}
use Rattle.ec_sim_world_laws.specs.place.Statements.{ReferenceIs, ReferencesAre}
use Rattle.ec_sim_host_laws.specs.reference.Found.{AreReferences, AllIndexesHaveTypes, ReferencesFound, ReferencesAreFound, ReferencesAreThere}
use Rattle.ec_sim_host_laws.proofs.reference_lemmas.Parts.{behind_front, first_clean, rest_clean}
use Rattle.ec_sim_host_laws.proofs.reference_lemmas.Staying.{reference_stays, members_stay, references_stay}
use Rattle.ec_sim_host_laws.proofs.reference_lemmas.Making.{reference_leaves, references_leave}
use Rattle.ec_sim_host_laws.proofs.reference_lemmas.Finding.{Agrees, agrees_itself, agrees_there}

-- ---- the names of a reference

-- the first is that of its variable
record BeginsWith (x : Text) (names : List Text) : Type 0 where
  rest : List Text
  is : names ≡ x ∷ rest

begins_with : (e : ExprData) → IsReference e → BeginsWith (variable_in e) (names_in e)
begins_with (identifier x) h = record { rest = []; is = refl }
begins_with (index a b) h = further (begins_with a h.0)
  where
    further : BeginsWith (variable_in a) (names_in a) → BeginsWith (variable_in a) (names_in a ++ names_in b)
    further f = record { rest = f.rest ++ names_in b; is = λ j. f.is j ++ names_in b }
begins_with (member e m) h = begins_with e h
begins_with (arrow e m) h = begins_with e h
begins_with _ h = absurd h

-- so it is what the first name denotes, whatever stands behind
variable_first : (w : World) (e : ExprData) → IsReference e → (names : List Text) (ds : Denoted)
    → variable_of (take (names_count e) (denoted_in w (names_in e ++ names) ++ ds)) ≡ denoted_by (look_up (variable_in e) w)
variable_first w e h names ds = of_first (begins_with e h)
  where
    of_first : BeginsWith (variable_in e) (names_in e)
        → variable_of (take (names_count e) (denoted_in w (names_in e ++ names) ++ ds)) ≡ denoted_by (look_up (variable_in e) w)
    of_first f = λ j. variable_of (take (length (f.is j)) (denoted_in w (f.is j ++ names) ++ ds))

-- ---- one reference and those behind it

-- nothing is wrong with the first, nor with the others
module _ (at : Place) (w : World) (r : ReferenceData) (rs : References) (h : AreReferences (r ∷ rs)) where
  abbrev others : OperandData → Rule (Unit {0})
  others o = check_chain (checked.members_rule at r.is_host o.type) (λ u. checked.references_rule at rs)

  pub this_clean : (checked.references_rule at (r ∷ rs) w).found ≡ [] → (checked.reference_rule at r.value w).found ≡ []
  this_clean clean = first_clean (checked.reference_rule at r.value) others w clean

  pub more_clean : (checked.references_rule at (r ∷ rs) w).found ≡ [] → (checked.references_rule at rs w).found ≡ []
  more_clean clean = rest_clean (checked.members_rule at r.is_host (checked.reference_rule at r.value w).answer.type) (λ u. checked.references_rule at rs) w
      (members_stay at r.is_host (checked.reference_rule at r.value w).answer.type)
      (rest_clean (checked.reference_rule at r.value) others w (reference_stays at r.value h.0) clean)

pub forms_are : (at : Place) (s : Storage) (w : World) (r : ReferenceData) (rs : References) → AreReferences (r ∷ rs)
    → (references_rule at (r ∷ rs) s w).answer ≡ reference_of (reference_rule at r.value s w).answer ∷ (references_rule at rs s w).answer
unfolding chain pure
forms_are at s w r rs h =
    let first = reference_leaves at r.value h.0 in
    λ j. reference_of (reference_rule at r.value s w).answer ∷ (references_rule at rs (first.storage s w j) (first.world s w j)).answer

module _ (at there : Place) (s t : Storage) (w v : World) (look : (x : Text) → look_up x v ≡ look_up x w)
    (agree : (e : ExprData) → IsReference e → (checked.reference_rule at e w).found ≡ [] → Agrees at there s t w v e) where
  index_typed : (b : ExprData) → IsIndex b → IndexHasType w b → IndexHasType v b
  index_typed (integer n (arithmetic a)) h typed = tt
  index_typed (identifier x) h typed = subst IsTypedEntry (sym (look x)) typed
  index_typed _ h typed = absurd h

  indexes_typed : (e : ExprData) → IsReference e → IndexesHaveTypes w e → IndexesHaveTypes v e
  indexes_typed (identifier x) h typed = tt
  indexes_typed (index a b) h typed = (indexes_typed a h.0 typed.0, index_typed b h.1 typed.1)
  indexes_typed (member e m) h typed = indexes_typed e h typed
  indexes_typed (arrow e m) h typed = indexes_typed e h typed
  indexes_typed _ h typed = absurd h

  abbrev around : List Text → Denoted → List ReferenceForm → Around
  around names ds forms = record { denoted = denoted_in w names ++ ds; references = forms }

  reference_is : (e : ExprData) → IsReference e → IndexesHaveTypes w e → (checked.reference_rule at e w).found ≡ [] → (names : List Text) (ds : Denoted)
      (forms : List ReferenceForm) → ReferenceIs there t v e (around (names_in e ++ names) ds (reference_of (reference_rule at e s w).answer ∷ forms))
  reference_is e h typed clean names ds forms = of_agreeing (agree e h clean)
    where
      of_agreeing : Agrees at there s t w v e → ReferenceIs there t v e (around (names_in e ++ names) ds (reference_of (reference_rule at e s w).answer ∷ forms))
      of_agreeing a = record {
        form = h;
        indexes = indexes_typed e h typed;
        clean = a.clean;
        variable = variable_first w e h names ds ∙ sym (λ j. denoted_by (look (variable_in e) j));
        address = a.address;
      }

  pub references_are : (rs : References) → AreReferences rs → AllIndexesHaveTypes w rs → (checked.references_rule at rs w).found ≡ [] → (ds : Denoted)
      (more : List ReferenceForm) → ReferencesAre there t v rs (around (all_names rs) ds ((references_rule at rs s w).answer ++ more))
  references_are [] h typed clean ds more = tt
  references_are (r ∷ rs) h typed clean ds more =
      subst (λ forms. ReferencesAre there t v (r ∷ rs) (around (names_in r.value ++ all_names rs) ds (forms ++ more))) (sym (forms_are at s w r rs h)) (
        reference_is r.value h.0 typed.0 (this_clean at w r rs h clean) (all_names rs) ds ((references_rule at rs s w).answer ++ more),
        subst (ReferencesAre there t v rs) (sym left) (references_are rs h.1 typed.1 (more_clean at w r rs h clean) ds more),
      )
    where
      left : behind (names_count r.value) 1 (around (names_in r.value ++ all_names rs) ds
          (reference_of (reference_rule at r.value s w).answer ∷ (references_rule at rs s w).answer ++ more))
          ≡ around (all_names rs) ds ((references_rule at rs s w).answer ++ more)
      left = λ j. record {
        denoted = behind_front (λ x. denoted_by (look_up x w)) (names_in r.value) (all_names rs) ds j;
        references = (references_rule at rs s w).answer ++ more;
      }

  pub all_found : (rs : References) → AreReferences rs → AllIndexesHaveTypes w rs → (checked.references_rule at rs w).found ≡ []
      → ReferencesFound at there s t w v rs
  all_found rs h typed clean = record {
    forms = (references_rule at rs s w).answer;
    resolved = λ j. reached (references_rule at rs s w).answer ((references_leave at rs h).storage s w j) ((references_leave at rs h).world s w j);
    unchanged = (references_stay at rs h).world w;
    are = λ ds more. references_are rs h typed clean ds more;
  }

-- ---- where they are written, and in the source itself

look_up_alike : (w v : World) → AreAlike w v → (x : Text) → look_up x v ≡ look_up x w
look_up_alike w v a x = λ j. or_else (find x (a.here j).names) (look_up_in (a.outer j) x)

pub found_there : ExpressionsAreAlike → ReferencesAreFound
found_there alike at there s t w v same a rs h typed clean =
    all_found at there s t w v (look_up_alike w v a) (agrees_there alike at there s t w v same a (look_up_alike w v a)) rs h typed clean

pub found_itself : ReferencesAreThere
found_itself at s w rs h typed clean = all_found at at s s w w (λ x. refl) (agrees_itself at s w) rs h typed clean
