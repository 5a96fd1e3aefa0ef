-- The references and uses of the parts of a statement, one behind the other.
use Rattle.std.proofs.Common.{◌≡◌, ◌∙◌, ℕ, ◌+◌, List, [], ◌∷◌, ◌++◌, drop, Option, Some, None, refl, sym, subst}
use Rattle.std.proofs.Math.Nat.{add-zero}
use Rattle.std.proofs.lemmas.List.{drop-drop}
use Rattle.ec_base.specs.declared.fault.FaultKind.{FaultKind}
use Rattle.ec_ctypes.specs.declared.embedded.emb.Item.{Item}
use Rattle.ec_ctypes.specs.trees.Embedded.{HostData, TextArgData, word_arg, host_arg, host_with_indicator, InputData, host_input, const_input, InsData, listed_ins, area_ins, PartData, bytes_part, host_part}
use Rattle.ec_ctypes.specs.trees.Exprs.{ExprData}
use Rattle.ec_host_defs.specs.Faults.{host_faults, host_count, value_part, indicator_part, uses_faults}
use Rattle.ec_host_defs.specs.Programs.{ProgramData, Denoted, names_count}
use Rattle.ec_host_defs.specs.Uses.{RoleData, input_role, output_role, item_role, UseData, Uses, text_uses, text_option_uses, input_uses, part_uses, output_uses, get_uses, set_uses, each_uses, ins_uses}
use Rattle.ec_typing_defs.specs.statement_parts.References.{References, of_host, of_text, of_text_option, of_input, of_part, of_get_item, of_set_item, of_all, of_ins}
use Rattle.ec_typing_defs.specs.Worlds.{Place, World}
use Rattle.ec_resolving_defs.specs.Storage.{Storage}
use Rattle.ec_direct_defs.specs.Statements.{Around, Made, behind, each_of, host_leaves, input, part, text_arg, text_option, sent, get_leaves, set_inputs}
use Rattle.ec_sim_world_laws.specs.place.Statements.{ReferencesAre}

-- ---- empty lists

abbrev IsEmpty : {A : Type 0} → List A → Type 0
IsEmpty [] = Unit {0}
IsEmpty (x ∷ xs) = ⊥

pub some_not : {A C : Type 0} {x : A} {xs : List A} → x ∷ xs ≡ [] → C
some_not e = absurd (subst IsEmpty (sym e) tt)

pub nil_front : {A : Type 0} (xs ys : List A) → xs ++ ys ≡ [] → xs ≡ []
nil_front [] ys e = refl
nil_front (x ∷ xs) ys e = some_not e

pub nil_back : {A : Type 0} (xs ys : List A) → xs ++ ys ≡ [] → ys ≡ []
nil_back [] ys e = e
nil_back (x ∷ xs) ys e = some_not e

-- ---- behind references, and behind uses

abbrev behind_all : References → Around → Around
behind_all [] x = x
behind_all (r ∷ rs) x = behind_all rs (behind (names_count r.value) 1 x)

abbrev behind_uses : Uses → Denoted → Denoted
behind_uses [] ds = ds
behind_uses (u ∷ us) ds = behind_uses us (drop (host_count u.1) ds)

behind_append : (rs qs : References) (x : Around) → behind_all (rs ++ qs) x ≡ behind_all qs (behind_all rs x)
behind_append [] qs x = refl
behind_append (r ∷ rs) qs x = behind_append rs qs (behind (names_count r.value) 1 x)

uses_append : (us vs : Uses) (ds : Denoted) → behind_uses (us ++ vs) ds ≡ behind_uses vs (behind_uses us ds)
uses_append [] vs ds = refl
uses_append (u ∷ us) vs ds = uses_append us vs (drop (host_count u.1) ds)

behind_twice : (n m : ℕ) (x : Around) → behind m 1 (behind n 1 x) ≡ behind (n + m) 2 x
behind_twice n m x = λ j. record { denoted = drop-drop m n x.denoted j; references = drop-drop 1 1 x.references j }

-- What goes on with what is left does so behind these references and these uses
pub record Goes (rs : References) (us : Uses) (f : Around → Around) : Type 0 where
  references : (x : Around) → behind_all rs x ≡ f x
  denoted : (x : Around) → behind_uses us x.denoted ≡ (f x).denoted

goes_on : {rs qs : References} {us vs : Uses} {f g : Around → Around} → Goes rs us f → Goes qs vs g → Goes (rs ++ qs) (us ++ vs) (λ x. g (f x))
goes_on {rs} {qs} {us} {vs} {f} {g} a b = record {
  references = λ x. behind_append rs qs x ∙ (λ j. behind_all qs (a.references x j)) ∙ b.references (f x);
  denoted = λ x. uses_append us vs x.denoted ∙ (λ j. behind_uses vs (a.denoted x j)) ∙ b.denoted (f x);
}

each_goes : {A B : Type 0} (r : A → References) (u : A → Uses) (k : A → Around → Made (List B)) → ((a : A) → Goes (r a) (u a) (λ x. (k a x).left))
    → (as' : List A) → Goes (of_all r as') (each_uses u as') (λ x. (each_of k as' x).left)
each_goes r u k goes [] = record { references = λ x. refl; denoted = λ x. refl }
each_goes r u k goes (a ∷ as') = goes_on (goes a) (each_goes r u k goes as')

-- ---- parts

module _ (p : ProgramData) where
  host_by : (role : RoleData) (v : ExprData) (i : Option ExprData)
      → Goes (of_host (record { value = v; indicator = i })) ((role, record { value = v; indicator = i }) ∷ []) (λ x. (host_leaves p (record { value = v; indicator = i }) x).left)
  host_by role v None = record { references = λ x. λ j. behind (sym (add-zero (names_count v)) j) 1 x; denoted = λ x. refl }
  host_by role v (Some i) = record { references = λ x. behind_twice (names_count v) (names_count i) x; denoted = λ x. refl }

  pub host_goes : (role : RoleData) (h : HostData) → Goes (of_host h) ((role, h) ∷ []) (λ x. (host_leaves p h x).left)
  host_goes role h = host_by role h.value h.indicator

  pub input_goes : (role : RoleData) (i : InputData) → Goes (of_input i) (input_uses role i) (λ x. (input p i x).left)
  input_goes role (host_input h) = host_goes role h
  input_goes role (const_input bytes) = record { references = λ x. refl; denoted = λ x. refl }

  pub part_goes : (a : PartData) → Goes (of_part a) (part_uses a) (λ x. (part p a x).left)
  part_goes (bytes_part bytes) = record { references = λ x. refl; denoted = λ x. refl }
  part_goes (host_part h) = host_goes input_role h

  pub output_goes : (h : HostData) → Goes (of_host h) (output_uses h) (λ x. (host_leaves p h x).left)
  output_goes h = host_goes output_role h

  pub get_goes : (i : Item × HostData) → Goes (of_get_item i) (get_uses i) (λ x. (get_leaves p i x).left)
  get_goes i = host_goes item_role i.1

  pub set_goes : (i : Item × InputData) → Goes (of_set_item i) (set_uses i) (λ x. (set_inputs p i x).left)
  set_goes i = input_goes item_role i.1

  pub text_goes : (a : TextArgData) → Goes (of_text a) (text_uses a) (λ x. (text_arg p a x).left)
  text_goes (word_arg bytes) = record { references = λ x. refl; denoted = λ x. refl }
  text_goes (host_arg e) = record { references = λ x. refl; denoted = λ x. λ j. drop (add-zero (names_count e) j) x.denoted }
  text_goes (host_with_indicator e i) = record { references = λ x. behind_twice (names_count e) (names_count i) x; denoted = λ x. refl }

  pub option_goes : (a : Option TextArgData) → Goes (of_text_option a) (text_option_uses a) (λ x. (text_option p a x).left)
  option_goes None = record { references = λ x. refl; denoted = λ x. refl }
  option_goes (Some a) = text_goes a

  pub parts_go : (ps : List PartData) → Goes (of_all of_part ps) (each_uses part_uses ps) (λ x. (each_of (part p) ps x).left)
  parts_go ps = each_goes of_part part_uses (part p) part_goes ps

  pub ins_go : (ins : InsData) → Goes (of_ins ins) (ins_uses ins) (λ x. (sent p ins x).left)
  ins_go (listed_ins is) = each_goes of_input (input_uses input_role) (input p) (input_goes input_role) is
  ins_go (area_ins a) = text_goes a

-- ---- where they stand

module _ (at : Place) (s : Storage) (w : World) (p : ProgramData) where
  -- these references come next, and no host in these uses is at fault
  pub record Stands (rs : References) (us : Uses) (x : Around) : Type 0 where
    pub references : ReferencesAre at s w rs x
    pub without_fault : uses_faults p us x.denoted ≡ []

  references_front : (rs qs : References) (x : Around) → ReferencesAre at s w (rs ++ qs) x → ReferencesAre at s w rs x
  references_front [] qs x a = tt
  references_front (r ∷ rs) qs x a = (a.0, references_front rs qs (behind (names_count r.value) 1 x) a.1)

  references_back : (rs qs : References) (x : Around) → ReferencesAre at s w (rs ++ qs) x → ReferencesAre at s w qs (behind_all rs x)
  references_back [] qs x a = a
  references_back (r ∷ rs) qs x a = references_back rs qs (behind (names_count r.value) 1 x) a.1

  abbrev pub faults_in : UseData → Denoted → List FaultKind
  faults_in u ds = host_faults p u.0 u.1 (value_part u.1 ds) (indicator_part u.1 ds)

  faults_front : (us vs : Uses) (ds : Denoted) → uses_faults p (us ++ vs) ds ≡ [] → uses_faults p us ds ≡ []
  faults_front [] vs ds e = refl
  faults_front (u ∷ us) vs ds e = both (nil_front (faults_in u ds) (uses_faults p (us ++ vs) (drop (host_count u.1) ds)) e)
      (faults_front us vs (drop (host_count u.1) ds) (nil_back (faults_in u ds) (uses_faults p (us ++ vs) (drop (host_count u.1) ds)) e))
    where
      both : faults_in u ds ≡ [] → uses_faults p us (drop (host_count u.1) ds) ≡ [] → uses_faults p (u ∷ us) ds ≡ []
      both a b = λ j. a j ++ b j

  faults_back : (us vs : Uses) (ds : Denoted) → uses_faults p (us ++ vs) ds ≡ [] → uses_faults p vs (behind_uses us ds) ≡ []
  faults_back [] vs ds e = e
  faults_back (u ∷ us) vs ds e = faults_back us vs (drop (host_count u.1) ds) (nil_back (faults_in u ds) (uses_faults p (us ++ vs) (drop (host_count u.1) ds)) e)

  -- what stands first, and what stands behind it
  pub first : {rs : References} {us : Uses} {f : Around → Around} → Goes rs us f → (qs : References) (vs : Uses) (x : Around) → Stands (rs ++ qs) (us ++ vs) x
      → Stands rs us x
  first {rs} {us} g qs vs x h = record {
    references = references_front rs qs x h.references;
    without_fault = faults_front us vs x.denoted h.without_fault;
  }

  pub rest : {rs : References} {us : Uses} {f : Around → Around} → Goes rs us f → (qs : References) (vs : Uses) (x : Around) → Stands (rs ++ qs) (us ++ vs) x
      → Stands qs vs (f x)
  rest {rs} {us} {f} g qs vs x h = record {
    references = subst (λ y. ReferencesAre at s w qs y) (g.references x) (references_back rs qs x h.references);
    without_fault = subst (λ ds. uses_faults p vs ds ≡ []) (g.denoted x) (faults_back us vs x.denoted h.without_fault);
  }
