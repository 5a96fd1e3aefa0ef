-- The prepared statements of a connection, by the places of their names.
use Rattle.std.proofs.Common.{◌≡◌, ℕ, suc, ◌+◌, Bool, true, false, List, [], ◌∷◌, ◌++◌, get_or, add-one, Option, Some, None, refl, sym, subst, ◌∙◌}
use Rattle.std.specs.Prelude.{option_map, slice_set}
use Rattle.std.specs.List.{remove}
use Rattle.ec_call_defs.specs.Outcomes.{Text}
use Rattle.ec_call_defs.specs.Connections.{same_name}
use Rattle.ec_call_defs.specs.Preparing.{with_text, without_text}
use Rattle.ec_call_defs.specs.Running.{prepared_text}
use Rattle.ec_runtime.specs.declared.prepared.Prepared.{Prepared}
use Rattle.ec_runtime.specs.Prepared.{prepared_view, prepared_views, place_of}

module _ (name : Text) where
  abbrev Same : Prepared → Bool → Type 0
  Same p b = same_name p.name name ≡ b

  abbrev tested : Bool → List Prepared → Option ℕ
  tested b ps = elim b [ true ↦ Some 0 | false ↦ option_map (λ n. n + 1) (place_of name (prepared_views ps)) ]

  -- a name that stands somewhere is that of the first, or stands behind it
  at_place : (P : List Prepared → ℕ → Type 0) → ((p : Prepared) (ps : List Prepared) → Same p true → P (p ∷ ps) 0)
      → ((p : Prepared) (ps : List Prepared) (n : ℕ) → Same p false → P ps n → P (p ∷ ps) (suc n))
      → (ps : List Prepared) (at : ℕ) → place_of name (prepared_views ps) ≡ Some at → P ps at
  at_place P here there [] at e = cc
  at_place P here there (p ∷ ps) at e = by_test (λ n q. at_place P here there ps n q) (same_name p.name name) refl e
    where
      behind : ((n : ℕ) → place_of name (prepared_views ps) ≡ Some n → P ps n) → (o : Option ℕ) → place_of name (prepared_views ps) ≡ o → Same p false → option_map (λ n. n + 1) o ≡ Some at → P (p ∷ ps) at
      behind later None q t e = cc
      behind later (Some n) q t e = let same : n + 1 ≡ at = cc in subst (P (p ∷ ps)) (sym (add-one n) ∙ same) (there p ps n t (later n q))

      by_test : ((n : ℕ) → place_of name (prepared_views ps) ≡ Some n → P ps n) → (b : Bool) → Same p b → tested b ps ≡ Some at → P (p ∷ ps) at
      by_test later true t e = let same : 0 ≡ at = cc in subst (P (p ∷ ps)) same (here p ps t)
      by_test later false t e = behind later (place_of name (prepared_views ps)) refl t e

  -- a name that stands nowhere isn't that of the first
  no_place : (Q : List Prepared → Type 0) → Q [] → ((p : Prepared) (ps : List Prepared) → Same p false → Q ps → Q (p ∷ ps))
      → (ps : List Prepared) → place_of name (prepared_views ps) ≡ None → Q ps
  no_place Q none more [] e = none
  no_place Q none more (p ∷ ps) e = by_test (λ q. no_place Q none more ps q) (same_name p.name name) refl e
    where
      behind : (place_of name (prepared_views ps) ≡ None → Q ps) → (o : Option ℕ) → place_of name (prepared_views ps) ≡ o → Same p false → option_map (λ n. n + 1) o ≡ None → Q (p ∷ ps)
      behind later None q t e = more p ps t (later q)
      behind later (Some n) q t e = cc

      by_test : (place_of name (prepared_views ps) ≡ None → Q ps) → (b : Bool) → Same p b → tested b ps ≡ None → Q (p ∷ ps)
      by_test later true t e = cc
      by_test later false t e = behind later (place_of name (prepared_views ps)) refl t e

  pub text_there : (ps : List Prepared) (at : ℕ) → place_of name (prepared_views ps) ≡ Some at → (d : Prepared) → prepared_text name (prepared_views ps) ≡ Some (get_or ps at d).text
  text_there = at_place (λ ps at. (d : Prepared) → prepared_text name (prepared_views ps) ≡ Some (get_or ps at d).text)
      (λ p ps t d j. elim (t j) [ true ↦ Some p.text | false ↦ prepared_text name (prepared_views ps) ])
      (λ p ps n t h d. (λ j. elim (t j) [ true ↦ Some p.text | false ↦ prepared_text name (prepared_views ps) ]) ∙ h d)

  pub text_missing : (ps : List Prepared) → place_of name (prepared_views ps) ≡ None → prepared_text name (prepared_views ps) ≡ None
  text_missing = no_place (λ ps. prepared_text name (prepared_views ps) ≡ None) refl
      (λ p ps t h. (λ j. elim (t j) [ true ↦ Some p.text | false ↦ prepared_text name (prepared_views ps) ]) ∙ h)

  module _ (text : Text) where
    abbrev new : Prepared
    new = record { name = name; text = text }

    abbrev put : Bool → Prepared → List Prepared → List (Text × Text)
    put b p ps = elim b [ true ↦ (name, text) ∷ prepared_views ps | false ↦ prepared_view p ∷ with_text name text (prepared_views ps) ]

    pub kept_there : (ps : List Prepared) (at : ℕ) → place_of name (prepared_views ps) ≡ Some at → prepared_views (slice_set ps at new) ≡ with_text name text (prepared_views ps)
    kept_there = at_place (λ ps at. prepared_views (slice_set ps at new) ≡ with_text name text (prepared_views ps))
        (λ p ps t. λ j. put (sym t j) p ps)
        (λ p ps n t h. (λ j. prepared_view p ∷ h j) ∙ (λ j. put (sym t j) p ps))

    pub kept_behind : (ps : List Prepared) → place_of name (prepared_views ps) ≡ None → prepared_views (ps ++ new ∷ []) ≡ with_text name text (prepared_views ps)
    kept_behind = no_place (λ ps. prepared_views (ps ++ new ∷ []) ≡ with_text name text (prepared_views ps)) refl
        (λ p ps t h. (λ j. prepared_view p ∷ h j) ∙ (λ j. put (sym t j) p ps))

  abbrev cut : Bool → Prepared → List Prepared → List (Text × Text)
  cut b p ps = elim b [ true ↦ prepared_views ps | false ↦ prepared_view p ∷ without_text name (prepared_views ps) ]

  pub forgotten : (ps : List Prepared) (at : ℕ) → place_of name (prepared_views ps) ≡ Some at → prepared_views (remove ps at) ≡ without_text name (prepared_views ps)
  forgotten = at_place (λ ps at. prepared_views (remove ps at) ≡ without_text name (prepared_views ps))
      (λ p ps t. λ j. cut (sym t j) p ps)
      (λ p ps n t h. (λ j. prepared_view p ∷ h j) ∙ (λ j. cut (sym t j) p ps))

  pub nothing_forgotten : (ps : List Prepared) → place_of name (prepared_views ps) ≡ None → prepared_views ps ≡ without_text name (prepared_views ps)
  nothing_forgotten = no_place (λ ps. prepared_views ps ≡ without_text name (prepared_views ps)) refl
      (λ p ps t h. (λ j. prepared_view p ∷ h j) ∙ (λ j. cut (sym t j) p ps))
