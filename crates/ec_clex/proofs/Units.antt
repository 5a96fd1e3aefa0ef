-- The units of a statement, one after the other.
use Rattle.std.proofs.Common.{◌≡◌, ℕ, ◌+◌, ◌-◌, ◌≤◌, Bool, true, false, not, List, ◌∷◌, length, take, drop, Option, Some, sym, ap, ◌∙◌}
use Rattle.std.specs.Prelude.{if◌then◌else◌}
use Rattle.ec_language.specs.Letters.{Text}
use Rattle.ec_language.specs.Line.{newlines}
use Rattle.ec_language.specs.SqlText.{is_sql_gap}
use Rattle.ec_language.specs.Pieces.{solid}
use Rattle.ec_language.specs.SqlTokens.{is_bad_unit, first_bad_line, is_directive, is_executable}
use Rattle.ec_language.specs.ReadPieces.{passed, sql_end, begins_semicolon, begins_gap}
use Rattle.ec_language.specs.ReadTokens.{sql_units}
use Rattle.ec_language.proofs.CWalks.{front_of}
use Rattle.ec_language.proofs.SqlUnits.{sql_sound, sql_gap}
use Rattle.ec_language.proofs.ReadSteps.{sql_units_on}
use Rattle.ec_split.proofs.Walks.{front_slice}

-- a unit at an index, up to its end
pub record UnitAt (t : Text) (at end : ℕ) : Type 0 where
  pub more : begins_semicolon (drop at t) ≡ false
  pub behind : passed (drop end t) ≡ sql_end (drop at t)
  pub order : at ≤ end
  pub within : end ≤ length t

pub unit_on : (t : Text) (at end : ℕ) → UnitAt t at end → sql_units (drop at t) ≡ take (end - at) (drop at t) ∷ sql_units (drop end t)
unit_on t at end u = sql_units_on (drop at t) (drop end t) u.more (sym u.behind) ∙ ap (λ (w : Text). w ∷ sql_units (drop end t)) (front_slice t at end u.order u.within)

pub gap_slice : (t : Text) (at end : ℕ) → UnitAt t at end → is_sql_gap (take (end - at) (drop at t)) ≡ begins_gap (drop at t)
gap_slice t at end u =
    let h = sql_sound (drop at t) (drop end t) (sym u.behind) in
    ap is_sql_gap (sym (front_slice t at end u.order u.within) ∙ front_of (drop at t) h.unit (drop end t) h.whole)
    ∙ sql_gap h.unit (drop end t) h.is ∙ ap begins_gap (sym h.whole)

-- ---- whether the statement is executed

solid_gap : (u : Text) (us : List Text) → is_sql_gap u ≡ true → solid (u ∷ us) ≡ solid us
solid_gap u us e = λ i. if not (e i) then u ∷ solid us else solid us

solid_first : (u : Text) (us : List Text) → is_sql_gap u ≡ false → solid (u ∷ us) ≡ u ∷ solid us
solid_first u us e = λ i. if not (e i) then u ∷ solid us else solid us

pub executable_on : (t : Text) (at end : ℕ) → UnitAt t at end → begins_gap (drop at t) ≡ true → is_executable (sql_units (drop end t)) ≡ is_executable (sql_units (drop at t))
executable_on t at end u g =
    sym (ap is_executable (unit_on t at end u)
    ∙ ap (λ us. not (is_directive us)) (solid_gap (take (end - at) (drop at t)) (sql_units (drop end t)) (gap_slice t at end u ∙ g)))

pub executable_here : (t : Text) (at end : ℕ) (x : Bool) → UnitAt t at end → begins_gap (drop at t) ≡ false
    → ((us : List Text) → x ≡ is_directive (take (end - at) (drop at t) ∷ us)) → not x ≡ is_executable (sql_units (drop at t))
executable_here t at end x u g e =
    let unit = take (end - at) (drop at t) in
    let us = sql_units (drop end t) in
    ap not (e (solid us)) ∙ sym (ap is_executable (unit_on t at end u) ∙ ap (λ us. not (is_directive us)) (solid_first unit us (gap_slice t at end u ∙ g)))

-- ---- the first byte that begins no token

abbrev bad_choice : Bool → ℕ → Text → List Text → Option ℕ
bad_choice x line u us = elim x [ true ↦ Some line | false ↦ first_bad_line (line + newlines u) us ]

pub bad_here : (t : Text) (at end line : ℕ) → UnitAt t at end → is_bad_unit (take (end - at) (drop at t)) ≡ true → Some line ≡ first_bad_line line (sql_units (drop at t))
bad_here t at end line u e =
    sym (ap (first_bad_line line) (unit_on t at end u)
    ∙ ap (λ (x : Bool). bad_choice x line (take (end - at) (drop at t)) (sql_units (drop end t))) e)

pub bad_on : (t : Text) (at end line n : ℕ) → UnitAt t at end → is_bad_unit (take (end - at) (drop at t)) ≡ false → n ≡ newlines (take (end - at) (drop at t))
    → first_bad_line (line + n) (sql_units (drop end t)) ≡ first_bad_line line (sql_units (drop at t))
bad_on t at end line n u e same =
    ap (λ k. first_bad_line (line + k) (sql_units (drop end t))) same
    ∙ sym (ap (first_bad_line line) (unit_on t at end u) ∙ ap (λ (x : Bool). bad_choice x line (take (end - at) (drop at t)) (sql_units (drop end t))) e)
