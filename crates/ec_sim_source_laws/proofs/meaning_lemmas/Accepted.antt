-- What is known of a source that is accepted.
use Rattle.std.proofs.Common.{◌≡◌, ℕ, ◌≤◌, if◌then◌else◌, Bool, true, false, List, [], ◌∷◌, length, refl, sym, ap, ◌∙◌, subst, Option, Some, None, Result, Ok, Err}
use Rattle.ec_base.specs.declared.stop.Stop.{Stop}
use Rattle.ec_ctypes.specs.declared.text.piece.Piece.{Piece}
use Rattle.ec_ctypes.specs.trees.Checked.{MarkData, BoundData, TypedData}
use Rattle.ec_ctypes.specs.trees.Embedded.{EmbData}
use Rattle.ec_ctypes.specs.trees.Tokens.{TokenData}
use Rattle.ec_ctypes.specs.trees.Units.{TopData, UnitData}
use Rattle.ec_language.specs.First.{max_text, Violation, comes_before, earlier, first_of, stop_at}
use Rattle.ec_language.specs.Letters.{Text, each}
use Rattle.ec_language.specs.Pieces.{Pieces}
use Rattle.ec_language.specs.Syntax.{TreeOrStop}
use Rattle.ec_language.specs.Tokens.{Tokens}
use Rattle.ec_written_laws.specs.bound.Numbers.{tops_numbers, numbers_from}
use Rattle.ec_host_defs.specs.Statements.{statement_places, with_statements}
use Rattle.ec_phases_defs.specs.Sources.{ReadsStatements, ReadsTree, statements, checked_with, checked_tree, bound_from, BoundProgram, program_with, bound_program, ReadsSource}
use Rattle.ec_host_defs.specs.sections.Answers.{hosts_answer}
use Rattle.ec_written_laws.specs.source.SourceShape.{are_source_tokens, is_source_shape}
use Rattle.ec_typing_defs.specs.statement_parts.Handlers.{marks_in}
use Rattle.ec_typing_defs.specs.Answers.{checked, violations, stop_of_unit, typed_of, answer_by, check_answer}
use Rattle.ec_typing_defs.specs.Worlds.{World}
use Rattle.ec_whenever.specs.Tables.{table_of, are_in_order}
use Rattle.ec_writing_defs.specs.Shapes.{is_byte}

-- ---- the phases one after the other

-- a program with types, of a tree
pub record OfTree (u : UnitData) (t : TypedData) : Type 0 where
  pub hosts : List ℕ
  pub sections : hosts_answer u ≡ Ok hosts
  pub without_stop : stop_of_unit false u ≡ None
  pub is : t ≡ typed_of u hosts (table_of (marks_in u.embs)) (checked false u).world

abbrev typed_in : TypedData → Result TypedData Stop → TypedData
typed_in s (Ok t) = t
typed_in s (Err stop) = s

of_answer : (u : UnitData) (hosts : List ℕ) (handlers : List MarkData) (w : World) (t : TypedData) (x : Option Stop) → answer_by u hosts handlers w x ≡ Ok t
    → (x ≡ None) × (t ≡ typed_of u hosts handlers w)
of_answer u hosts handlers w t None e = (refl, sym (ap (typed_in t) e))
of_answer u hosts handlers w t (Some stop) e = absurd (cc)

of_tree : (u : UnitData) (t : TypedData) → checked_tree (Ok u) ≡ Ok t → OfTree u t
of_tree u t e = go (hosts_answer u) refl e
  where
    go : (a : Result (List ℕ) Stop) → hosts_answer u ≡ a → checked_with u a ≡ Ok t → OfTree u t
    go (Ok hosts) h e =
        let p = of_answer u hosts (table_of (marks_in u.embs)) (checked false u).world t (stop_of_unit false u) e
        in record { hosts = hosts; sections = h; without_stop = p.0; is = p.1 }
    go (Err stop) h e = absurd (cc)

record OfChecked (a : Result UnitData Stop) (t : TypedData) : Type 0 where
  unit : UnitData
  is : a ≡ Ok unit
  made : OfTree unit t

of_checked : (a : Result UnitData Stop) (t : TypedData) → checked_tree a ≡ Ok t → OfChecked a t
of_checked (Ok u) t e = record { unit = u; is = refl; made = of_tree u t e }
of_checked (Err stop) t e = absurd (cc)

abbrev program_in : BoundProgram → Result BoundProgram Stop → BoundProgram
program_in p (Ok q) = q
program_in p (Err stop) = p

record OfBound (a : Result TypedData Stop) (p : BoundProgram) : Type 0 where
  typed : a ≡ Ok p.program
  bound : bound_from p.program 0 p.program.unit.embs ≡ Ok p.bounds

of_bounds : (t : TypedData) (bs : Result (List BoundData) Stop) (p : BoundProgram) → bound_from t 0 t.unit.embs ≡ bs → program_with t bs ≡ Ok p → OfBound (Ok t) p
of_bounds t (Ok bs) p h e =
    let q : BoundProgram = record { program = t; bounds = bs }
    in subst (λ x. OfBound (Ok t) x) (ap (program_in q) e) (record { typed = refl; bound = h })
of_bounds t (Err stop) p h e = absurd (cc)

of_bound : (a : Result TypedData Stop) (p : BoundProgram) → bound_program a ≡ Ok p → OfBound a p
of_bound (Ok t) p e = of_bounds t (bound_from t 0 t.unit.embs) p refl e
of_bound (Err stop) p e = absurd (cc)

-- ---- the tree of a source

-- its tree is found, and its program is that of the tree
pub record OfSource (text : Text) (p : BoundProgram) : Type 0 where
  pub tree : ReadsTree text (Ok p.program.unit)
  pub made : OfTree p.program.unit p.program
  pub bound : bound_from p.program 0 p.program.unit.embs ≡ Ok p.bounds

unit_is : (u : UnitData) (t : TypedData) → OfTree u t → t.unit ≡ u
unit_is u t m = ap (λ (x : TypedData). x.unit) m.is

pub of_source : (text : Text) (p : BoundProgram) → ReadsSource text (Ok p) → OfSource text p
of_source text p r =
    let b = of_bound r.0 p (sym r.2) in
    let c = of_checked r.1.0 p.program (sym r.1.2 ∙ b.typed) in
    let same = unit_is c.unit p.program c.made in
    record {
      tree = subst (λ u. ReadsTree text (Ok u)) (sym same) (subst (ReadsTree text) c.is r.1.1);
      made = subst (λ u. OfTree u p.program) (sym same) c.made;
      bound = b.bound;
    }

-- ---- how its tree is read

abbrev unit_in : UnitData → Result UnitData Stop → UnitData
unit_in u (Ok x) = x
unit_in u (Err stop) = u

-- its pieces, tokens and statements
pub record IsReadTree (text : Text) (v : UnitData) : Type 0 where
  pub pieces : List Piece
  pub tokens : List TokenData
  pub unit : UnitData
  pub short : length text ≤ max_text
  pub in_pieces : Pieces text pieces
  pub in_tokens : Tokens false pieces tokens
  pub derived : TreeOrStop tokens (Ok unit)
  pub statements : ReadsStatements pieces (statement_places tokens) (Ok v.embs)
  pub same : v ≡ record unit { embs = v.embs }

read_by : (text : Text) (v : UnitData) (pieces : List Piece) (ts : List TokenData) (u : UnitData) (es : Result (List EmbData) Stop) → length text ≤ max_text → Pieces text pieces → Tokens false pieces ts
    → TreeOrStop ts (Ok u) → ReadsStatements pieces (statement_places ts) es → Ok v ≡ with_statements u es → IsReadTree text v
read_by text v pieces ts u (Ok es) l c x is r e =
    let same : record u { embs = es } ≡ v = sym (ap (unit_in v) e)
    in subst (λ q. IsReadTree text q) same (record { pieces = pieces; tokens = ts; unit = u; short = l; in_pieces = c; in_tokens = x; derived = is; statements = r; same = refl })
read_by text v pieces ts u (Err stop) l c x is r e = absurd (cc)

pub read_tree : (text : Text) (v : UnitData) → ReadsTree text (Ok v) → IsReadTree text v
read_tree text v (statements pieces ts u es answer l c x is r e) = read_by text v pieces ts u es l c x is r e

-- ---- without a violation

none_first : (vs : List Violation) → stop_at (first_of vs) ≡ None → vs ≡ []
none_first [] e = refl
none_first (v ∷ vs) e = absurd (go (first_of vs) e)
  where
    go : (x : Option Violation) → stop_at (earlier v x) ≡ None → ⊥
    go None h = absurd (cc)
    go (Some u) h = by_test (comes_before u v) h
      where
        by_test : (b : Bool) → stop_at (if b then Some u else Some v) ≡ None → ⊥
        by_test true k = absurd (cc)
        by_test false k = absurd (cc)

pub no_violation : (u : UnitData) → stop_of_unit false u ≡ None → violations false u ≡ []
no_violation u e = none_first (violations false u) e

-- ---- what other laws tell of it

-- Statements stand in its tree in their order, and it has the shape of a source
module _ (numbered : (pieces : List Piece) (ts : List TokenData) (u : UnitData) (es : List EmbData) → Tokens false pieces ts → TreeOrStop ts (Ok u) → ReadsStatements pieces (statement_places ts) (Ok es)
    → tops_numbers u.tops [] ≡ numbers_from 0 (length es))
    (source_tokens : (text : Text) (pieces : List Piece) (ts : List TokenData) → each is_byte text ≡ true → length text ≤ max_text → Pieces text pieces → Tokens false pieces ts → are_source_tokens ts ≡ true)
    (derived_shape : (ts : List TokenData) (u : UnitData) → are_source_tokens ts ≡ true → TreeOrStop ts (Ok u) → is_source_shape u ≡ true) where
  pub numbers_of : (text : Text) (v : UnitData) → ReadsTree text (Ok v) → tops_numbers v.tops [] ≡ numbers_from 0 (length v.embs)
  numbers_of text v r =
      let x = read_tree text v r
      in ap (λ (u : UnitData). tops_numbers u.tops []) x.same ∙ numbered x.pieces x.tokens x.unit v.embs x.in_tokens x.derived x.statements

  pub shape_of : (text : Text) (v : UnitData) → each is_byte text ≡ true → ReadsTree text (Ok v) → is_source_shape v ≡ true
  shape_of text v b r =
      let x = read_tree text v r
      in ap is_source_shape x.same ∙ derived_shape x.tokens x.unit (source_tokens text x.pieces x.tokens b x.short x.in_pieces x.in_tokens) x.derived
