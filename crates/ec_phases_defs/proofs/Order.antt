-- The statements of a source stand in the order of the text.
use Rattle.std.proofs.Common.{◌≡◌, ◌≤◌, ◌<◌, ℕ, suc, true, nat_lt, List, [], ◌∷◌, Result, Ok, Err, refl, sym, ap, ◌∙◌, subst, arith}
use Rattle.std.specs.Prelude.{⊤}
use Rattle.std.proofs.lemmas.Bool.{and_from}
use Rattle.std.proofs.lemmas.Bool.Decides.{nat_tests}
use Rattle.ec_base.specs.declared.line.Line.{Line}
use Rattle.ec_base.specs.declared.stop.Stop.{Stop}
use Rattle.ec_ctypes.specs.declared.text.piece.Piece.{Piece}
use Rattle.ec_ctypes.specs.trees.Embedded.{EmbData}
use Rattle.ec_ctypes.specs.trees.Units.{UnitData}
use Rattle.ec_language.specs.Letters.{Text}
use Rattle.ec_embedded.specs.Answers.{placed}
use Rattle.ec_embedded.specs.Findings.{Answer}
use Rattle.ec_whenever.specs.Tables.{is_behind, are_in_order}
use Rattle.ec_host_defs.specs.Statements.{with_statement, with_statements}
use Rattle.ec_phases_defs.specs.Sources.{ReadsStatements, end, other, stops, statement, ReadsTree, refused, statements}
use Rattle.ec_phases_defs.proofs.Places.{Rising, are_numbered}

-- they stand at this place or behind it, each behind the one before it
abbrev InOrder : ℕ → List EmbData → Type 0
InOrder place [] = ⊤
InOrder place (e ∷ es) = (place ≤ e.place) × InOrder (suc e.place) es

less_is_true : (a b : ℕ) → a < b → nat_lt a b ≡ true
less_is_true a b h = grind (arith, nat_tests)

stand_behind : (place q : ℕ) (es : List EmbData) → place < q → InOrder q es → is_behind place es ≡ true
stand_behind place q [] h r = refl
stand_behind place q (e ∷ es) h r =
    let first = r.0 in
    and_from (nat_lt place e.place) (is_behind place es) (less_is_true place e.place (omega (arith, h, first))) (stand_behind place (suc e.place) es (omega (arith, h, first)) r.1)

in_order : (place : ℕ) (es : List EmbData) → InOrder place es → are_in_order es ≡ true
in_order place [] r = refl
in_order place (e ∷ es) r = and_from (is_behind e.place es) (are_in_order es) (stand_behind e.place (suc e.place) es (omega arith) r.1) (in_order (suc e.place) es r.1)

-- a statement has the place of its token
has_place : (line : Line) (n : ℕ) (e : EmbData) (a : Answer) → ◌≡◌ {A = Result EmbData Stop} (Ok e) (placed line n a) → e.place ≡ n
has_place line n e (Ok s) same = let k : e ≡ record { line = line; place = n; at = s.at; kind = s.kind } = cc in ap (λ x. x.place) k
has_place line n e (Err stop) same = absurd (cc)

others_ok : (e : EmbData) (others : Result (List EmbData) Stop) (es : List EmbData) → with_statement (Ok e) others ≡ Ok es → (fs : List EmbData) × (others ≡ Ok fs) × (es ≡ e ∷ fs)
others_ok e (Ok fs) es same = let k : e ∷ fs ≡ es = cc in (fs, refl, sym k)
others_ok e (Err stop) es same = absurd (cc)

places_kept : (place : ℕ) (ps : List Piece) (ns : List ℕ) (answer : Result (List EmbData) Stop) → ReadsStatements ps ns answer → Rising place ns
    → (es : List EmbData) → answer ≡ Ok es → InOrder place es
places_kept place _ _ _ (end ns) r es e = let k : [] ≡ es = cc in subst (InOrder place) k tt
places_kept place _ _ _ (other p ps ns answer isnt h) r es e = places_kept place ps ns answer h r es e
places_kept place _ _ _ (stops p ps n ns stop is x) r es e = absurd (cc (e))
places_kept place _ _ _ (statement p ps n ns s others answer is x h same) r es e =
    let o = others_ok s others es (sym same ∙ e) in
    let at : s.place ≡ n = has_place p.line n s x.answer x.is in
    let first = r.0 in
    subst (InOrder place) (sym o.2) (omega (arith, at, first), places_kept (suc s.place) ps ns others h (subst (λ m. Rising (suc m) ns) (sym at) r.1) o.0 o.1)

with_ok : (u v : UnitData) (es : Result (List EmbData) Stop) → ◌≡◌ {A = Result UnitData Stop} (Ok v) (with_statements u es) → (fs : List EmbData) × (es ≡ Ok fs) × (v.embs ≡ fs)
with_ok u v (Ok fs) same = let k : v ≡ record u { embs = fs } = cc in (fs, refl, ap (λ x. x.embs) k)
with_ok u v (Err stop) same = absurd (cc)

tree_in_order : (text : Text) (answer : Result UnitData Stop) → ReadsTree text answer → (u : UnitData) → answer ≡ Ok u → are_in_order u.embs ≡ true
tree_in_order text _ (refused stop x) u e = absurd (cc (e))
tree_in_order text answer (statements pieces ts v es a small cut lexed derived read same) u e =
    let w = with_ok v u es (sym e ∙ same) in
    let o = in_order 0 w.0 (places_kept 0 pieces _ es read (are_numbered pieces ts lexed).1 w.0 w.1) in
    ap are_in_order w.2 ∙ o

pub stand_in_order : (text : Text) (u : UnitData) → ReadsTree text (Ok u) → are_in_order u.embs ≡ true
stand_in_order text u h = tree_in_order text (Ok u) h u refl
