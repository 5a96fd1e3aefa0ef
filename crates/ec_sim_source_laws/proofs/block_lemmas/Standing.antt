-- What is known where a statement stands, in the block that is written for it, and behind it.
use Rattle.std.proofs.Common.{◌≡◌, ℕ, Bool, true, false, List, [], ◌∷◌, ◌++◌, refl, sym, subst, Option, Some, None}
use Rattle.std.proofs.lemmas.Bool.{false≢true}
use Rattle.ec_arguments.specs.Arguments.{Call, Arg}
use Rattle.ec_base.specs.declared.line.Line.{Line}
use Rattle.ec_ctypes.specs.trees.Embedded.{EmbData}
use Rattle.ec_ctypes.specs.trees.Exprs.{ExprData}
use Rattle.ec_ctypes.specs.trees.Types.{TyData, void, arithmetic, pointer, array, structure}
use Rattle.ec_ctypes.specs.trees.Units.{UnitData}
use Rattle.ec_language.specs.Letters.{Text}
use Rattle.ec_host_defs.specs.Programs.{ProgramData, Denoted}
use Rattle.ec_typing_defs.specs.Embedded.{denoted_in}
use Rattle.ec_typing_defs.specs.Worlds.{Place, unlisted, begun, listed, MembersData, is_listed, World, entered}
use Rattle.ec_meaning_defs.specs.resolved.Resolved.{Exp}
use Rattle.ec_resolving_defs.specs.Storage.{Storage, StatementForm, ReferenceForm}
use Rattle.ec_direct_defs.specs.Statements.{Around, text_option}
use Rattle.ec_sim_statement_laws.specs.argument.Arguments.{AreArguments}
use Rattle.ec_sim_statement_laws.specs.argument.Bound.{cursor_of, OptionIs, KindIs, IsCall}
use Rattle.ec_sim_world_laws.specs.call.Calls.{AreSeen, StandsThere, IsMadeAlone, next_at, place_passed}
use Rattle.ec_sim_world_laws.specs.call.Pointers.{AreSimple, text_there}
use Rattle.ec_sim_world_laws.specs.closing.Closing.{AreInTheirOrder, HaveTypes, ListedStay}
use Rattle.ec_sim_world_laws.specs.closing.Laws.{WithTypesAreListed, HadTypes}
use Rattle.ec_sim_statement_laws.specs.expression.Worlds.{KeepsReserved, AllKeepReserved, AreAlike}
use Rattle.ec_meaning_defs.specs.observed.Run.{IsFront}
use Rattle.ec_sim_world_laws.specs.growth.Growth.{is_unlisted, Grows}
use Rattle.ec_sim_world_laws.proofs.growth_lemmas.Rules.{begins_itself, begins_further, grows_further}
use Rattle.ec_sim_world_laws.specs.known.Known.{IsFound, AreFound}
use Rattle.ec_sim_world_laws.specs.place.References.{IsDeclared, NamesAreDeclared}
use Rattle.ec_sim_world_laws.specs.place.Structs.{IsListed, EachStruct, EachStructIn, ClosedAreListed, IsWithin}

-- what is used of the laws below
pub record LawsBelow : Type 0 where
  pub grown : (w z : World) → Grows w z → ClosedAreListed w → ClosedAreListed z → IsWithin w z
  pub within : (w v : World) → AreAlike w v → (z : World) → IsWithin w z → IsWithin v z
  pub names : (w v : World) → AreAlike w v → (functions : List ℕ) → NamesAreDeclared w functions → NamesAreDeclared v functions
  pub had_types : HadTypes
  pub with_types : WithTypesAreListed
  pub calls : (p : ProgramData) (g : ExprData → Exp) (prepared : Option Text) (d : Option EmbData) (rs : List ReferenceForm) (e : EmbData) (x : Around)
      → OptionIs p g e.at x → KindIs p g e (cursor_of prepared d e x.denoted rs) (text_option p e.at x).left → IsCall p g prepared d rs e x
  pub made : (t : Storage) (w : World) (g : ExprData → Exp) (is_text : ExprData → Bool) (line : Line) (c : Call ExprData)
      → StandsThere (next_at w line) t (place_passed w) g is_text line.0 c → IsMadeAlone t w g line c
  pub seen : (at : Place) (s : Storage) (w : World) (g : ExprData → Exp) (xs : List (Arg ExprData)) → AreArguments at s w g xs → AreSimple xs → AreSeen at w (text_there at w) xs

-- ---- structs are closed wherever the walk comes to

listed_not : (m : MembersData) → is_listed (Some m) ≡ true → is_unlisted m ≡ false
listed_not unlisted e = absurd (false≢true e)
listed_not begun e = refl
listed_not (listed ms) e = refl

listed_stay : (w z : World) → Grows w z → ListedStay w z
listed_stay w z g = λ k info is e. g.structs k info is (listed_not info.members e)

pub types_here : LawsBelow → (w z : World) → Grows w z → HaveTypes z → HaveTypes w
types_here laws w z g have = laws.had_types w z (listed_stay w z g) have

pub closed_here : LawsBelow → (w z : World) → Grows w z → HaveTypes z → AreInTheirOrder w → ClosedAreListed w
closed_here laws w z g have order = laws.with_types w order (types_here laws w z g have)

-- ---- in a scope further in

pub grows_inside : (w z : World) → Grows w z → Grows (entered w) z
grows_inside w z g = record { written = g.written; defined = g.defined; types = g.types; denoted = g.denoted; closed = g.closed; structs = g.structs }

pub grows_into : (w z : World) → Grows w z → Grows w (entered z)
grows_into w z g = record { written = g.written; defined = g.defined; types = g.types; denoted = g.denoted; closed = g.closed; structs = g.structs }

each_struct : {P Q : ℕ → Type 0} → ((k : ℕ) → P k → Q k) → (t : TyData) → EachStruct P t → EachStruct Q t
each_struct f void h = tt
each_struct f (arithmetic a) h = tt
each_struct f (pointer t) h = tt
each_struct f (array t n) h = each_struct f t h
each_struct f (structure k) h = f k h

each_struct_in : {P Q : ℕ → Type 0} → ((k : ℕ) → P k → Q k) → (t : Option TyData) → EachStructIn P t → EachStructIn Q t
each_struct_in f None h = tt
each_struct_in f (Some t) h = each_struct f t h

listed_inside : (w : World) (k : ℕ) → IsListed w k → IsListed (entered w) k
listed_inside w k h = record { info = h.info; is = h.is; members = h.members; are = h.are }

declared_inside : (w : World) (k : ℕ) (t : Option TyData) → IsDeclared w k t → IsDeclared (entered w) k t
declared_inside w k t h = record { in_table = h.in_table; are_listed = each_struct_in (listed_inside w) t h.are_listed; no_void = h.no_void }

pub names_inside : (w : World) (functions : List ℕ) → NamesAreDeclared w functions → NamesAreDeclared (entered w) functions
names_inside w functions h = record { objects = λ x k global t e. declared_inside w k t (h.objects x k global t e); are_functions = h.are_functions }

-- ---- reserved names

pub reserved_here : {w v : World} → AreAlike w v → KeepsReserved v.here
reserved_here {w} {v} h = subst KeepsReserved (sym h.here) h.reserved_here

pub reserved_outer : {w v : World} → AreAlike w v → AllKeepReserved v.outer
reserved_outer {w} {v} h = subst AllKeepReserved (sym h.outer) h.reserved_outer

-- ---- behind a statement

-- what is known behind the references of a statement with these names
abbrev pub denoting : List Text → World → World
denoting names w = record w { denoted = w.denoted ++ denoted_in w names ∷ [] }

pub alike_behind : (names : List Text) (w v : World) → AreAlike w v → AreAlike (denoting names w) v
alike_behind names w v h = record {
  is_source = h.is_source;
  is_written = h.is_written;
  here = h.here;
  outer = h.outer;
  structs = h.structs;
  closed = h.closed;
  types = h.types;
  defined = h.defined;
  labels = h.labels;
  reserved_here = h.reserved_here;
  reserved_outer = h.reserved_outer;
}

pub grows_denoting : (names : List Text) (w : World) → Grows w (denoting names w)
grows_denoting names w = record {
  written = refl;
  defined = refl;
  types = begins_itself w.types;
  denoted = record { rest = denoted_in w names ∷ []; same = refl };
  closed = begins_itself w.closed;
  structs = λ k info is e. is;
}

-- what was found of statements stays so, and of one more it is
module _ (u : UnitData) (s r : Storage) (w z : World) (g : Grows w z) (sites : IsFront s.sites r.sites) where
  found_still : (f : StatementForm) (row : Denoted) → IsFound u s w f row → IsFound u r z f row
  found_still f row h = record {
    emb = h.emb;
    is_emb = h.is_emb;
    at = h.at;
    storage = h.storage;
    before = h.before;
    known = h.known;
    grows = grows_further h.before w z h.grows g;
    sites = begins_further h.storage.sites s.sites r.sites h.sites sites;
    clean = h.clean;
    are = h.are;
    denoted = h.denoted;
  }

  pub found_behind : (fs : List StatementForm) (rows : List Denoted) (f : StatementForm) (row : Denoted) → AreFound u s w fs rows → IsFound u r z f row → AreFound u r z (fs ++ f ∷ []) (rows ++ row ∷ [])
  found_behind [] [] f row h x = (x, tt)
  found_behind [] (a ∷ rows) f row h x = absurd h
  found_behind (a ∷ fs) [] f row h x = absurd h
  found_behind (a ∷ fs) (b ∷ rows) f row h x = (found_still a b h.0, found_behind fs rows f row h.1 x)
