-- What is known and stored behind a function.
use Rattle.std.proofs.Common.{◌≡◌, ◌∙◌, suc, ◌+◌, Bool, List, [], ◌∷◌, ◌++◌, length, Option, refl, sym, ap}
use Rattle.std.specs.Prelude.{is_some}
use Rattle.ec_ctypes.specs.trees.Types.{TyData}
use Rattle.ec_ctypes.specs.trees.Embedded.{EmbData}
use Rattle.ec_ctypes.specs.trees.Units.{FuncData, func_top}
use Rattle.ec_typing_defs.specs.Statements.{type_or_void}
use Rattle.ec_typing_defs.specs.Tables.{put}
use Rattle.ec_typing_defs.specs.Programs as checked
use Rattle.ec_typing_defs.specs.Programs.{kept, may_be_result, result_rule, put_outside, is_int}
use Rattle.ec_typing_defs.specs.Worlds.{Place, ScopeData, World, number_as, left, enter, leave, change}
use Rattle.ec_meaning_defs.specs.observed.Run.{IsFront}
use Rattle.ec_resolving_defs.specs.Programs.{params}
use Rattle.ec_resolving_defs.specs.Storage.{nowhere, Storage, Reached, LibraryCall, chain, pure, checks, ask, stored, arrange}
use Rattle.ec_sim_world_laws.specs.growth.Growth.{Grows}
use Rattle.ec_sim_world_laws.specs.closing.Closing.{IsTyped}
use Rattle.ec_sim_world_laws.proofs.growth_lemmas.Rules.{begins_joined, begins_further, leave_grows}
use Rattle.ec_sim_world_laws.proofs.known_lemmas.EntriesTables.{put_twice}
use Rattle.ec_sim_world_laws.proofs.known_lemmas.SitesRules.{counts_one, counts_same}
use Rattle.ec_sim_world_laws.proofs.known_lemmas.SitesChecks.{leave_still}
use Rattle.ec_sim_program_laws.proofs.types_lemmas.Fits.{FitsTop}
use Rattle.ec_sound_defs.specs.Sound.{Signature}
use Rattle.ec_sound_statement_laws.proofs.Scopes.{left_here, left_outer}
use Rattle.ec_sound_statement_laws.proofs.Sites.{Sites, params_sites}
use Rattle.ec_sound_program_laws.specs.Plain.{BodyIsPlain}
use Rattle.ec_sound_program_laws.proofs.Heads.{behind, unfinished, opened, placed, listed, entry, inside}
use Rattle.ec_sound_program_laws.proofs.Making.{made_of, made_behind}
use Rattle.ec_sound_program_laws.proofs.Parameters.{params_calls}

-- ---- behind its result

longer : {A : Type 0} (xs : List A) (x : A) → length (xs ++ x ∷ []) ≡ suc (length xs)
longer [] x = refl
longer (y ∷ ys) x = ap (λ n. suc n) (longer ys x)

both_longer : {A B : Type 0} (xs : List A) (ys : List B) (x : A) (y : B) → length xs ≡ length ys → length (xs ++ x ∷ []) ≡ length (ys ++ y ∷ [])
both_longer xs ys x y e = longer xs x ∙ ap (λ n. suc n) e ∙ sym (longer ys y)

left_types : (w : World) → (left w).types ≡ w.types
unfolding leave change
left_types w = leave_still.types w

pub left_grows : (w : World) → Grows w (left w)
unfolding leave change
left_grows w = leave_grows.grows w

-- where it begins at such a result
pub record Ends (f : FuncData) (at : Place) (r : Option TyData) (s : Storage) (w : World) (z : Reached (Unit {0})) : Type 0 where
  pub names : z.world.here.names ≡ put f.name (entry f at r s w) w.here.names
  pub outer : z.world.outer ≡ w.outer
  pub sites : IsFront s.sites z.storage.sites
  pub counts : length s.sites ≡ length w.types → length z.storage.sites ≡ length z.world.types
  pub defined : z.storage.defined ≡ s.defined
  pub block : z.storage.block ≡ s.block
  pub calls_grow : IsFront s.calls z.storage.calls

-- each declaration so far has its site before its parameters
pub placed_counts : (f : FuncData) (at : Place) (r : Option TyData) (s : Storage) (w : World) → length s.sites ≡ length w.types → length (placed f at r s w).sites ≡ length (opened f at r s w).types
placed_counts f at r s w e = both_longer s.sites w.types nowhere (type_or_void r) e

module _ (gs : List Signature) (calls : List LibraryCall) (written : Bool) where
  -- its parameters
  pub listed_sites : (f : FuncData) (at : Place) → Sites gs (length f.params + 0) 0 (params at (is_some f.body) f.params)
  listed_sites f at = params_sites gs 0 at (is_some f.body) f.params

  -- and behind them
  pub listed_counts : (f : FuncData) (at : Place) (r : Option TyData) (s : Storage) (w : World) → length s.sites ≡ length w.types → length (listed f at r s w).storage.sites ≡ length (listed f at r s w).world.types
  listed_counts f at r s w e =
      let o = listed f at r s w in
      counts_same (length o.storage.sites) (length o.world.types)
      ((listed_sites f at).leads.counts (placed f at r s w) (opened f at r s w) (counts_one (length (placed f at r s w).sites) (length (opened f at r s w).types) (placed_counts f at r s w e)))

  pub listed_begins : (f : FuncData) (at : Place) (r : Option TyData) (s : Storage) (w : World) → IsFront s.sites (listed f at r s w).storage.sites
  listed_begins f at r s w =
      begins_further s.sites (s.sites ++ nowhere ∷ []) (listed f at r s w).storage.sites (begins_joined s.sites (nowhere ∷ [])) ((listed_sites f at).leads.begins (placed f at r s w) (opened f at r s w))

  -- the scope of its name, behind its parameters
  abbrev pub named : (f : FuncData) (at : Place) (r : Option TyData) (s : Storage) (w : World) → ScopeData
  named f at r s w = record { names = put f.name (entry f at r s w) (put f.name (unfinished f at r s w) w.here.names); tags = w.here.tags }

  pub listed_outer : (f : FuncData) (at : Place) (r : Option TyData) (s : Storage) (w : World) → (inside f at r s w).outer ≡ named f at r s w ∷ w.outer
  listed_outer f at r s w = ap (λ os. put_outside f.name (entry f at r s w) os) ((listed_sites f at).outer (placed f at r s w) (opened f at r s w))

  pub ends : (es : List EmbData) (f : FuncData) (at : Place) (r : Option TyData) (s : Storage) (w : World) → IsTyped r → FitsTop (func_top f) → BodyIsPlain f.body → Ends f at r s w (behind es f at r s w)
  unfolding chain checks ask stored arrange pure enter leave change number_as checked.begin_function checked.know_function
  ends es f at r s w typed h p =
      let o = listed f at r s w in
      let x = inside f at r s w in
      let m = made_of es r f.name o.answer f.body o.storage x in
      let b = made_behind gs calls written es r f.name o.answer f.body typed h.3 p o.storage x in
      let out : m.world.outer ≡ named f at r s w ∷ w.outer = b.outer ∙ listed_outer f at r s w in
      record {
        names = ap (λ sc. sc.names) (left_here m.world (named f at r s w) w.outer out) ∙ put_twice f.name (unfinished f at r s w) (entry f at r s w) w.here.names;
        outer = left_outer m.world (named f at r s w) w.outer out;
        sites = begins_further s.sites o.storage.sites m.storage.sites (listed_begins f at r s w) b.sites;
        counts = λ e. b.counts (listed_counts f at r s w e) ∙ sym (ap (λ ts. length ts) (left_types m.world));
        defined = b.defined ∙ (listed_sites f at).makes.defined (placed f at r s w) (opened f at r s w);
        block = refl;
        calls_grow = begins_further s.calls o.storage.calls m.storage.calls (params_calls at (is_some f.body) f.params (placed f at r s w) (opened f at r s w)) b.calls_grow;
      }
