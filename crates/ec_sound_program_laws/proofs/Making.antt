-- What is made of a function, behind its parameters.
use Rattle.std.proofs.Common.{◌≡◌, ◌∙◌, ℕ, ◌+◌, Bool, true, false, List, [], ◌∷◌, ◌++◌, length, map, Option, Some, None, refl, sym, ap, subst, append-nil, if◌then◌else◌}
use Rattle.std.specs.Prelude.{codes, pos}
use Rattle.ec_ctypes.specs.trees.Types.{TyData}
use Rattle.ec_ctypes.specs.trees.Stmts.{StmtList}
use Rattle.ec_ctypes.specs.trees.Embedded.{EmbData}
use Rattle.ec_language.specs.Letters.{Text, same_text}
use Rattle.ec_memory_defs.specs.Memory.{number}
use Rattle.ec_typing_defs.specs.Programs as checked
use Rattle.ec_typing_defs.specs.Worlds.{World, Out, change, chain as check_chain, pure as check_pure}
use Rattle.ec_meaning_defs.specs.observed.Run.{IsFront}
use Rattle.ec_meaning_defs.specs.resolved.Programs.{Function}
use Rattle.ec_resolving_defs.specs.Agreement.{around_of}
use Rattle.ec_resolving_defs.specs.Programs.{body_rule, function_made, parameter_kind, value_at_end}
use Rattle.ec_resolving_defs.specs.Statements.{objects_in_all, statements}
use Rattle.ec_resolving_defs.specs.Storage.{Storage, Reached, Resolving, LibraryCall, inside_block, chain, pure, checks, stored, arrange}
use Rattle.ec_sim_world_laws.specs.growth.Growth.{Grows}
use Rattle.ec_sim_world_laws.specs.closing.Closing.{IsTyped}
use Rattle.ec_sim_world_laws.proofs.growth_lemmas.Rules.{grows_itself, grows_further, begins_itself}
use Rattle.ec_sim_world_laws.proofs.known_lemmas.SitesRules.{counts_one, counts_same}
use Rattle.ec_sim_program_laws.proofs.types_lemmas.Fits.{FitsBody}
use Rattle.ec_sim_program_laws.proofs.types_lemmas.Rules.{Shallow}
use Rattle.ec_sound_defs.specs.Sorts.{Sort}
use Rattle.ec_sound_defs.specs.Sound.{Signature, Atoms, SoundAll, MayEnd, SoundFunctions}
use Rattle.ec_sound_defs.specs.Written.{library_atoms}
use Rattle.ec_sound_form_laws.specs.Names.{gives_of, signature_of}
use Rattle.ec_sound_statement_laws.specs.Sites.{in_scope}
use Rattle.ec_sound_statement_laws.proofs.Functions.{mapped_count}
use Rattle.ec_sound_statement_laws.proofs.Labels.{labels_stand}
use Rattle.ec_sound_statement_laws.proofs.Sites.{statements_sites}
use Rattle.ec_sound_program_laws.specs.Bodies.{body_around}
use Rattle.ec_sound_program_laws.specs.Plain.{BodyIsPlain}
use Rattle.ec_sound_program_laws.specs.Standing.{IsKnown, IsInside, here_in}
use Rattle.ec_sound_program_laws.proofs.Bodies.{body_is_sound}
use Rattle.ec_sound_program_laws.proofs.Declarations.{declaration_run}
use Rattle.ec_sound_program_laws.proofs.Statements.{statements_run}

abbrev pub made_of : List EmbData → Option TyData → Text → List (Option TyData) → Option StmtList → Resolving (Unit {0})
made_of es r name ps b = chain (body_rule es r b) (λ x. function_made name ps x)

-- what is known and stored behind it, where it begins so
pub record Behind (s : Storage) (w : World) (z : Reached (Unit {0})) (o : Out (Unit {0})) : Type 0 where
  pub world : z.world ≡ o.world
  pub grows : Grows w z.world
  pub outer : z.world.outer ≡ w.outer
  pub sites : IsFront s.sites z.storage.sites
  pub counts : length s.sites ≡ length w.types → length z.storage.sites ≡ length z.world.types
  pub defined : z.storage.defined ≡ s.defined
  pub calls_grow : IsFront s.calls z.storage.calls

-- the signature of a function that is made, none where it has no body
abbrev pub signatures_by : Option StmtList → Signature → List Signature
signatures_by None g = []
signatures_by (Some ss) g = g ∷ []

-- the functions that a rule makes are sound by these signatures
pub record MakesSound (gs : List Signature) (atoms : Atoms) (own : List Signature) (s t : Storage) : Type 0 where
  pub functions : List Function
  pub are : t.functions ≡ s.functions ++ functions
  pub sound : SoundFunctions gs atoms own functions

labels_grow : (w : World) → Grows w (record w { labels = [] })
labels_grow w = record {
  written = refl;
  defined = refl;
  types = begins_itself w.types;
  denoted = begins_itself w.denoted;
  closed = begins_itself w.closed;
  structs = λ k info e u. e;
}

module _ (gs : List Signature) (calls : List LibraryCall) (written : Bool) where
  pub made_behind : (es : List EmbData) (r : Option TyData) (name : Text) (ps : List (Option TyData)) (b : Option StmtList) → IsTyped r → FitsBody b → BodyIsPlain b → (s : Storage) (w : World)
      → Behind s w (made_of es r name ps b s w) (checked.body_rule es r b w)
  unfolding chain pure arrange checks stored change check_chain check_pure
  made_behind es r name ps None typed h p s w = record {
    world = refl;
    grows = grows_itself w;
    outer = refl;
    sites = begins_itself s.sites;
    counts = λ e. e;
    defined = refl;
    calls_grow = begins_itself s.calls;
  }
  made_behind es r name ps (Some ss) typed h p s w =
      let k = objects_in_all ss in
      let a = body_around es r ss in
      let t = inside_block k s in
      let z : World = record w { labels = [] } in
      let m = statements (around_of a) ss in
      let body = (m t z).answer in
      let inside : IsInside body (gives_of r) a = record { typed = typed; gives_it = refl; labels = λ l e. labels_stand (around_of a) ss l e t z } in
      let x = (statements_run gs calls written body (gives_of r) (declaration_run gs calls written body (gives_of r)) a inside k 0 ss h p).steps t z in
      let sites = statements_sites gs (around_of a) 0 ss in
      record {
        world = x.world;
        grows = grows_further w z (m t z).world (labels_grow w) x.grows;
        outer = sites.outer t z;
        sites = sites.leads.begins t z;
        counts = λ e. counts_same (length (m t z).storage.sites) (length (m t z).world.types) (sites.leads.counts t z (counts_one (length s.sites) (length w.types) e));
        defined = sites.makes.defined t z;
        calls_grow = x.calls_grow;
      }

  same_known : (s : Storage) (w : World) → IsKnown gs written s w → IsKnown gs written s (record w { labels = [] })
  same_known s w h = record {
    good = record {
      is_written = h.good.is_written;
      sound = record { here = h.good.sound.here; outer = h.good.sound.outer; structs = h.good.sound.structs };
      free = h.good.free;
    };
    defined = h.defined;
    standing = record { here = h.standing.here; outer = h.standing.outer; sites = h.standing.sites };
  }

  -- the value at the end of `main` is one of its result
  ends : (name : Text) (k : Sort) → (same_text name (codes "main") ≡ true → MayEnd k (value_at_end name)) → MayEnd k (value_at_end name)
  ends name k h = go (same_text name (codes "main")) refl
    where
      go : (b : Bool) → same_text name (codes "main") ≡ b → MayEnd k (value_at_end name)
      go true e = h e
      go false e = subst (λ v. MayEnd k v) (λ i. if sym e i then Some (number (pos 0)) else None) tt

  -- its body is sound where nothing is wrong with it
  pub made_sound : (es : List EmbData) (r : Option TyData) (name : Text) (ps : List (Option TyData)) (b : Option StmtList) (n : ℕ) (s : Storage) (w : World) → IsTyped r → FitsBody b → BodyIsPlain b → length ps ≡ n
      → (same_text name (codes "main") ≡ true → MayEnd (gives_of r) (value_at_end name)) → IsKnown gs written s w → in_scope s ≡ n → (checked.body_rule es r b w).found ≡ []
      → Shallow (made_of es r name ps b s w).world → IsFront (made_of es r name ps b s w).storage.calls calls
      → MakesSound gs (library_atoms gs calls) (signatures_by b (signature_of r ps)) s (made_of es r name ps b s w).storage
  unfolding chain pure arrange checks stored change check_chain check_pure
  made_sound es r name ps None n s w typed h p count main known scope found shallow front = record { functions = []; are = sym (append-nil s.functions); sound = tt }
  made_sound es r name ps (Some ss) n s w typed h p count main known scope found shallow front =
      let k = objects_in_all ss in
      let a = body_around es r ss in
      let t = inside_block k s in
      let z : World = record w { labels = [] } in
      let o = statements (around_of a) ss t z in
      let x = body_is_sound gs calls written es r ss n s z typed h p (same_known s w known) scope found shallow front in
      let made : Function = record { parameters = map parameter_kind ps; objects = o.storage.block.sizes; body = o.answer; otherwise = value_at_end name } in
      let takes : length made.parameters ≡ length ps = mapped_count parameter_kind ps in
      record {
        functions = made ∷ [];
        are = ap (λ fs. fs ++ made ∷ []) ((statements_sites gs (around_of a) 0 ss).makes.functions t z);
        sound = (
          record {
            takes = takes;
            body = subst (λ m. SoundAll gs (library_atoms gs calls) (here_in o.answer (gives_of r) (m + length o.storage.block.sizes) false) o.answer) (sym (takes ∙ count)) x.sound;
            at_end = ends name (gives_of r) main;
          },
          tt,
        );
      }
