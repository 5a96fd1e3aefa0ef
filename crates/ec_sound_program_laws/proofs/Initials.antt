-- What initializes an object of a function is stored there as what is wanted.
use Rattle.std.proofs.Common.{◌≡◌, ◌<◌, ℕ, Bool, true, false, List, [], ◌∷◌, ◌++◌, Option, Some, None, refl, sym, subst}
use Rattle.ec_ctypes.specs.trees.Types.{TyData}
use Rattle.ec_ctypes.specs.trees.Exprs.{ExprData, InitData, one, many, InitList, no_inits, inits, InitOption, no_init, some_init}
use Rattle.ec_typing_defs.specs.Initializers as checked
use Rattle.ec_typing_defs.specs.Initializers.{Frames, is_text_for, braced_frames, completed_in_braces, braces_rule}
use Rattle.ec_typing_defs.specs.Operands.{OperandData}
use Rattle.ec_typing_defs.specs.Statements as checked_statements
use Rattle.ec_typing_defs.specs.Worlds.{Place, World, Rule, pure as check_pure}
use Rattle.ec_resolving_defs.specs.Agreement.{operand_of}
use Rattle.ec_resolving_defs.specs.Initializers.{PartData, stored_at, fixed_exp, init_value, Left, left, spot_at, Goal, goal_of, Filled, initializer, fill, fill_part}
use Rattle.ec_resolving_defs.specs.Operands.{Found}
use Rattle.ec_resolving_defs.specs.Statements.{initial}
use Rattle.ec_resolving_defs.specs.Storage.{Storage, LibraryCall, Resolving, chain, pure, checks, ask, arrange}
use Rattle.ec_sim_world_laws.proofs.growth_lemmas.Rules.{begins_itself}
use Rattle.ec_sim_world_laws.proofs.known_lemmas.SitesIdle.{Idle, pure_idle, demand_idle}
use Rattle.ec_sim_world_laws.proofs.known_lemmas.SitesChecks.{fixed_idle, part_idle, slot_idle, single_idle}
use Rattle.ec_sim_program_laws.proofs.types_lemmas.Fits as tree
use Rattle.ec_sound_defs.specs.Sound.{Signature}
use Rattle.ec_sound_defs.specs.Written.{library_atoms}
use Rattle.ec_sound_expression_laws.specs.Standing.{ServesAsValue}
use Rattle.ec_sound_expression_laws.proofs.Basics.{clash}
use Rattle.ec_sound_expression_laws.proofs.Storing.{stored_at_stores}
use Rattle.ec_sound_expression_laws.proofs.Walks.{Walk, chained, carried, pure_walks, ask_walks, stands_still}
use Rattle.ec_sound_statement_laws.specs.Values.{AreStored}
use Rattle.ec_sound_statement_laws.proofs.Values.{single_is, part_is}
use Rattle.ec_sound_program_laws.specs.Plain.{PartIsPlain, PartsArePlain, InitIsPlain}
use Rattle.ec_sound_program_laws.proofs.Sides.{grows_still, idle_pure, idle_checks, idle_first, asked_first, then_pure, then_answer, and_aside, same_walk}
use Rattle.ec_sound_program_laws.proofs.Values.{value_is, value_of}

braces_idle : (at : Place) (t : Option TyData) (is : InitList) → Idle (braces_rule at t is)
unfolding braces_rule
braces_idle at None is = pure_idle tt
braces_idle at (Some t) is = demand_idle _ _ _

same_operand : (global : Bool) (f : Found) → (fixed_exp global f).operand ≡ f.operand
same_operand true f = refl
same_operand false f = refl

answered : (global : Bool) (f : Found) (w : World) → (fixed_exp global f).operand ≡ (check_pure f.operand w).answer
unfolding check_pure
answered global f w = same_operand global f

abbrev either : {A : Type 0} → Bool → Resolving A → Resolving A → Resolving A
either b x y = elim b [ true ↦ x | false ↦ y ]

either_world : {A : Type 0} (b : Bool) (x y : Resolving A) → ((s : Storage) (w : World) → (x s w).world ≡ w) → ((s : Storage) (w : World) → (y s w).world ≡ w) → (s : Storage) (w : World)
    → (either b x y s w).world ≡ w
either_world true x y h g s w = h s w
either_world false x y h g s w = g s w

stored_world : (offset : ℕ) (t : Option TyData) (e : ExprData) (f : Found) (s : Storage) (w : World) → (stored_at offset t e f s w).world ≡ w
unfolding stored_at chain pure arrange ask
stored_world offset None e f s w = refl
stored_world offset (Some t) e f s w = either_world (is_text_for f.operand t) _ _ (λ s w. refl) (λ s w. refl) s w

abbrev Initial : Type 0
Initial = Option TyData × List PartData

abbrev pub first_of : Initial → Option TyData
first_of p = p.0

abbrev Found_goal : Type 0
Found_goal = Goal × Option Frames

abbrev frames_there : Found_goal → Option Frames
frames_there p = p.1

abbrev goal_rule : Place → Left → OperandData → Resolving Found_goal
goal_rule at l o = chain (ask (goal_of o l)) (λ goal. chain (checks (checked.part_rule at l.frames o)) (λ fs. pure {A = Found_goal} (goal, fs)))

abbrev parts_rule : Place → Left → ExprData → Found → Resolving Filled
parts_rule at l e f = chain (goal_rule at l f.operand) (λ p. chain (stored_at p.0.offset p.0.type e f) (λ parts. pure {A = Filled} (left p.1 p.0.behind, parts)))

module _ (gs : List Signature) (calls : List LibraryCall) (n : ℕ) (written : Bool) (i : ℕ) (global : Bool) (less : global ≡ false → i < n) where
  abbrev Stored : List PartData → Type 0
  Stored ps = AreStored gs (library_atoms gs calls) n i ps

  joined : (ps qs : List PartData) → Stored ps → Stored qs → Stored (ps ++ qs)
  joined [] qs h g = g
  joined (p ∷ ps) qs h g = (h.0, joined ps qs h.1 g)

  -- of an object of a function
  abbrev IfStored : List PartData → Type 0
  IfStored ps = global ≡ false → Stored ps

  abbrev IfValue : Found → Type 0
  IfValue f = global ≡ false → ServesAsValue gs calls n f

  fixed_value : (b : Bool) (f : Found) → ServesAsValue gs calls n f → b ≡ false → ServesAsValue gs calls n (fixed_exp b f)
  fixed_value true f h e = clash (sym e)
  fixed_value false f h e = h

  init_walks : (at : Place) (e : ExprData) → tree.Fits e → PartIsPlain (one e) → Walk gs calls n written operand_of (Unit {0}) IfValue (init_value at global e) (checked.init_value at global e)
  init_walks at e h p =
      chained gs calls n written _ (value_of gs calls n written at e h p) (λ f. chained gs calls n written _ (idle_checks gs calls n written {P = λ u. ServesAsValue gs calls n f} _ (fixed_idle at global f.operand) (λ w r found. r)) (λ u.
      idle_pure gs calls n written (fixed_exp global f) _ (pure_idle f.operand) (λ w. answered global f w) (λ w r found e. fixed_value global f r e)))

  -- ---- one expression

  record IsClean (A : Type 0) (c : Rule A) : Type 0 where
    world : World
    clean : (c world).found ≡ []

  single_walks : (at : Place) (t : Option TyData) (e : ExprData) (f : Found)
      → Walk gs calls n written first_of (IfValue f) (λ p. IfStored p.1) (chain (checks (checked.single_by at t f.operand)) (λ ty. chain (stored_at 0 t e f) (λ parts. pure {A = Initial} (ty, parts)))) (checked.single_by at t f.operand)
  single_walks at t e f =
      and_aside gs calls n written (λ ty. stored_at 0 t e f) (λ ty parts. (ty, parts)) (λ ty parts. refl) (λ ty parts p q. q)
      (λ ty. record {
        world = λ s w. stored_world 0 t e f s w;
        stores = stored_at_stores 0 t e f;
        fits = λ s w r g. single_is gs (library_atoms gs calls) n s w r.1.world at i t e f (less g) (value_is gs calls n written f (r.0 g)) r.1.clean;
      })
      (idle_checks gs calls n written {P = λ ty. IfValue f × IsClean (Option TyData) (checked.single_by at t f.operand)} _ (single_idle at t f.operand) (λ w r found. (r, record { world = w; clean = found })))

  -- ---- lists in braces

  abbrev frames_of : Filled → Option Frames
  frames_of r = r.0.frames

  record IsGoal (o : OperandData) (l : Left) (at : Place) (goal : Goal) : Type 0 where
    world : World
    is : goal ≡ goal_of o l world
    clean : (checked.part_rule at l.frames o world).found ≡ []

  goal_walks : {R : Type 0} (at : Place) (l : Left) (o : OperandData)
      → Walk gs calls n written frames_there R (λ p. R × IsGoal o l at p.0) (goal_rule at l o) (checked.part_rule at l.frames o)
  unfolding chain ask checks pure
  goal_walks at l o = record {
    steps = λ s w. record {
      answer = refl;
      world = refl;
      grows = grows_still gs calls n written w _ ((part_idle at l.frames o).world w);
      calls_grow = begins_itself s.calls;
      fits = λ stands r found shallow front. (stands_still gs calls n written s w _ ((part_idle at l.frames o).world w) stands, (r, record { world = w; is = refl; clean = found }));
    };
  }

  parted_walks : (at : Place) (l : Left) (e : ExprData) (f : Found) → Walk gs calls n written frames_of (IfValue f) (λ r. IfStored r.1) (parts_rule at l e f) (checked.part_rule at l.frames f.operand)
  parted_walks at l e f =
      and_aside gs calls n written (λ p. stored_at p.0.offset p.0.type e f) (λ p parts. (left p.1 p.0.behind, parts)) (λ p parts. refl) (λ p parts x y. y)
      (λ p. record {
        world = λ s w. stored_world p.0.offset p.0.type e f s w;
        stores = stored_at_stores p.0.offset p.0.type e f;
        fits = λ s w r g.
            subst (λ goal. Stored (stored_at goal.offset goal.type e f s w).answer) (sym r.1.is)
            (part_is gs (library_atoms gs calls) n s w r.1.world at i l e f (less g) (value_is gs calls n written f (r.0 g)) r.1.clean);
      })
      (goal_walks at l f.operand)

  part_walks : (at : Place) (l : Left) (e : ExprData) (f : Found)
      → Walk gs calls n written frames_of (IfValue f) (λ r. IfStored r.1)
      (chain (ask (goal_of f.operand l)) (λ goal. chain (checks (checked.part_rule at l.frames f.operand)) (λ fs. chain (stored_at goal.offset goal.type e f) (λ parts. pure (left fs goal.behind, parts)))))
      (checked.part_rule at l.frames f.operand)
  unfolding chain ask checks pure
  part_walks at l e f =
      same_walk gs calls n written {m = parts_rule at l e f} (λ s w. refl) (parted_walks at l e f)

  mutual
    fill_walks : (at : Place) (l : Left) (is : InitList) → tree.FitParts is → PartsArePlain is → Walk gs calls n written frames_of (Unit {0}) (λ r. IfStored r.1) (fill at global l is) (checked.fill at global l.frames is)
    fill_walks at l no_inits h p = pure_walks gs calls n written (l, []) (λ r g. tt)
    fill_walks at l (inits x is) h p =
        chained gs calls n written _ (fill_part_walks at l x h.0 p.0) (λ part. then_answer gs calls n written (λ more. (more.0, part.1 ++ more.1)) (λ more. refl) (λ more q g. joined part.1 more.1 (q.0 g) (q.1 g))
        (carried gs calls n written (IfStored part.1) (fill_walks at part.0 is h.1 p.1)))

    fill_part_walks : (at : Place) (l : Left) (x : InitData) → tree.FitsPart x → PartIsPlain x → Walk gs calls n written frames_of (Unit {0}) (λ r. IfStored r.1) (fill_part at global l x) (checked.fill_part at global l.frames x)
    fill_part_walks at l (one e) h p = chained gs calls n written _ (init_walks at e h p) (λ f. part_walks at l e f)
    fill_part_walks at l (many is) h p =
        asked_first gs calls n written _ _ (λ next. chained gs calls n written _ (idle_checks gs calls n written {P = λ s. Unit {0}} _ (slot_idle at l.frames) (λ w r found. tt)) (λ slot. idle_first gs calls n written _ _ (braces_idle at slot.0 is)
        (chained gs calls n written _ (ask_walks gs calls n written (braced_frames slot.0 is)) (λ fs.
        then_pure gs calls n written (λ inner. (left slot.1 next.1, inner.1)) (λ rest. slot.1) (λ inner. refl) (λ inner q. q) (fill_walks at (left fs (spot_at next.0 ∷ [])) is h p)))))

  pub initializer_walks : (at : Place) (t : Option TyData) (x : InitData) → tree.FitsPart x → PartIsPlain x
      → Walk gs calls n written first_of (Unit {0}) (λ p. IfStored p.1) (initializer at global t x) (checked.initializer at global t x)
  initializer_walks at t (one e) h p = chained gs calls n written _ (init_walks at e h p) (λ f. single_walks at t e f)
  initializer_walks at t (many is) h p =
      idle_first gs calls n written _ _ (braces_idle at t is) (chained gs calls n written _ (ask_walks gs calls n written (braced_frames t is)) (λ fs.
      then_pure gs calls n written (λ filled. (completed_in_braces t is filled.0.frames, filled.1)) (λ rest. completed_in_braces t is rest) (λ filled. refl) (λ filled q. q) (fill_walks at (left fs (spot_at 0 ∷ [])) is h p)))

  pub initial_walks : (at : Place) (t : Option TyData) (x : InitOption) → tree.FitsInit x → InitIsPlain x
      → Walk gs calls n written first_of (Unit {0}) (λ p. IfStored p.1) (initial at global t x) (checked_statements.initial at global t x)
  initial_walks at t no_init h p = pure_walks gs calls n written (t, []) (λ r g. tt)
  initial_walks at t (some_init x) h p = initializer_walks at t x h p
