-- Parts of the walk that keep what holds, by the rules of the checks that they follow, and parts that are put together from such.
use Rattle.std.proofs.Common.{◌≡◌, Bool, true, false, sym, subst}
use Rattle.std.specs.Prelude.{length}
use Rattle.ec_ctypes.specs.trees.Units.{UnitData}
use Rattle.ec_typing_defs.specs.Worlds.{World, Rule}
use Rattle.ec_resolving_defs.specs.Agreement.{Finds}
use Rattle.ec_resolving_defs.specs.Storage.{Storage, Resolving, chain, pure, checks, ask, arrange}
use Rattle.ec_sim_world_laws.specs.growth.Growth.{Grows}
use Rattle.ec_sim_world_laws.proofs.growth_lemmas.Rules.{begins_itself, begins_further, grows_itself, grows_further, Growing}
use Rattle.ec_sim_world_laws.specs.known.Known.{IsKnown, Keeps}
use Rattle.ec_sim_world_laws.specs.known.Worlds.{IsKnownWorld, KeepsWorld}
use Rattle.ec_sim_world_laws.proofs.known_lemmas.SitesIdle.{Idle}
use Rattle.ec_sim_world_laws.proofs.known_lemmas.SitesChecks.{Still, idle_still}
use Rattle.ec_sim_world_laws.proofs.known_lemmas.SitesRules.{Leads, stands_lead, checks_stand, arrange_stands, counts_one, counts_same}

pub idle_grows : {A : Type 0} {m : Rule A} → Idle m → Growing m
idle_grows h = record { grows = λ w. subst (λ z. Grows w z) (sym (h.world w)) (grows_itself w) }

module _ (u : UnitData) where
  -- ---- what is known, and the sites

  pub known_world : (s : Storage) (w : World) → IsKnown u s w → IsKnownWorld u w
  known_world s w k = record { grown = k.grown; in_order = k.in_order; here = k.here; outer = k.outer }

  pub with_its_sites : (s : Storage) (w : World) → IsKnownWorld u w → length s.sites ≡ length w.types → IsKnown u s w
  with_its_sites s w k e = record { grown = k.grown; in_order = k.in_order; here = k.here; outer = k.outer; sites = e }

  -- ---- by a part

  pub keeps_by : {A : Type 0} (m : Resolving A) → ((s : Storage) (w : World) → IsKnownWorld u w → IsKnownWorld u (m s w).world) → ((s : Storage) (w : World) → Grows w (m s w).world) → Leads 1 1 m → Keeps u m
  keeps_by m k g l = record {
    known = λ s w h.
        with_its_sites (m s w).storage (m s w).world (k s w (known_world s w h))
        (counts_same (length (m s w).storage.sites) (length (m s w).world.types) (l.counts s w (counts_one (length s.sites) (length w.types) h.sites)));
    grows = g;
    sites = l.begins;
  }

  -- what is known behind it is what the checks know there
  pub found_keeps : {A B : Type 0} {seen : A → B} (m : Resolving A) (n : Rule B) → Finds seen m n → KeepsWorld u n → Growing n → Leads 1 1 m → Keeps u m
  found_keeps m n f k g l =
      keeps_by m (λ s w h. subst (λ z. IsKnownWorld u z) (sym (f.world s w)) (k w h)) (λ s w. subst (λ z. Grows w z) (sym (f.world s w)) (g.grows w)) l

  pub checks_keep : {A : Type 0} (n : Rule A) → KeepsWorld u n → Growing n → Leads 1 1 (checks n) → Keeps u (checks n)
  unfolding checks
  checks_keep n k g l = keeps_by _ (λ s w h. k w h) (λ s w. g.grows w) l

  pub still_keeps : {A : Type 0} (n : Rule A) → KeepsWorld u n → Growing n → Still n → Keeps u (checks n)
  still_keeps n k g h = checks_keep n k g (stands_lead (checks_stand h))

  pub idle_keeps : {A : Type 0} {n : Rule A} → Idle n → Keeps u (checks n)
  idle_keeps {n = n} h = still_keeps n (λ w k. subst (λ z. IsKnownWorld u z) (sym (h.world w)) k) (idle_grows h) (idle_still h)

  -- ---- put together

  pub chained : {A B : Type 0} {m : Resolving A} {f : A → Resolving B} → Keeps u m → ((a : A) → Keeps u (f a)) → Keeps u (chain m f)
  unfolding chain
  chained {m = m} {f = f} h k = record {
    known = λ s w i. (k (m s w).answer).known (m s w).storage (m s w).world (h.known s w i);
    grows = λ s w. grows_further w (m s w).world (f (m s w).answer (m s w).storage (m s w).world).world (h.grows s w) ((k (m s w).answer).grows (m s w).storage (m s w).world);
    sites = λ s w. begins_further _ _ _ (h.sites s w) ((k (m s w).answer).sites (m s w).storage (m s w).world);
  }

  pub pure_keeps : {A : Type 0} (a : A) → Keeps u (pure a)
  unfolding pure
  pure_keeps a = record { known = λ s w k. k; grows = λ s w. grows_itself w; sites = λ s w. begins_itself s.sites }

  pub ask_keeps : {A : Type 0} (g : World → A) → Keeps u (ask g)
  unfolding ask
  ask_keeps g = record { known = λ s w k. k; grows = λ s w. grows_itself w; sites = λ s w. begins_itself s.sites }

  pub asked : {A B : Type 0} (g : World → A) (f : A → Resolving B) → ((a : A) → Keeps u (f a)) → Keeps u (chain (ask g) f)
  asked g f k = chained (ask_keeps g) k

  pub arrange_keeps : (g : Storage → Storage) → ((s : Storage) → (g s).sites ≡ s.sites) → Keeps u (arrange g)
  unfolding arrange
  arrange_keeps g e = keeps_by _ (λ s w k. k) (λ s w. grows_itself w) (stands_lead (arrange_stands g e))

  pub chosen : {A : Type 0} (b : Bool) {x y : Resolving A} → Keeps u x → Keeps u y → Keeps u (elim b [ true ↦ x | false ↦ y ])
  chosen true h k = h
  chosen false h k = k
