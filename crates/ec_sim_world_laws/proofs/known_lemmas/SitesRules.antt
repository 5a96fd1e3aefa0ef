-- Parts of the walk that declare nothing, and parts that declare as many as they give sites.
use Rattle.std.proofs.Common.{◌≡◌, ◌∙◌, ℕ, suc, ◌+◌, Bool, true, false, List, [], ◌∷◌, ◌++◌, refl, sym, ap, subst, arith}
use Rattle.std.specs.Prelude.{length}
use Rattle.ec_ctypes.specs.trees.Types.{TyData}
use Rattle.ec_typing_defs.specs.Worlds.{World, Rule, change, number_as}
use Rattle.ec_resolving_defs.specs.Storage.{Storage, Site, with_site, Resolving, chain, pure, checks, ask, stored, arrange}
use Rattle.ec_meaning_defs.specs.observed.Run.{IsFront}
use Rattle.ec_sim_world_laws.proofs.growth_lemmas.Rules.{begins_itself, begins_joined, begins_further}
use Rattle.ec_sim_world_laws.proofs.known_lemmas.SitesChecks.{Still}

-- ---- it declares nothing

pub record Stands {A : Type 0} (m : Resolving A) : Type 0 where
  pub sites : (s : Storage) (w : World) → (m s w).storage.sites ≡ s.sites
  pub types : (s : Storage) (w : World) → (m s w).world.types ≡ w.types

pub chained : {A B : Type 0} {m : Resolving A} {f : A → Resolving B} → Stands m → ((a : A) → Stands (f a)) → Stands (chain m f)
unfolding chain
chained {m = m} {f = f} h k = record {
  sites = λ s w. (k (m s w).answer).sites (m s w).storage (m s w).world ∙ h.sites s w;
  types = λ s w. (k (m s w).answer).types (m s w).storage (m s w).world ∙ h.types s w;
}

pub pure_stands : {A : Type 0} (a : A) → Stands (pure a)
unfolding pure
pure_stands a = record { sites = λ s w. refl; types = λ s w. refl }

pub ask_stands : {A : Type 0} (g : World → A) → Stands (ask g)
unfolding ask
ask_stands g = record { sites = λ s w. refl; types = λ s w. refl }

pub asked : {A B : Type 0} (g : World → A) (f : A → Resolving B) → ((a : A) → Stands (f a)) → Stands (chain (ask g) f)
asked g f k = chained (ask_stands g) k

pub stored_stands : {A : Type 0} (g : Storage → A) → Stands (stored g)
unfolding stored
stored_stands g = record { sites = λ s w. refl; types = λ s w. refl }

pub arrange_stands : (g : Storage → Storage) → ((s : Storage) → (g s).sites ≡ s.sites) → Stands (arrange g)
unfolding arrange
arrange_stands g e = record { sites = λ s w. e s; types = λ s w. refl }

pub checks_stand : {A : Type 0} {m : Rule A} → Still m → Stands (checks m)
unfolding checks
checks_stand h = record { sites = λ s w. refl; types = λ s w. h.types w }

pub chosen : {A : Type 0} (b : Bool) {x y : Resolving A} → Stands x → Stands y → Stands (elim b [ true ↦ x | false ↦ y ])
chosen true h k = h
chosen false h k = k

-- ---- where one side is ahead of the other

-- one site more than there are is as many as the declarations and so many more: where this is one, each declaration has its site
pub record Leads (a b : ℕ) {A : Type 0} (m : Resolving A) : Type 0 where
  pub begins : (s : Storage) (w : World) → IsFront s.sites (m s w).storage.sites
  pub counts : (s : Storage) (w : World) → suc (length s.sites) ≡ a + length w.types
      → suc (length (m s w).storage.sites) ≡ b + length (m s w).world.types

pub then_leads : {a b c : ℕ} {A B : Type 0} {m : Resolving A} {f : A → Resolving B} → Leads a b m → ((x : A) → Leads b c (f x)) → Leads a c (chain m f)
unfolding chain
then_leads {m = m} {f = f} h k = record {
  begins = λ s w. begins_further _ _ _ (h.begins s w) ((k (m s w).answer).begins (m s w).storage (m s w).world);
  counts = λ s w e. (k (m s w).answer).counts (m s w).storage (m s w).world (h.counts s w e);
}

pub stands_lead : {a : ℕ} {A : Type 0} {m : Resolving A} → Stands m → Leads a a m
stands_lead {a = a} h = record {
  begins = λ s w. subst (λ xs. IsFront s.sites xs) (sym (h.sites s w)) (begins_itself s.sites);
  counts = λ s w e. ap (λ xs. suc (length xs)) (h.sites s w) ∙ e ∙ sym (ap (λ ts. a + length ts) (h.types s w));
}

one_more : {A : Type 0} (xs : List A) (x : A) → length (xs ++ x ∷ []) ≡ suc (length xs)
one_more [] x = refl
one_more (y ∷ ys) x = ap (λ n. suc n) (one_more ys x)

pub site_leads : (a : ℕ) (site : Site) → Leads a (suc a) (arrange (with_site site))
unfolding arrange
site_leads a site = record {
  begins = λ s w. begins_joined s.sites (site ∷ []);
  counts = λ s w e. ap (λ n. suc n) (one_more s.sites site) ∙ ap (λ n. suc n) e ∙ counted (length w.types);
}
  where
    counted : (n : ℕ) → suc (a + n) ≡ suc a + n
    counted n = omega (arith)

pub number_leads : (a : ℕ) (t : TyData) → Leads (suc a) a (checks (number_as t))
unfolding checks number_as change
number_leads a t = record {
  begins = λ s w. begins_itself s.sites;
  counts = λ s w e. e ∙ counted (length w.types) ∙ ap (λ n. a + n) (sym (one_more w.types t));
}
  where
    counted : (n : ℕ) → suc a + n ≡ a + suc n
    counted n = omega (arith)

-- one is counted before the declarations
pub counts_one : (xs n : ℕ) → xs ≡ n → suc xs ≡ 1 + n
counts_one xs n e = ap (λ k. suc k) e ∙ counted n
  where
    counted : (k : ℕ) → suc k ≡ 1 + k
    counted k = omega (arith)

pub counts_same : (xs n : ℕ) → suc xs ≡ 1 + n → xs ≡ n
counts_same xs n e = omega (arith)
