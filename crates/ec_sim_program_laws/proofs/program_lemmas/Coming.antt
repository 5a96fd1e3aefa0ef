-- What is to come stays to come, and what is found stays found, as what is known and the sites grow.
use Rattle.std.proofs.Common.{◌≡◌, ◌∙◌, List, [], ◌∷◌, ◌++◌, length, map, Option, Some, None, refl, sym, subst}
use Rattle.std.specs.Prelude.{drop}
use Rattle.ec_ctypes.specs.trees.Units.{TopData, UnitData}
use Rattle.ec_host_defs.specs.Programs.{Denoted}
use Rattle.ec_host_defs.specs.sections.Declared.{declared_in_tops}
use Rattle.ec_typing_defs.specs.Worlds.{World, Rule, ask as check_ask}
use Rattle.ec_resolving_defs.specs.Storage.{StatementForm, Storage, ask}
use Rattle.ec_meaning_defs.specs.observed.Run.{IsFront}
use Rattle.ec_sim_world_laws.specs.growth.Growth.{Grows}
use Rattle.ec_sim_world_laws.proofs.growth_lemmas.Rules.{begins_itself, begins_further, grows_itself, grows_further}
use Rattle.ec_sim_world_laws.specs.known.Known.{IsKnown, AreFound, Keeps}
use Rattle.ec_sim_program_laws.specs.program.Copied.{Whole, Ahead, AreToCome, IsAt}

-- ---- what is found

pub found_further : (u : UnitData) (s t : Storage) (w v : World) → Grows w v → IsFront s.sites t.sites → (fs : List StatementForm) (rows : List Denoted)
    → AreFound u s w fs rows → AreFound u t v fs rows
found_further u s t w v grows sites [] [] h = tt
found_further u s t w v grows sites [] (row ∷ rows) h = absurd h
found_further u s t w v grows sites (f ∷ fs) [] h = absurd h
found_further u s t w v grows sites (f ∷ fs) (row ∷ rows) h = (
  record {
    emb = h.0.emb;
    is_emb = h.0.is_emb;
    at = h.0.at;
    storage = h.0.storage;
    before = h.0.before;
    known = h.0.known;
    grows = grows_further h.0.before w v h.0.grows grows;
    sites = begins_further h.0.storage.sites s.sites t.sites h.0.sites sites;
    clean = h.0.clean;
    are = h.0.are;
    denoted = h.0.denoted;
  },
  found_further u s t w v grows sites fs rows h.1,
)

-- ---- positions

-- from where these items are to come to where those are
abbrev pub Passes : UnitData → Option (List TopData) → Option (List TopData) → {A : Type 0} → Rule A → Type 0
Passes u tops tops' c = (w : World) → IsAt u tops w → IsAt u tops' (c w).world

pub at_still : (u : UnitData) (tops : Option (List TopData)) (w v : World) → v.types ≡ w.types → IsAt u tops w → IsAt u tops v
at_still u None w v e h = tt
at_still u (Some ts) w v e h = (λ i. drop (length (e i)) (declared_in_tops u.tops)) ∙ h

pub types_pass : (u : UnitData) (tops : Option (List TopData)) {A : Type 0} (c : Rule A) → ((w : World) → (c w).world.types ≡ w.types) → Passes u tops tops c
types_pass u tops c e = λ w h. at_still u tops w (c w).world (e w) h

pub ask_passes : (u : UnitData) (tops : Option (List TopData)) {A : Type 0} (f : World → A) → Passes u tops tops (check_ask f)
unfolding check_ask
ask_passes u tops f = λ w h. h

pub ask_keeps : (u : UnitData) {A : Type 0} (f : World → A) → Keeps u (ask f)
unfolding ask
ask_keeps u f = record {
  known = λ s w h. h;
  grows = λ s w. grows_itself w;
  sites = λ s w. begins_itself s.sites;
}

-- ---- what is to come

pub come_behind : (g : Whole) (a b : Ahead) (s t : Storage) (w v : World) → AreToCome g a s w → b.numbers ≡ a.numbers → t.statements ≡ s.statements → v.denoted ≡ w.denoted
    → IsKnown g.source t v → Grows w v → IsFront s.sites t.sites → IsAt g.source b.tops v → AreToCome g b t v
come_behind g a b s t w v h numbers statements denoted known grows sites position = record {
  in_order = (λ i. map (λ f. f.number) (statements i) ++ numbers i) ∙ h.in_order;
  denoted = (λ i. length (denoted i)) ∙ h.denoted ∙ (λ i. length (sym statements i));
  known = known;
  found = subst (λ fs. AreFound g.source t v fs v.denoted) (sym statements)
      (subst (λ rows. AreFound g.source t v s.statements rows) (sym denoted)
      (found_further g.source s t w v grows sites s.statements w.denoted h.found));
  position = position;
}

-- the same, where nothing is declared
pub come_still : (g : Whole) (a : Ahead) (s : Storage) (w v : World) → AreToCome g a s w → v.denoted ≡ w.denoted → v.types ≡ w.types
    → IsKnown g.source s v → Grows w v → AreToCome g a s v
come_still g a s w v h denoted types known grows =
    come_behind g a a s s w v h refl refl denoted known grows (begins_itself s.sites) (at_still g.source a.tops w v types h.position)

-- behind these items
pub come_at : (g : Whole) (a b : Ahead) (s : Storage) (w : World) → AreToCome g a s w → b.numbers ≡ a.numbers → IsAt g.source b.tops w → AreToCome g b s w
come_at g a b s w h numbers position =
    come_behind g a b s s w w h numbers refl refl h.known (grows_itself w) (begins_itself s.sites) position

-- in a storage with the same sites and statements
pub come_stored : (g : Whole) (a : Ahead) (s t : Storage) (w : World) → AreToCome g a s w → t.statements ≡ s.statements → t.sites ≡ s.sites → AreToCome g a t w
come_stored g a s t w h statements sites = come_behind g a a s t w w h refl statements refl
    (record {
      grown = h.known.grown;
      in_order = h.known.in_order;
      here = h.known.here;
      outer = h.known.outer;
      sites = (λ i. length (sites i)) ∙ h.known.sites;
    })
    (grows_itself w) (subst (λ xs. IsFront s.sites xs) (sym sites) (begins_itself s.sites)) h.position
