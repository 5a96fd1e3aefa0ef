-- What the walk through a program keeps where nothing is wrong: all has types, names are declared, and the rows so far are typed.
use Rattle.std.proofs.Common.{◌≡◌, ◌∙◌, ℕ, ◌+◌, false, List, [], ◌∷◌, length, take, drop, Option, Some, None, sym, ap, slice_get}
use Rattle.ec_written_laws.specs.bound.Numbers.{numbers_from}
use Rattle.ec_ctypes.specs.trees.Embedded.{EmbData}
use Rattle.ec_ctypes.specs.trees.Types.{TyData}
use Rattle.ec_ctypes.specs.trees.Units.{UnitData}
use Rattle.ec_host_defs.specs.Programs.{Denoted, names_count}
use Rattle.ec_typing_defs.specs.statement_parts.References.{References, references}
use Rattle.ec_typing_defs.specs.Types.{is_void}
use Rattle.ec_typing_defs.specs.Worlds.{World, Rule, chain, pure, ask, scoped}
use Rattle.ec_meaning_defs.specs.observed.Run.{IsFront}
use Rattle.ec_sim_world_laws.specs.growth.Growth.{Grows}
use Rattle.ec_sim_world_laws.proofs.growth_lemmas.Rules as growth
use Rattle.ec_sim_world_laws.proofs.closing_lemmas.Lists.{get_front}
use Rattle.ec_sim_world_laws.proofs.known_lemmas.EntriesKept.{HasEntries}
use Rattle.ec_sim_world_laws.proofs.known_lemmas.EntriesKept as entries
use Rattle.ec_sim_world_laws.proofs.known_lemmas.NamesRules.{Staying}
use Rattle.ec_sim_program_laws.proofs.types_lemmas.Rules.{Sound, Shallow, shallow_before, Any, NoMore, Typing, both_none, enter_types, leave_types, pure_types}

-- ---- rows

-- the declaration of this number has a type
pub record HasTypeAt (w : World) (k : ℕ) : Type 0 where
  pub type : TyData
  pub is : slice_get w.types k ≡ Some type
  pub no_void : is_void type ≡ false

abbrev pub IsTypedAt : World → Option ℕ → Type 0
IsTypedAt w None = Unit {0}
IsTypedAt w (Some k) = HasTypeAt w k

abbrev pub AreTypedAt : World → Denoted → Type 0
AreTypedAt w [] = Unit {0}
AreTypedAt w (d ∷ ds) = IsTypedAt w d × AreTypedAt w ds

-- the indexes of these references have types
abbrev pub RowIsTyped : World → References → Denoted → Type 0
RowIsTyped w [] ds = Unit {0}
RowIsTyped w (r ∷ rs) ds = AreTypedAt w (drop 1 (take (names_count r.value) ds)) × RowIsTyped w rs (drop (names_count r.value) ds)

-- the rows so far are those of the first statements
abbrev pub RowsAreTyped : List EmbData → World → Type 0
RowsAreTyped es w = (n : ℕ) (row : Denoted) (e : EmbData) → slice_get w.denoted n ≡ Some row → slice_get es n ≡ Some e → RowIsTyped w (references e) row

-- these are the numbers of the statements that are still to come
pub record StillToCome (es : List EmbData) (ns : List ℕ) (w : World) : Type 0 where
  pub count : ℕ
  pub are : ns ≡ numbers_from (length w.denoted) count
  pub all : length w.denoted + count ≡ length es

typed_grows : (w z : World) → IsFront w.types z.types → (d : Option ℕ) → IsTypedAt w d → IsTypedAt z d
typed_grows w z b None h = tt
typed_grows w z b (Some k) h = record { type = h.type; is = ap (λ ts. slice_get ts k) b.same ∙ get_front w.types b.rest k h.is; no_void = h.no_void }

all_typed_grow : (w z : World) → IsFront w.types z.types → (ds : Denoted) → AreTypedAt w ds → AreTypedAt z ds
all_typed_grow w z b [] h = tt
all_typed_grow w z b (d ∷ ds) h = (typed_grows w z b d h.0, all_typed_grow w z b ds h.1)

pub row_grows : (w z : World) → IsFront w.types z.types → (rs : References) (ds : Denoted) → RowIsTyped w rs ds → RowIsTyped z rs ds
row_grows w z b [] ds h = tt
row_grows w z b (r ∷ rs) ds h = (all_typed_grow w z b (drop 1 (take (names_count r.value) ds)) h.0, row_grows w z b rs (drop (names_count r.value) ds) h.1)

-- ---- what is known

-- wherever the walk comes to
pub record Known (u : UnitData) (ns : List ℕ) (w : World) : Type 0 where
  pub sound : Sound w
  pub entries : HasEntries u w
  pub rows : RowsAreTyped u.embs w
  pub to_come : StillToCome u.embs ns w

-- the rows are as they were
pub rows_stay : (es : List EmbData) (w z : World) → Grows w z → z.denoted ≡ w.denoted → RowsAreTyped es w → RowsAreTyped es z
rows_stay es w z g same rows n row e is is_emb = row_grows w z g.types (references e) row (rows n row e (sym (ap (λ ds. slice_get ds n) same) ∙ is) is_emb)

pub come_stays : (es : List EmbData) (ns : List ℕ) (w z : World) → z.denoted ≡ w.denoted → StillToCome es ns w → StillToCome es ns z
come_stays es ns w z same c = record {
  count = c.count;
  are = c.are ∙ ap (λ ds. numbers_from (length ds) c.count) (sym same);
  all = ap (λ ds. length ds + c.count) same ∙ c.all;
}

-- by a part of the walk, before which these statements are to come, and behind which those are
pub record Walking (u : UnitData) {A : Type 0} (ns more : List ℕ) (R : World → Type 0) (P : World → A → Type 0) (m : Rule A) : Type 0 where
  pub growing : growth.Growing m
  pub walks : (w : World) → Known u ns w → R w → (m w).found ≡ [] → Shallow (m w).world → Known u more (m w).world × P (m w).world (m w).answer

pub chained : {u : UnitData} {A B : Type 0} {ns more rest : List ℕ} {R : World → Type 0} {P : World → A → Type 0} {Q : World → B → Type 0} {m : Rule A} {f : A → Rule B}
    → Walking u ns more R P m → ((a : A) → Walking u more rest (λ w. P w a) Q (f a)) → Walking u ns rest R Q (chain m f)
unfolding chain
chained {m = m} {f = f} h k = record {
  growing = growth.chained h.growing (λ a. (k a).growing);
  walks = λ w known r found shallow.
      let e = both_none (m w).found (f (m w).answer (m w).world).found found in
      let p = h.walks w known r e.0 (shallow_before ((k (m w).answer).growing.grows (m w).world) shallow) in
      (k (m w).answer).walks (m w).world p.0 p.1 e.1 shallow;
}

-- what declares no statement is a part of the walk
pub walked : {u : UnitData} {A : Type 0} {ns : List ℕ} {R : World → Type 0} {P : World → A → Type 0} {m : Rule A} → entries.Keeping u m → Typing R P m → Walking u ns ns R P m
walked {u = u} {ns = ns} {m = m} e h = record {
  growing = h.growing;
  walks = λ w known r found shallow.
      let p = h.types w known.sound r found shallow in (
        record {
          sound = p.0;
          entries = e.keeps w known.entries;
          rows = rows_stay u.embs w (m w).world (h.growing.grows w) (h.rows w) known.rows;
          to_come = come_stays u.embs ns w (m w).world (h.rows w) known.to_come;
        },
        p.1,
      );
}

-- names stay declared where this holds
pub walked_by : {u : UnitData} {A : Type 0} {ns : List ℕ} {R : World → Type 0} {P : World → A → Type 0} {m : Rule A} → ((w : World) → R w → HasEntries u w → HasEntries u (m w).world) → Typing R P m
    → Walking u ns ns R P m
walked_by {u = u} {ns = ns} {m = m} e h = record {
  growing = h.growing;
  walks = λ w known r found shallow.
      let p = h.types w known.sound r found shallow in (
        record {
          sound = p.0;
          entries = e w r known.entries;
          rows = rows_stay u.embs w (m w).world (h.growing.grows w) (h.rows w) known.rows;
          to_come = come_stays u.embs ns w (m w).world (h.rows w) known.to_come;
        },
        p.1,
      );
}

-- what has nothing to do with what is known holds behind it, too
pub beside : {u : UnitData} {A : Type 0} {ns more : List ℕ} {R : World → Type 0} {P : World → A → Type 0} {m : Rule A} (X : Type 0) → Walking u ns more R P m
    → Walking u ns more (λ w. X × R w) (λ w a. X × P w a) m
beside X h = record {
  growing = h.growing;
  walks = λ w known r found shallow. let p = h.walks w known r.1 found shallow in (p.0, (r.0, p.1));
}

pub to : {u : UnitData} {A : Type 0} {ns more : List ℕ} {R : World → Type 0} {P Q : World → A → Type 0} {m : Rule A} → ((w : World) (a : A) → P w a → Q w a) → Walking u ns more R P m → Walking u ns more R Q m
to {m = m} g h = record {
  growing = h.growing;
  walks = λ w known r found shallow. let p = h.walks w known r found shallow in (p.0, g (m w).world (m w).answer p.1);
}

-- a rule by which names stay
pub resting : {u : UnitData} {A : Type 0} {ns : List ℕ} {R : World → Type 0} {P : World → A → Type 0} {m : Rule A} → Staying m → Typing R P m → Walking u ns ns R P m
resting s h = walked (entries.staying h.growing s) h

pub from : {u : UnitData} {A : Type 0} {ns more : List ℕ} {R S : World → Type 0} {P : World → A → Type 0} {m : Rule A} → ((w : World) → R w → S w) → Walking u ns more S P m → Walking u ns more R P m
from g h = record { growing = h.growing; walks = λ w known r found shallow. h.walks w known (g w r) found shallow }

pub asked : {u : UnitData} {A B : Type 0} {ns more : List ℕ} {R : World → Type 0} {Q : World → B → Type 0} (g : World → A) (f : A → Rule B) (X : World → A → Type 0)
    → ((w : World) → R w → X w (g w)) → ((a : A) → Walking u ns more (λ w. X w a) Q (f a)) → Walking u ns more R Q (chain (ask g) f)
unfolding chain ask
asked g f X x k = record {
  growing = growth.asked g f (λ a. (k a).growing);
  walks = λ w known r found shallow. (k (g w)).walks w known (x w r) found shallow;
}

pub idle : {u : UnitData} {A : Type 0} {ns : List ℕ} (a : A) → Walking u ns ns Any NoMore (pure a)
idle a = walked (entries.pure_keeps a) (pure_types a (λ w r. tt))

pub scoped_walks : {u : UnitData} {ns more : List ℕ} {m : Rule (Unit {0})} → Walking u ns more Any NoMore m → Walking u ns more Any NoMore (scoped m)
scoped_walks {u} h = chained (walked (entries.enter_keeps u) enter_types) (λ a. chained h (λ b. walked (entries.leave_keeps u) leave_types))
