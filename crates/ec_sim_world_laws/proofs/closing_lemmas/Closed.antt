-- Structs at the start, and where each of them has a shape.
use Rattle.std.proofs.Common.{◌≡◌, ◌∙◌, ℕ, zero, suc, Bool, true, List, [], ◌∷◌, ◌++◌, Some, refl, sym, ap, subst, option_map}
use Rattle.ec_ctypes.specs.trees.Units.{UnitData}
use Rattle.ec_typing_defs.specs.Worlds.{MembersData, unlisted, begun, listed, is_listed, World}
use Rattle.ec_typing_defs.specs.Expressions.{Members}
use Rattle.ec_typing_defs.specs.Programs.{start}
use Rattle.ec_sim_world_laws.specs.place.Structs.{IsAmong, IsClosed, AreClosed, ClosedAreListed}
use Rattle.ec_sim_world_laws.specs.closing.Closing.{members_at, IsInOrder, AreInOrder, AreInTheirOrder, HasShape, HaveShapes, AreSomeTyped, HaveTypes, ListedStay}
use Rattle.ec_sim_world_laws.proofs.closing_lemmas.Lists.{none_not, false_not, some_is}
use Rattle.ec_sim_world_laws.proofs.closing_lemmas.Rules.{There, there}
use Rattle.ec_sim_world_laws.proofs.closing_lemmas.Names.{distinct_named}

module _ (w : World) (have : HaveShapes w) where
  one_closed : (before : List ℕ) (k : ℕ) → IsInOrder w.structs before k → IsClosed w before k
  one_closed before k h = of_shape (have k h.info h.is (ap (λ m. is_listed (Some m)) h.are))
    where
      of_shape : HasShape h.info → IsClosed w before k
      of_shape s = record {
        info = h.info;
        is = h.is;
        members = h.members;
        are = h.are;
        named = distinct_named h.members h.distinct;
        inside = h.inside;
        shape = s.shape;
        has_shape = s.is;
        is_shape = sym h.is_shape ∙ s.is;
      }

  all_closed : (before ks : List ℕ) → AreInOrder w.structs before ks → AreClosed w before ks
  all_closed before [] h = tt
  all_closed before (k ∷ ks) h = (one_closed before k h.0, all_closed (before ++ k ∷ []) ks h.1)

  pub with_shapes : AreInTheirOrder w → ClosedAreListed w
  with_shapes order = record {
    closed = all_closed [] w.closed order.closed;
    listed = λ k h. order.listed k (ap (λ o. is_listed (option_map (λ s. s.members) o)) h.is ∙ ap (λ m. is_listed (Some m)) h.are);
  }

-- ---- at the start

listed_is : {ms ns : Members} → listed ms ≡ listed ns → ms ≡ ns
listed_is {ms} {ns} e = λ j. members_or (e j)
  where
    members_or : MembersData → Members
    members_or unlisted = ms
    members_or begun = ms
    members_or (listed os) = os

pub starts_in_order : (written : Bool) (u : UnitData) → AreInTheirOrder (start written u)
starts_in_order written u = record {
  closed = (
    record { info = _; is = refl; members = _; are = refl; distinct = (refl, (refl, tt)); sized = (tt, (tt, tt)); inside = (tt, (tt, tt)); is_shape = refl },
    (
      record { info = _; is = refl; members = _; are = refl; distinct = (refl, (refl, (refl, (refl, (refl, (refl, (refl, (refl, tt)))))))); sized = (tt, (tt, (tt, (tt, (tt, (tt, (tt, (tt, tt)))))))); inside = (tt, (tt, (tt, (refl, (tt, (tt, (tt, (tt, tt)))))))); is_shape = refl },
      tt,
    ),
  );
  listed = all_listed;
}
  where
    all_listed : (k : ℕ) → is_listed (members_at (start written u).structs k) ≡ true → IsAmong (start written u).closed k
    all_listed zero e = refl
    all_listed (suc zero) e = refl
    all_listed (suc (suc k)) e = false_not e

pub starts_with_types : (written : Bool) (u : UnitData) → HaveTypes (start written u)
starts_with_types written u zero ms e = subst AreSomeTyped (listed_is (some_is e)) (tt, (tt, tt))
starts_with_types written u (suc zero) ms e = subst AreSomeTyped (listed_is (some_is e)) (tt, (tt, (tt, (tt, (tt, (tt, (tt, (tt, tt))))))))
starts_with_types written u (suc (suc k)) ms e = none_not e

-- What is listed stays, so it had types before.
pub had_types : (w z : World) → ListedStay w z → HaveTypes z → HaveTypes w
had_types w z stay have k ms e = of_there (there w.structs k (listed ms) e)
  where
    of_there : There w.structs k (listed ms) → AreSomeTyped ms
    of_there t = have k ms (ap (option_map (λ s. s.members)) (stay k t.info t.is (ap is_listed t.are)) ∙ t.are)
