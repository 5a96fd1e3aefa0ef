-- A directive is gone in what is written.
use Rattle.std.proofs.Common.{◌≡◌, ◌∙◌, ℕ, suc, true, List, [], ◌∷◌, ◌++◌, length, map, refl, sym, subst, Option, Some}
use Rattle.std.specs.Prelude.{slice_get}
use Rattle.ec_ctypes.specs.trees.Checked.{MarkData, BoundData}
use Rattle.ec_ctypes.specs.trees.Embedded.{EmbData}
use Rattle.ec_ctypes.specs.trees.Units.{TopData, UnitData}
use Rattle.ec_language.specs.Letters.{Text}
use Rattle.ec_typing_defs.specs.statement_parts.Handlers.{is_directive}
use Rattle.ec_typing_defs.specs.statement_parts.References.{references}
use Rattle.ec_typing_defs.specs.Embedded as checked
use Rattle.ec_typing_defs.specs.Embedded.{denoted_in, variables_of}
use Rattle.ec_typing_defs.specs.Worlds.{Place, World, Out}
use Rattle.ec_expansion_defs.specs.Programs.{embedded}
use Rattle.ec_host_defs.specs.Programs.{Denoted}
use Rattle.ec_resolving_defs.specs.Embedded.{references_rule, embedded_rule}
use Rattle.ec_resolving_defs.specs.Storage.{ReferenceForm, StatementForm, Storage, with_statement, reached}
use Rattle.ec_sim_statement_laws.specs.expression.Worlds.{AreAlike}
use Rattle.ec_sim_statement_laws.specs.expression.Alike.{SameStorage}
use Rattle.ec_sim_world_laws.specs.growth.Growth.{Grows}
use Rattle.ec_sim_world_laws.proofs.growth_lemmas.Rules.{begins_itself}
use Rattle.ec_sim_world_laws.specs.known.Known.{IsKnown, IsFound, AreFound, Keeps}
use Rattle.ec_sim_world_laws.specs.known.Laws.{EmbeddedStatementsKeep}
use Rattle.ec_sim_program_laws.specs.program.Copied.{Whole, AreToCome, FindNothing}
use Rattle.ec_sim_program_laws.proofs.program_lemmas.Coming.{found_further, at_still}
use Rattle.ec_sim_program_laws.specs.program.Embedded.{DirectiveIsGone}
use Rattle.ec_sim_program_laws.specs.directive.References.{MakeNothing}
use Rattle.ec_sim_program_laws.proofs.directive_lemmas.Staying.{denoting, directive_checked, references_clean}
use Rattle.ec_sim_program_laws.proofs.directive_lemmas.Making.{form_of, directive_resolved}
use Rattle.ec_sim_program_laws.proofs.directive_lemmas.Unwritten.{nothing_written}

-- ---- numbers

numbers_joined : (fs : List StatementForm) (f : StatementForm) (ns : List ℕ) → map (λ x. x.number) (fs ++ f ∷ []) ++ ns ≡ map (λ x. x.number) fs ++ f.number ∷ ns
numbers_joined [] f ns = refl
numbers_joined (x ∷ fs) f ns = λ i. x.number ∷ numbers_joined fs f ns i

length_joined : {A : Type 0} (xs : List A) (x : A) → length (xs ++ x ∷ []) ≡ suc (length xs)
length_joined [] x = refl
length_joined (y ∷ xs) x = λ i. suc (length_joined xs x i)

-- ---- what is found of it

alike_still : (names : List Text) (w v : World) → AreAlike w v → AreAlike (denoting names w) v
alike_still names w v h = record {
  is_source = h.is_source;
  is_written = h.is_written;
  here = h.here;
  outer = h.outer;
  structs = h.structs;
  closed = h.closed;
  types = h.types;
  defined = h.defined;
  labels = h.labels;
  reserved_here = h.reserved_here;
  reserved_outer = h.reserved_outer;
}

same_still : (form : StatementForm) (s t : Storage) → SameStorage s t → SameStorage (with_statement form s) t
same_still form s t h = record {
  defined = h.defined;
  before_literals = h.before_literals;
  sites = h.sites;
  globals = h.globals;
  literals = h.literals;
  block = h.block;
}

-- one form more, with its row
found_joined : (u : UnitData) (s : Storage) (w : World) (f : StatementForm) (row : Denoted) → IsFound u s w f row → (fs : List StatementForm) (rows : List Denoted)
    → AreFound u s w fs rows → AreFound u s w (fs ++ f ∷ []) (rows ++ row ∷ [])
found_joined u s w f row h [] [] are = (h, tt)
found_joined u s w f row h [] (r ∷ rows) are = absurd are
found_joined u s w f row h (x ∷ fs) [] are = absurd are
found_joined u s w f row h (x ∷ fs) (r ∷ rows) are = (are.0, found_joined u s w f row h fs rows are.1)

-- the storage behind it
abbrev behind : ℕ → List ReferenceForm → Storage → Storage
behind n references s = with_statement (form_of n references) s

module _ (g : Whole) (n : ℕ) (e : EmbData) (is : slice_get g.source.embs n ≡ Some e) (at : Place) (s : Storage) (w : World) (ns : List ℕ) (tops : Option (List TopData)) where
  abbrev names : List Text
  names = variables_of g.source.embs n e

  abbrev forms : List ReferenceForm
  forms = (references_rule at (references e) s w).answer

  to_come_behind : AreToCome g (record { numbers = n ∷ ns; tops = tops }) s w → (checked.references_rule at (references e) w).found ≡ []
      → IsKnown g.source (behind n forms s) (denoting names w) → Grows w (denoting names w)
      → AreToCome g (record { numbers = ns; tops = tops }) (behind n forms s) (denoting names w)
  to_come_behind h clean known grows = record {
    in_order = numbers_joined s.statements (form_of n forms) ns ∙ h.in_order;
    denoted = length_joined w.denoted (denoted_in w names) ∙ (λ i. suc (h.denoted i)) ∙ sym (length_joined s.statements (form_of n forms));
    known = known;
    found = found_joined g.source (behind n forms s) (denoting names w) (form_of n forms) (denoted_in w names)
        (record {
          emb = e;
          is_emb = is;
          at = at;
          storage = s;
          before = w;
          known = h.known;
          grows = grows;
          sites = begins_itself s.sites;
          clean = clean;
          are = refl;
          denoted = refl;
        })
        s.statements w.denoted (found_further g.source s (behind n forms s) w (denoting names w) grows (begins_itself s.sites) s.statements w.denoted h.found);
    position = at_still g.source tops w (denoting names w) refl h.position;
  }

  nothing_found : (t : Storage) (v : World) (o : Out (Unit {0})) → SameStorage s t → AreAlike w v
      → AreToCome g (record { numbers = n ∷ ns; tops = tops }) s w → (checked.references_rule at (references e) w).found ≡ []
      → IsKnown g.source (behind n forms s) (denoting names w) → Grows w (denoting names w) → o.world ≡ denoting names w
      → FindNothing g (record { numbers = ns; tops = tops }) s t v o (reached tt (behind n forms s) (denoting names w))
  nothing_found t v o same alike h clean known grows checked_so = record {
    worlds = alike_still names w v alike;
    storages = same_still (form_of n forms) s t same;
    to_come = to_come_behind h clean known grows;
    forms_grow = record { rest = form_of n forms ∷ []; same = refl };
    functions = refl;
    checked_world = sym checked_so;
  }

pub directive_gone : (g : Whole) (handlers : List MarkData) (bounds : List BoundData) (n : ℕ) (e : EmbData)
    → slice_get g.source.embs n ≡ Some e → is_directive e ≡ true → MakeNothing (references e) → EmbeddedStatementsKeep g.source
    → DirectiveIsGone g g.source.embs (embedded handlers g.source.embs bounds) n e
directive_gone g handlers bounds n e is d p keep = record {
  is_written = nothing_written handlers g.source.embs bounds n e is d;
  gone = λ body loop labels at ns tops. record {
    finds = λ s t w v same alike come none more.
        let resolved = directive_resolved g.source.embs labels at n e d p s w in
        let keeps : Keeps g.source (embedded_rule g.source.embs labels at n e) = keep g.source.embs labels at n e in
        subst (λ q. FindNothing g (record { numbers = ns; tops = tops }) s t v (checked.embedded_rule g.source.embs body loop labels at n e w) q)
        (sym resolved)
        (nothing_found g n e is at s w ns tops t v _ same alike come
        (references_clean g.source.embs body loop labels at n e w none)
        (subst (λ q. IsKnown g.source q.storage q.world) resolved (keeps.known s w come.known))
        (subst (λ q. Grows w q.world) resolved (keeps.grows s w))
        (directive_checked g.source.embs body loop labels at n e d p w));
  };
}
