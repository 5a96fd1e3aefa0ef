-- What is known in the scopes of a test is alike to what is known in as many scopes of the source.
use Rattle.std.proofs.Common.{◌≡◌, ◌∙◌, ℕ, true, List, [], ◌∷◌, refl, sym, subst, None}
use Rattle.ec_language.specs.Letters.{Text}
use Rattle.ec_typing_defs.specs.Known.{is_reserved}
use Rattle.ec_typing_defs.specs.Tables.{find}
use Rattle.ec_typing_defs.specs.Worlds.{ScopeData, World, or_else, look_up, look_up_in, entered, left, left_to}
use Rattle.ec_resolving_defs.specs.Storage.{Storage}
use Rattle.ec_sim_statement_laws.specs.expression.Alike.{SameStorage, AddsNone}
use Rattle.ec_sim_statement_laws.specs.expression.Worlds.{AllKeepReserved, AreAlike}

pub alike_placed : {w z : World} (n : ℕ) → AreAlike w z → AreAlike w (record z { places = n })
alike_placed n h = record {
  is_source = h.is_source;
  is_written = h.is_written;
  here = h.here;
  outer = h.outer;
  structs = h.structs;
  closed = h.closed;
  types = h.types;
  defined = h.defined;
  labels = h.labels;
  reserved_here = h.reserved_here;
  reserved_outer = h.reserved_outer;
}

pub alike_inside : {w z : World} → AreAlike w z → AreAlike (entered w) (entered z)
alike_inside h = record {
  is_source = h.is_source;
  is_written = h.is_written;
  here = refl;
  outer = λ i. h.here i ∷ h.outer i;
  structs = h.structs;
  closed = h.closed;
  types = h.types;
  defined = h.defined;
  labels = h.labels;
  reserved_here = λ x r. refl;
  reserved_outer = (h.reserved_here, h.reserved_outer);
}

-- the scope that was entered is left
pub alike_outside : (w : World) {z : World} → AreAlike (entered w) z → AreAlike w (left z)
alike_outside w {z} h = subst (λ outer. AreAlike w (left_to outer z)) (sym h.outer) (record {
  is_source = h.is_source;
  is_written = h.is_written;
  here = refl;
  outer = refl;
  structs = h.structs;
  closed = h.closed;
  types = h.types;
  defined = h.defined;
  labels = h.labels;
  reserved_here = h.reserved_outer.0;
  reserved_outer = h.reserved_outer.1;
})

-- ---- a reserved name stands for nothing in scope

none_outside : (ss : List ScopeData) (x : Text) → is_reserved x ≡ true → AllKeepReserved ss → look_up_in ss x ≡ None
none_outside [] x r h = refl
none_outside (s ∷ ss) x r h = (λ i. or_else (h.0 x r i) (look_up_in ss x)) ∙ none_outside ss x r h.1

pub reserved_is_free : {w z : World} → AreAlike w z → (x : Text) → is_reserved x ≡ true → look_up x z ≡ None
reserved_is_free {w} {z} h x r =
    (λ i. or_else (find x (h.here i).names) (look_up_in (h.outer i) x))
    ∙ (λ i. or_else (h.reserved_here x r i) (look_up_in w.outer x))
    ∙ none_outside w.outer x r h.reserved_outer

-- ---- where things are

pub same_itself : (s : Storage) → SameStorage s s
same_itself s = record { defined = refl; before_literals = refl; sites = refl; globals = refl; literals = refl; block = refl }

pub none_itself : (s : Storage) → AddsNone s s
none_itself s = record { functions = refl; calls = refl; statements = refl }

pub none_further : (s t u : Storage) → AddsNone s t → AddsNone t u → AddsNone s u
none_further s t u p q = record {
  functions = q.functions ∙ p.functions;
  calls = q.calls ∙ p.calls;
  statements = q.statements ∙ p.statements;
}
