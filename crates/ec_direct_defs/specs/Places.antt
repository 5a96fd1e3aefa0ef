-- The places of a statement: each is an expression that is evaluated once, from left to right, in the order of the statement's call (texts first, and each leaf before its indicator).
use Rattle.std.specs.Prelude.{ℕ, List, [], ◌∷◌, Option, Some, None}
use Rattle.ec_arguments.specs.Arguments.{TextArg, absent, word, held}
use Rattle.ec_ctypes.specs.declared.embedded.emb.Item.{Item}
use Rattle.ec_host_defs.specs.Leaves.{LeafData}
use Rattle.ec_meaning_defs.specs.resolved.Resolved.{Exp}
use Rattle.ec_meaning_defs.specs.evaluation.State.{State}
use Rattle.ec_meaning_defs.specs.evaluation.Results.{Res, on_value, at_address}
use Rattle.ec_meaning_defs.specs.evaluation.Evaluate.{World, Context, Step, eval}
use Rattle.ec_direct_defs.specs.Leaves.{Leaf}
use Rattle.ec_direct_defs.specs.Statements.{Input, stored, constant, Sent, Outputs, nowhere, into_leaves, into_area, Asked, sends, executes, reads_text, opens, Statement, runs, connects, disconnects, sets_connection, sets_autocommit, controls, prepares, deallocates, allocates, frees, gets_count, sets_count, gets_items, sets_items}

module _ (step : Step) (w : World) (c : Context) where
  abbrev pub address_of : Exp → State → (ℕ → State → Res) → Res
  address_of e s go = on_value (eval step w c e s) (λ v t. at_address v t (λ p. go p t))

  abbrev pub text_placed : TextArg Exp → State → (TextArg ℕ → State → Res) → Res
  text_placed absent s go = go absent s
  text_placed (word bytes) s go = go (word bytes) s
  text_placed (held e) s go = address_of e s (λ p t. go (held p) t)

  abbrev pub indicator_placed : Option (Exp × LeafData) → State
      → (Option (ℕ × LeafData) → State → Res) → Res
  indicator_placed None s go = go None s
  indicator_placed (Some i) s go = address_of i.0 s (λ p t. go (Some (p, i.1)) t)

  abbrev pub leaf_placed : Leaf Exp → State → (Leaf ℕ → State → Res) → Res
  leaf_placed l s go =
      address_of l.place s (λ p t.
      indicator_placed l.indicator t (λ i u.
      go (record { place = p; leaf = l.leaf; indicator = i }) u))

  abbrev pub input_placed : Input Exp → State → (Input ℕ → State → Res) → Res
  input_placed (stored l) s go = leaf_placed l s (λ m t. go (stored m) t)
  input_placed (constant bytes) s go = go (constant bytes) s

  -- each of a list, one after the other
  abbrev pub each_placed : {A B : Type 0} → (A → State → (B → State → Res) → Res) → List A → State
      → (List B → State → Res) → Res
  each_placed f [] s go = go [] s
  each_placed f (a ∷ as') s go = f a s (λ b t. each_placed f as' t (λ bs u. go (b ∷ bs) u))

  abbrev pub area_placed : Option (TextArg Exp) → State → (Option (TextArg ℕ) → State → Res) → Res
  area_placed None s go = go None s
  area_placed (Some a) s go = text_placed a s (λ b t. go (Some b) t)

  abbrev pub sent_placed : Sent Exp → State → (Sent ℕ → State → Res) → Res
  sent_placed x s go =
      each_placed input_placed x.values s (λ vs t.
      area_placed x.area t (λ a u.
      go (record { values = vs; area = a }) u))

  abbrev pub outputs_placed : Outputs Exp → State → (Outputs ℕ → State → Res) → Res
  outputs_placed nowhere s go = go nowhere s
  outputs_placed (into_leaves ls) s go =
      each_placed leaf_placed ls s (λ ms t. go (into_leaves ms) t)
  outputs_placed (into_area a) s go = text_placed a s (λ b t. go (into_area b) t)

  abbrev pub asked_placed : Asked Exp → State → (Asked ℕ → State → Res) → Res
  asked_placed (sends bytes) s go = go (sends bytes) s
  asked_placed (executes name) s go = go (executes name) s
  asked_placed (reads_text a) s go = text_placed a s (λ b t. go (reads_text b) t)
  asked_placed (opens head name) s go = go (opens head name) s

  abbrev pub item_leaf_placed : Item × Leaf Exp → State → (Item × Leaf ℕ → State → Res) → Res
  item_leaf_placed i s go = leaf_placed i.1 s (λ l t. go (i.0, l) t)

  abbrev pub item_input_placed : Item × Input Exp → State → (Item × Input ℕ → State → Res) → Res
  item_input_placed i s go = input_placed i.1 s (λ x t. go (i.0, x) t)

  abbrev pub placed : Statement Exp → State → (Statement ℕ → State → Res) → Res
  placed (runs at asked ins outs) s go =
      text_placed at s (λ at s.
      asked_placed asked s (λ asked s.
      sent_placed ins s (λ ins s.
      outputs_placed outs s (λ outs s.
      go (runs at asked ins outs) s))))
  placed (connects target user password name) s go =
      text_placed target s (λ target s.
      text_placed user s (λ user s.
      text_placed password s (λ password s.
      text_placed name s (λ name s.
      go (connects target user password name) s))))
  placed (disconnects name) s go = text_placed name s (λ name s. go (disconnects name) s)
  placed (sets_connection name) s go = text_placed name s (λ name s. go (sets_connection name) s)
  placed (sets_autocommit on at) s go = text_placed at s (λ at s. go (sets_autocommit on at) s)
  placed (controls at text) s go = text_placed at s (λ at s. go (controls at text) s)
  placed (prepares at name text) s go =
      text_placed at s (λ at s. text_placed text s (λ text s. go (prepares at name text) s))
  placed (deallocates at name) s go = text_placed at s (λ at s. go (deallocates at name) s)
  placed (allocates name) s go = text_placed name s (λ name s. go (allocates name) s)
  placed (frees name) s go = text_placed name s (λ name s. go (frees name) s)
  placed (gets_count name l) s go =
      text_placed name s (λ name s. leaf_placed l s (λ l s. go (gets_count name l) s))
  placed (sets_count name x) s go =
      text_placed name s (λ name s. input_placed x s (λ x s. go (sets_count name x) s))
  placed (gets_items name index items) s go =
      text_placed name s (λ name s.
      input_placed index s (λ index s.
      each_placed item_leaf_placed items s (λ items s.
      go (gets_items name index items) s)))
  placed (sets_items name index items) s go =
      text_placed name s (λ name s.
      input_placed index s (λ index s.
      each_placed item_input_placed items s (λ items s.
      go (sets_items name index items) s)))
