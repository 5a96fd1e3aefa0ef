-- What holds of each reference and of each text in an embedded statement.
use Rattle.std.proofs.Common.{◌≡◌, List, [], ◌∷◌, ◌++◌, Option, Some, None}
use Rattle.ec_ctypes.specs.declared.embedded.emb.Item.{Item}
use Rattle.ec_ctypes.specs.trees.Exprs.{ExprData}
use Rattle.ec_ctypes.specs.trees.Embedded.{HostData, TextArgData, word_arg, host_arg, host_with_indicator, InputData, host_input, const_input, InsData, listed_ins, area_ins, OutsData, no_outs, listed_outs, area_outs, PartData, bytes_part, host_part, ActionData, EmbKindData, connect, set_connection, disconnect, autocommit, trans, server_text, declare_cursor, open_cursor, execute_immediate, prepare, execute, deallocate, allocate_area, free_area, get_count, get_items, set_count, set_items, whenever, include_sqlca, EmbData}
use Rattle.ec_language.specs.Letters.{Text}
use Rattle.ec_typing_defs.specs.statement_parts.References.{ReferenceData, References, beside, of_option, of_host, of_text, of_text_option, of_input, of_part, of_get_item, of_set_item, of_all, of_ins, of_outs, of_kind, references}

abbrev pub OfList : {A : Type 0} → (A → Type 0) → List A → Type 0
OfList P [] = Unit {0}
OfList P (x ∷ xs) = P x × OfList P xs

pub list_map : {A : Type 0} (P Q : A → Type 0) → ((a : A) → P a → Q a) → (xs : List A) → OfList P xs → OfList Q xs
list_map P Q f [] h = tt
list_map P Q f (x ∷ xs) h = (f x h.0, list_map P Q f xs h.1)

pub list_both : {A : Type 0} (P : A → Type 0) (xs ys : List A) → OfList P xs → OfList P ys → OfList P (xs ++ ys)
list_both P [] ys h k = k
list_both P (x ∷ xs) ys h k = (h.0, list_both P xs ys h.1 k)

pub list_parts : {A : Type 0} (P : A → Type 0) (xs ys : List A) → OfList P (xs ++ ys) → OfList P xs × OfList P ys
list_parts P [] ys h = (tt, h)
list_parts P (x ∷ xs) ys h = let q = list_parts P xs ys h.1 in ((h.0, q.0), q.1)

module _ (E : ExprData → Type 0) (T : Text → Type 0) where
  abbrev pub OfExprOption : Option ExprData → Type 0
  OfExprOption None = Unit {0}
  OfExprOption (Some e) = E e

  abbrev pub OfHost : HostData → Type 0
  OfHost h = E h.value × OfExprOption h.indicator

  abbrev pub OfText : TextArgData → Type 0
  OfText (word_arg b) = T b
  OfText (host_arg e) = E e
  OfText (host_with_indicator e i) = E e × E i

  abbrev pub OfTextOption : Option TextArgData → Type 0
  OfTextOption None = Unit {0}
  OfTextOption (Some a) = OfText a

  abbrev pub OfInput : InputData → Type 0
  OfInput (host_input h) = OfHost h
  OfInput (const_input b) = T b

  abbrev pub OfPart : PartData → Type 0
  OfPart (bytes_part b) = T b
  OfPart (host_part h) = OfHost h

  abbrev pub OfGot : Item × HostData → Type 0
  OfGot i = OfHost i.1

  abbrev pub OfSet : Item × InputData → Type 0
  OfSet i = OfInput i.1

  abbrev pub OfIns : InsData → Type 0
  OfIns (listed_ins is) = OfList OfInput is
  OfIns (area_ins a) = OfText a

  abbrev pub OfOuts : OutsData → Type 0
  OfOuts no_outs = Unit {0}
  OfOuts (listed_outs hs) = OfList OfHost hs
  OfOuts (area_outs a) = OfText a

module _ (E : ExprData → Type 0) (T : Text → Type 0) (A : ActionData → Type 0) where
  abbrev pub OfKind : EmbKindData → Type 0
  OfKind (connect target name user password) = OfText E T target × OfTextOption E T name × OfTextOption E T user × OfTextOption E T password
  OfKind (set_connection name) = OfText E T name
  OfKind (disconnect name) = OfText E T name
  OfKind (autocommit on) = Unit {0}
  OfKind (trans text) = Unit {0}
  OfKind (server_text parts outs) = OfList (OfPart E T) parts × OfOuts E T outs
  OfKind (declare_cursor cursor parts prepared) = OfList (OfPart E T) parts
  OfKind (open_cursor cursor ins) = OfIns E T ins
  OfKind (execute_immediate text) = OfText E T text
  OfKind (prepare name text) = OfText E T text
  OfKind (execute name ins outs) = OfIns E T ins × OfOuts E T outs
  OfKind (deallocate name) = Unit {0}
  OfKind (allocate_area area) = OfText E T area
  OfKind (free_area area) = OfText E T area
  OfKind (get_count area host) = OfText E T area × OfHost E T host
  OfKind (get_items area index items) = OfText E T area × OfInput E T index × OfList (OfGot E T) items
  OfKind (set_count area value) = OfText E T area × OfInput E T value
  OfKind (set_items area index items) = OfText E T area × OfInput E T index × OfList (OfSet E T) items
  OfKind (whenever condition action) = A action
  OfKind include_sqlca = Unit {0}

  -- with the connection that AT names
  abbrev pub OfStatement : EmbData → Type 0
  OfStatement e = OfTextOption E T e.at × OfKind e.kind

-- ---- the references of a statement, as a list

abbrev pub OfValue : (ExprData → Type 0) → ReferenceData → Type 0
OfValue E r = E r.value

-- by each reference
module _ (E : ExprData → Type 0) (T : Text → Type 0) where
  exprs_list : (e : Option ExprData) → OfExprOption E T e → OfList (OfValue E) (of_option e)
  exprs_list None h = tt
  exprs_list (Some e) h = (h, tt)

  host_list : (h : HostData) → OfHost E T h → OfList (OfValue E) (of_host h)
  host_list h p = (p.0, exprs_list h.indicator p.1)

  text_list : (a : TextArgData) → OfText E T a → OfList (OfValue E) (of_text a)
  text_list (word_arg b) h = tt
  text_list (host_arg e) h = (h, tt)
  text_list (host_with_indicator e i) h = (h.0, (h.1, tt))

  text_option_list : (a : Option TextArgData) → OfTextOption E T a → OfList (OfValue E) (of_text_option a)
  text_option_list None h = tt
  text_option_list (Some a) h = text_list a h

  input_list : (i : InputData) → OfInput E T i → OfList (OfValue E) (of_input i)
  input_list (host_input h) p = host_list h p
  input_list (const_input b) p = tt

  part_list : (p : PartData) → OfPart E T p → OfList (OfValue E) (of_part p)
  part_list (bytes_part b) h = tt
  part_list (host_part x) h = host_list x h

  all_list : {A : Type 0} (P : A → Type 0) (f : A → References) → ((a : A) → P a → OfList (OfValue E) (f a)) → (xs : List A) → OfList P xs → OfList (OfValue E) (of_all f xs)
  all_list P f k [] h = tt
  all_list P f k (x ∷ xs) h = list_both (OfValue E) (f x) (of_all f xs) (k x h.0) (all_list P f k xs h.1)

  ins_list : (i : InsData) → OfIns E T i → OfList (OfValue E) (of_ins i)
  ins_list (listed_ins is) h = all_list (OfInput E T) of_input input_list is h
  ins_list (area_ins a) h = text_list a h

  outs_list : (o : OutsData) → OfOuts E T o → OfList (OfValue E) (of_outs o)
  outs_list no_outs h = tt
  outs_list (listed_outs hs) h = all_list (OfHost E T) of_host host_list hs h
  outs_list (area_outs a) h = text_list a h

  two : (xs ys : References) → OfList (OfValue E) xs → OfList (OfValue E) ys → OfList (OfValue E) (xs ++ ys)
  two xs ys h k = list_both (OfValue E) xs ys h k

  kind_list : (A : ActionData → Type 0) (e : EmbData) → OfKind E T A e.kind → OfList (OfValue E) (of_kind e)
  kind_list A e h = go e.kind h
    where
      go : (kind : EmbKindData) → OfKind E T A kind → OfList (OfValue E) (of_kind (record e { kind = kind }))
      go (connect target name user password) h = two (of_text target) _ (text_list target h.0) (two (of_text_option name) _ (text_option_list name h.1) (two (of_text_option user) _ (text_option_list user h.2) (text_option_list password h.3)))
      go (set_connection name) h = text_list name h
      go (disconnect name) h = text_list name h
      go (autocommit on) h = tt
      go (trans text) h = tt
      go (server_text parts outs) h = two (of_all of_part parts) (of_outs outs) (all_list (OfPart E T) of_part part_list parts h.0) (outs_list outs h.1)
      go (declare_cursor cursor parts prepared) h = all_list (OfPart E T) of_part part_list parts h
      go (open_cursor cursor ins) h = ins_list ins h
      go (execute_immediate text) h = text_list text h
      go (prepare name text) h = text_list text h
      go (execute name ins outs) h = two (of_ins ins) (of_outs outs) (ins_list ins h.0) (outs_list outs h.1)
      go (deallocate name) h = tt
      go (allocate_area area) h = text_list area h
      go (free_area area) h = text_list area h
      go (get_count area host) h = two (of_text area) (of_host host) (text_list area h.0) (host_list host h.1)
      go (get_items area index items) h = two (of_text area) _ (text_list area h.0) (two (of_input index) (of_all of_get_item items) (input_list index h.1) (all_list (OfGot E T) of_get_item (λ i. host_list i.1) items h.2))
      go (set_count area value) h = two (of_text area) (of_input value) (text_list area h.0) (input_list value h.1)
      go (set_items area index items) h = two (of_text area) _ (text_list area h.0) (two (of_input index) (of_all of_set_item items) (input_list index h.1) (all_list (OfSet E T) of_set_item (λ i. input_list i.1) items h.2))
      go (whenever condition action) h = tt
      go include_sqlca h = tt

  pub statement_list : (A : ActionData → Type 0) (e : EmbData) → OfStatement E T A e → OfList (OfValue E) (references e)
  statement_list A e h = two (of_text_option e.at) (of_kind e) (text_option_list e.at h.0) (kind_list A e h.1)
