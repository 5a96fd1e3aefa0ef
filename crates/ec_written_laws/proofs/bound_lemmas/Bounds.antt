-- The hosts of the statements of an accepted source, and the actions that hold at them, can be written.
use Rattle.std.proofs.Common.{◌≡◌, ℕ, zero, suc, ◌+◌, ◌≤◌, Bool, true, false, ◌&&◌, ◌||◌, List, [], ◌∷◌, map, length, refl, sym, ap, ◌∙◌, subst, Option, Some, None, Result, Ok, Err, arith, if◌then◌else◌}
use Rattle.std.specs.Prelude.{slice_get, option_and_then}
use Rattle.ec_base.specs.declared.stop.Stop.{Stop}
use Rattle.ec_base.specs.declared.fault.FaultKind.{FaultKind}
use Rattle.ec_ctypes.specs.declared.embedded.emb.Cond.{Cond}
use Rattle.ec_ctypes.specs.declared.embedded.emb.Cond.TheVariants.{NotFound, Warning, Error}
use Rattle.ec_ctypes.specs.declared.text.piece.Piece.{Piece}
use Rattle.ec_ctypes.specs.trees.Checked.{MarkData, BoundData, TypedData}
use Rattle.ec_ctypes.specs.trees.Embedded.{PartData, ActionData, EmbKindData, connect, set_connection, disconnect, autocommit, trans, server_text, declare_cursor, open_cursor, execute_immediate, prepare, execute, deallocate, allocate_area, free_area, get_count, get_items, set_count, set_items, whenever, include_sqlca, EmbData}
use Rattle.ec_ctypes.specs.trees.Tokens.{TokenData}
use Rattle.ec_ctypes.specs.trees.Types.{TyData, MemberData, StructData}
use Rattle.ec_ctypes.specs.trees.Units.{TopData, UnitData}
use Rattle.ec_language.specs.First.{Violation, comes_before, earlier, first_of, stop_at, max_text}
use Rattle.ec_language.specs.Letters.{Text, each}
use Rattle.ec_language.specs.Pieces.{Pieces}
use Rattle.ec_language.specs.Syntax.{TreeOrStop}
use Rattle.ec_language.specs.Tokens.{Tokens}
use Rattle.ec_language.proofs.Ends.{both}
use Rattle.ec_host_defs.specs.Bound.{program_of, cursor_parts, statement_bound, faults_of, violation_at, violations_at, answer_by, bound_answer}
use Rattle.ec_host_defs.specs.Statements.{statement_places, with_statements}
use Rattle.ec_host_defs.specs.Faults.{row_at, uses_faults}
use Rattle.ec_host_defs.specs.Programs.{ProgramData}
use Rattle.ec_host_defs.specs.Uses.{uses_of}
use Rattle.ec_phases_defs.specs.Sources.{ReadsStatements, ReadsTree, statements, checked_with, checked_tree, with_bound, bound_from, BoundProgram, program_with, bound_program, ReadsSource}
use Rattle.ec_phases_defs.proofs.Order.{stand_in_order}
use Rattle.ec_host_defs.specs.sections.Answers.{hosts_answer}
use Rattle.ec_typing_defs.specs.statement_parts.Cursors.{declare_opened, declared_above, opened_cursor}
use Rattle.ec_typing_defs.specs.statement_parts.Handlers.{marks_in, action_among, handler}
use Rattle.ec_typing_defs.specs.statement_parts.Handlers as parts
use Rattle.ec_typing_defs.specs.statement_parts.References.{references}
use Rattle.ec_typing_defs.specs.Answers.{checked, struct_order, struct_members, listed_members, struct_data, structs_of, typed_of, stop_of_unit, check_answer}
use Rattle.ec_typing_defs.specs.Answers as typing
use Rattle.ec_typing_defs.specs.Worlds.{MembersData, unlisted, begun, listed, StructInfo, World}
use Rattle.ec_whenever.specs.Tables.{table_of, AnswersFor}
use Rattle.ec_whenever.proofs.Tables.{table_answers}
use Rattle.ec_writing_defs.specs.Shapes.{is_byte}
use Rattle.ec_written_laws.specs.source.SourceShape.{are_source_tokens, are_source_tops, is_source_shape}
use Rattle.ec_written_laws.specs.written.Bounds.{is_written_action_option, are_written_actions, is_written_bound}
use Rattle.ec_written_laws.specs.bound.Counts.{is_counted, are_counted}
use Rattle.ec_written_laws.specs.bound.Names.{is_simple, is_simple_action, has_known_names_option}
use Rattle.ec_written_laws.specs.bound.Numbers.{tops_numbers, numbers_from}
use Rattle.ec_written_laws.specs.bound.Written.{is_directive, has_written_hosts, have_written_hosts, are_hosts_written}
use Rattle.ec_written_laws.proofs.bound_lemmas.Rules.{join, PlainMembers, HasPlainMembers, PlainStructs, Clean}
use Rattle.ec_written_laws.proofs.bound_lemmas.Each.{OfList, OfPart, OfKind, OfStatement, OfValue, statement_list}
use Rattle.ec_written_laws.proofs.bound_lemmas.EmbeddedRules.{AreSimple, HasKnownNames, IsKnown}
use Rattle.ec_written_laws.proofs.bound_lemmas.Forms.{Simple, Bytes, SimpleAction}
use Rattle.ec_written_laws.proofs.bound_lemmas.Places.{PlainMemberData, PlainData, Written, PartsOption, statement_written}
use Rattle.ec_written_laws.proofs.bound_lemmas.Programs.{checks_known}
use Rattle.ec_written_laws.proofs.bound_lemmas.References.{from_some, no_fault, uses_plain, references_plain, values_written, statement_back, action_written}
use Rattle.ec_written_laws.proofs.bound_lemmas.StatementTokens.{IsSource, AreSource, source_statements, are_simple_statements}
use Rattle.ec_written_laws.proofs.bound_lemmas.Statements.{AllOf}
use Rattle.ec_written_laws.proofs.bound_lemmas.TreeNumbers.{all_stand}

-- ---- structs

members_plain : (order : List ℕ) (ms : _) → PlainMembers ms → PlainMemberData (struct_members order ms)
members_plain order [] h = tt
members_plain order (m ∷ ms) h = (h.0, members_plain order ms h.1)

info_plain : (order : List ℕ) (ms : MembersData) → HasPlainMembers ms → PlainMemberData (listed_members order ms)
info_plain order unlisted h = tt
info_plain order begun h = tt
info_plain order (listed ms) h = members_plain order ms h

info_at : (ss : List StructInfo) (k : ℕ) (s : StructInfo) → PlainStructs ss → slice_get ss k ≡ Some s → HasPlainMembers s.members
info_at [] k s h e = absurd (cc)
info_at (x ∷ ss) zero s h e = let same : x ≡ s = cc in subst (λ (y : StructInfo). HasPlainMembers y.members) same h.0
info_at (x ∷ ss) (suc k) s h e = info_at ss k s h.1 e

data_plain : (order ks : List ℕ) (ss : List StructInfo) → PlainStructs ss → PlainData (map (λ k. struct_data order (slice_get ss k)) ks)
data_plain order [] ss h = tt
data_plain order (k ∷ ks) ss h = (go (slice_get ss k) refl, data_plain order ks ss h)
  where
    go : (o : Option StructInfo) → slice_get ss k ≡ o → PlainMemberData (struct_data order o).members
    go None e = tt
    go (Some s) e = info_plain order s.members (info_at ss k s h e)

structs_plain : (w : World) → Clean w → PlainData (structs_of w)
structs_plain w c = data_plain (struct_order w) (struct_order w) w.structs c.2

-- ---- one statement after the other

no_first : (v : Violation) (x : Option Violation) → stop_at (earlier v x) ≡ None → ⊥
no_first v None e = cc
no_first v (Some w) e = go (comes_before w v) e
  where
    go : (b : Bool) → stop_at (if b then Some w else Some v) ≡ None → ⊥
    go true e = cc
    go false e = cc

none_first : (vs : List Violation) → stop_at (first_of vs) ≡ None → vs ≡ []
none_first [] e = refl
none_first (v ∷ vs) e = absurd (no_first v (first_of vs) e)

none_mapped : (f : FaultKind → Violation) (ks : List FaultKind) → map f ks ≡ [] → ks ≡ []
none_mapped f [] e = refl
none_mapped f (k ∷ ks) e = absurd (cc)

record OfAnswer (b c : BoundData) (x : Option Stop) : Type 0 where
  none : x ≡ None
  same : b ≡ c

of_answer : (b c : BoundData) (x : Option Stop) → answer_by b x ≡ Ok c → OfAnswer b c x
of_answer b c None e = let same : b ≡ c = cc in record { none = refl; same = same }
of_answer b c (Some stop) e = absurd (cc)

plus_suc : (n m : ℕ) → n + suc m ≡ suc n + m
plus_suc n m = omega arith

plus_zero : (m : ℕ) → 0 + m ≡ m
plus_zero m = omega arith

module _ (t : TypedData) (plain : PlainData t.structs) where
  abbrev all : List EmbData
  all = t.unit.embs

  -- the statements from this number on, with what is bound for them
  abbrev AllBound : ℕ → List EmbData → List BoundData → Type 0
  AllBound m [] bs = bs ≡ []
  AllBound m (e ∷ es) [] = ⊥
  AllBound m (e ∷ es) (b ∷ bs) = (bound_answer t m e ≡ Ok b) × AllBound (suc m) es bs

  all_bound : (m : ℕ) (es : List EmbData) (bs : List BoundData) → bound_from t m es ≡ Ok bs → AllBound m es bs
  all_bound m [] bs e = cc
  all_bound m (x ∷ es) bs e = go (bound_answer t m x) refl (bound_from t (suc m) es) (all_bound (suc m) es) e
    where
      list : (b : BoundData) (cs : List BoundData) → bound_answer t m x ≡ Ok b → AllBound (suc m) es cs → (bs : List BoundData) → b ∷ cs ≡ bs → AllBound m (x ∷ es) bs
      list b cs i h bs e = subst (AllBound m (x ∷ es)) e (i, h)

      go : (a : Result BoundData Stop) → bound_answer t m x ≡ a → (r : Result (List BoundData) Stop) → ((cs : List BoundData) → r ≡ Ok cs → AllBound (suc m) es cs) → with_bound a r ≡ Ok bs → AllBound m (x ∷ es) bs
      go (Ok b) i (Ok cs) f e = let same : b ∷ cs ≡ bs = cc in list b cs i (f cs refl) bs same
      go (Ok b) i (Err stop) f e = absurd (cc)
      go (Err stop) i r f e = absurd (cc)

  -- they have these numbers
  abbrev AllAt : ℕ → List EmbData → Type 0
  AllAt m [] = Unit {0}
  AllAt m (e ∷ es) = (slice_get all m ≡ Some e) × AllAt (suc m) es

  all_at : (m : ℕ) (es : List EmbData) → ((n : ℕ) → slice_get all (n + m) ≡ slice_get es n) → AllAt m es
  all_at m [] f = tt
  all_at m (e ∷ es) f = (sym (ap (slice_get all) (plus_zero m)) ∙ f 0, all_at (suc m) es (λ n. ap (slice_get all) (plus_suc n m) ∙ f (suc n)))

  plus_none : (n : ℕ) → slice_get all (n + 0) ≡ slice_get all n
  plus_none n = ap (slice_get all) (no_more n)
    where
      no_more : (n : ℕ) → n + 0 ≡ n
      no_more n = omega arith

  -- each reference in it can be written, on whatever line
  abbrev IsReady : EmbData → Type 0
  IsReady e = (n : ℕ) → OfStatement (Written n) Bytes SimpleAction e

  ready : (m : ℕ) (e : EmbData) (b : BoundData) → bound_answer t m e ≡ Ok b → IsSource e → HasKnownNames all e → IsReady e
  ready m e b i s k n =
      let a = of_answer (statement_bound (program_of t) e (declare_opened all m e) (row_at t.denoted m)) b (stop_at (first_of (violations_at t m e))) i in
      let none = none_mapped (violation_at m e) (faults_of t m e) (none_first (violations_at t m e) a.none) in
      let uses = (no_fault (uses_faults (program_of t) (uses_of e) (row_at t.denoted m)) _ none).0 in
      let values = references_plain e (uses_plain (program_of t) plain (uses_of e) (row_at t.denoted m) uses) in
      statement_back Simple (Written n) Bytes SimpleAction e s (values_written n (references e) (statement_list Simple Bytes SimpleAction e s) k.values values)

  all_ready : (m : ℕ) (es : List EmbData) (bs : List BoundData) → AllBound m es bs → AllAt m es → AreSource es → AllOf (IsKnown all) (numbers_from m (length es)) → OfList IsReady es
  all_ready m [] bs h a s k = tt
  all_ready m (e ∷ es) [] h a s k = absurd h
  all_ready m (e ∷ es) (b ∷ bs) h a s k = (ready m e b h.0 s.0 (k.0 e a.0), all_ready (suc m) es bs h.1 a.1 s.1 k.1)

  ready_at : (es : List EmbData) (n : ℕ) (e : EmbData) → OfList IsReady es → slice_get es n ≡ Some e → IsReady e
  ready_at [] n e h i = absurd (cc)
  ready_at (x ∷ es) zero e h i = let same : x ≡ e = cc in subst IsReady same h.0
  ready_at (x ∷ es) (suc n) e h i = ready_at es n e h.1 i

  declared_parts : (n : ℕ) (k : EmbKindData) → OfKind (Written n) Bytes SimpleAction k → OfList (OfPart (Written n) Bytes) (elim k as (λ _. List PartData) [ declare_cursor cursor ps prepared ↦ ps | _ ↦ [] ])
  declared_parts n (declare_cursor cursor ps prepared) h = h
  declared_parts n _ h = tt

  opened_parts : (m n : ℕ) (e : EmbData) → OfList IsReady all → PartsOption n (declare_opened all m e)
  opened_parts m n e h = go (declare_opened all m e) refl
    where
      go : (d : Option EmbData) → declare_opened all m e ≡ d → PartsOption n d
      go None i = tt
      go (Some d) i =
          let s = from_some (λ cursor. option_and_then (λ k. slice_get all k) (declared_above all m cursor)) (opened_cursor e) d i in
          let r = from_some (λ k. slice_get all k) (declared_above all m s.0) d s.2 in
          declared_parts n d.kind (ready_at all r.0 d h r.2 n).1

  bound_written : (m : ℕ) (e : EmbData) (b : BoundData) → OfList IsReady all → IsReady e → bound_answer t m e ≡ Ok b → is_counted b ≡ true → is_written_bound e.line.0 b ≡ true
  bound_written m e b h r i c =
      let a = of_answer (statement_bound (program_of t) e (declare_opened all m e) (row_at t.denoted m)) b (stop_at (first_of (violations_at t m e))) i in
      subst (λ x. is_written_bound e.line.0 x ≡ true) a.same (statement_written e.line.0 (program_of t) plain SimpleAction e (declare_opened all m e) (row_at t.denoted m) (r e.line.0) (opened_parts m e.line.0 e h) (subst (λ x. is_counted x ≡ true) (sym a.same) c))

  -- ---- actions

  option_written : (n : ℕ) (a : Option ActionData) → ((x : ActionData) → a ≡ Some x → is_simple_action x ≡ true) → has_known_names_option a ≡ true → is_written_action_option n a ≡ true
  option_written n None s k = refl
  option_written n (Some a) s k = action_written n a (s a refl) k

  module _ (table : List MarkData) (answers : AnswersFor table all) (simple : AreSimple all) where
    action_is : (e : EmbData) → ((cond : Cond) → has_known_names_option (handler all e.place cond) ≡ true) → (cond : Cond) → is_written_action_option e.line.0 (action_among table e.place cond) ≡ true
    action_is e k cond = ap (is_written_action_option e.line.0) (answers.actions e.place cond) ∙ option_written e.line.0 (handler all e.place cond) (simple.actions e.place cond) (k cond)

    actions_written : (e : EmbData) → ((cond : Cond) → has_known_names_option (handler all e.place cond) ≡ true) → are_written_actions e.line.0 (action_among table e.place) ≡ true
    actions_written e k = join (action_is e k NotFound) (join (action_is e k Warning) (action_is e k Error))

    same_directive : (e : EmbData) → is_directive e.kind ≡ parts.is_directive e
    same_directive e = go e.kind
      where
        go : (k : EmbKindData) → is_directive k ≡ parts.is_directive (record e { kind = k })
        go (whenever condition action) = refl
        go include_sqlca = refl
        go (declare_cursor cursor ps prepared) = refl
        go _ = refl

    host_written : (m : ℕ) (e : EmbData) (b : BoundData) → OfList IsReady all → IsReady e → HasKnownNames all e → bound_answer t m e ≡ Ok b → is_counted b ≡ true → has_written_hosts table e b ≡ true
    host_written m e b h r k i c = go (is_directive e.kind) refl
      where
        go : (x : Bool) → is_directive e.kind ≡ x → (x || (are_written_actions e.line.0 (action_among table e.place) && is_written_bound e.line.0 b)) ≡ true
        go true d = refl
        go false d = join (actions_written e (k.actions (sym (same_directive e) ∙ d))) (bound_written m e b h r i c)

    hosts_written : (m : ℕ) (es : List EmbData) (bs : List BoundData) → OfList IsReady all → OfList IsReady es → AllBound m es bs → AllAt m es → AllOf (IsKnown all) (numbers_from m (length es)) → are_counted bs ≡ true → have_written_hosts table es bs ≡ true
    hosts_written m [] bs all_are r h a k c = refl
    hosts_written m (e ∷ es) [] all_are r h a k c = absurd h
    hosts_written m (e ∷ es) (b ∷ bs) all_are r h a k c =
        let q = both (is_counted b) (are_counted bs) c in
        join (host_written m e b all_are r.0 (k.0 e a.0) h.0 q.0) (hosts_written (suc m) es bs all_are r.1 h.1 a.1 k.1 q.1)

    pub program_written : (bs : List BoundData) → bound_from t 0 all ≡ Ok bs → AreSource all → AllOf (IsKnown all) (numbers_from 0 (length all)) → are_counted bs ≡ true → have_written_hosts table all bs ≡ true
    program_written bs e s k c =
        let h = all_bound 0 all bs e in
        let a = all_at 0 all plus_none in
        let r = all_ready 0 all bs h a s k in
        hosts_written 0 all bs r r h a k c

-- ---- the phases

typed_is : (u : UnitData) (hosts : List ℕ) (handlers : List MarkData) (w : World) (t : TypedData) (x : Option Stop) → typing.answer_by u hosts handlers w x ≡ Ok t → typed_of u hosts handlers w ≡ t
typed_is u hosts handlers w t None e = cc
typed_is u hosts handlers w t (Some stop) e = absurd (cc)

record OfTree (u : UnitData) (t : TypedData) : Type 0 where
  hosts : List ℕ
  checks : check_answer false u hosts (table_of (marks_in u.embs)) ≡ Ok t

of_tree : (u : UnitData) (t : TypedData) → checked_tree (Ok u) ≡ Ok t → OfTree u t
of_tree u t e = go (hosts_answer u) e
  where
    go : (a : Result (List ℕ) Stop) → checked_with u a ≡ Ok t → OfTree u t
    go (Ok hosts) e = record { hosts = hosts; checks = e }
    go (Err stop) e = absurd (cc)

record OfChecked (a : Result UnitData Stop) (t : TypedData) : Type 0 where
  unit : UnitData
  is : a ≡ Ok unit
  made : OfTree unit t

of_checked : (a : Result UnitData Stop) (t : TypedData) → checked_tree a ≡ Ok t → OfChecked a t
of_checked (Ok u) t e = record { unit = u; is = refl; made = of_tree u t e }
of_checked (Err stop) t e = absurd (cc)

record OfProgram (t : TypedData) (p : BoundProgram) : Type 0 where
  same : t ≡ p.program
  bound : bound_from t 0 t.unit.embs ≡ Ok p.bounds

of_program : (t : TypedData) (p : BoundProgram) (bs : Result (List BoundData) Stop) → bound_from t 0 t.unit.embs ≡ bs → program_with t bs ≡ Ok p → OfProgram t p
of_program t p (Ok bs) i e = let same : record { program = t; bounds = bs } ≡ p = cc in record { same = ap (λ (x : BoundProgram). x.program) same; bound = i ∙ ap (λ (x : BoundProgram). as_ok x.bounds) same }
  where
    as_ok : List BoundData → Result (List BoundData) Stop
    as_ok bs = Ok bs
of_program t p (Err stop) i e = absurd (cc)

record OfBound (a : Result TypedData Stop) (p : BoundProgram) : Type 0 where
  typed : TypedData
  is : a ≡ Ok typed
  made : OfProgram typed p

of_bound : (a : Result TypedData Stop) (p : BoundProgram) → bound_program a ≡ Ok p → OfBound a p
of_bound (Ok t) p e = record { typed = t; is = refl; made = of_program t p (bound_from t 0 t.unit.embs) refl e }
of_bound (Err stop) p e = absurd (cc)

record OfReading (text : Text) (v : UnitData) : Type 0 where
  pieces : List Piece
  ts : List TokenData
  tree : UnitData
  cut : Pieces text pieces
  lexed : Tokens false pieces ts
  derived : TreeOrStop ts (Ok tree)
  short : length text ≤ max_text
  read : ReadsStatements pieces (statement_places ts) (Ok v.embs)
  tops : tree.tops ≡ v.tops

record OfStatements (u v : UnitData) (es : Result (List EmbData) Stop) : Type 0 where
  tops : u.tops ≡ v.tops
  list : es ≡ Ok v.embs

with_ok : (u v : UnitData) (es : Result (List EmbData) Stop) → ◌≡◌ {A = Result UnitData Stop} (Ok v) (with_statements u es) → OfStatements u v es
with_ok u v (Ok fs) e = let same : record u { embs = fs } ≡ v = cc in record { tops = ap (λ (x : UnitData). x.tops) same; list = ap (λ (x : UnitData). ok x.embs) same }
  where
    ok : List EmbData → Result (List EmbData) Stop
    ok es = Ok es
with_ok u v (Err stop) e = absurd (cc)

of_reading : (text : Text) (v : UnitData) → ReadsTree text (Ok v) → OfReading text v
of_reading text v (statements pieces ts u es answer l c x is r e) =
    let s = with_ok u v es e in
    record { pieces = pieces; ts = ts; tree = u; cut = c; lexed = x; derived = is; short = l; read = subst (ReadsStatements pieces (statement_places ts)) s.list r; tops = s.tops }

module _
    (tokens_are : (text : Text) (pieces : List Piece) (ts : List TokenData) → each is_byte text ≡ true → length text ≤ max_text → Pieces text pieces → Tokens false pieces ts → are_source_tokens ts ≡ true)
    (derived_shape : (ts : List TokenData) (u : UnitData) → are_source_tokens ts ≡ true → TreeOrStop ts (Ok u) → is_source_shape u ≡ true)
  where
    unit_written : (text : Text) (v : UnitData) (t : TypedData) (bs : List BoundData) → each is_byte text ≡ true → ReadsTree text (Ok v) → OfTree v t → bound_from t 0 t.unit.embs ≡ Ok bs → are_counted bs ≡ true → have_written_hosts t.handlers t.unit.embs bs ≡ true
    unit_written text v t bs b r made bound c =
        let reading = of_reading text v r in
        let shape = derived_shape reading.ts reading.tree (tokens_are text reading.pieces reading.ts b reading.short reading.cut reading.lexed) reading.derived in
        let source = source_statements text v b r in
        let simple = are_simple_statements v.embs source in
        let table = table_of (marks_in v.embs) in
        let known = checks_known false v made.hosts table t simple (subst (λ tops. are_source_tops tops ≡ true) reading.tops shape) made.checks in
        let stand = sym (ap (λ tops. tops_numbers tops []) reading.tops) ∙ all_stand reading.pieces reading.ts reading.tree v.embs reading.lexed reading.derived reading.read in
        let same = typed_is v made.hosts table (checked false v).world t (stop_of_unit false v) made.checks in
        let here : (bound_from (typed_of v made.hosts table (checked false v).world) 0 v.embs ≡ Ok bs) = ap (λ (x : TypedData). bound_from x 0 x.unit.embs) same ∙ bound in
        subst (λ (x : TypedData). have_written_hosts x.handlers x.unit.embs bs ≡ true) same
        (program_written (typed_of v made.hosts table (checked false v).world) (structs_plain (checked false v).world known.0) table (table_answers v.embs (stand_in_order text v r)) simple bs here source (subst (AllOf (IsKnown v.embs)) stand known.1) c)

    pub accepted_written : (text : Text) (p : BoundProgram) → each is_byte text ≡ true → ReadsSource text (Ok p) → are_counted p.bounds ≡ true → are_hosts_written p ≡ true
    accepted_written text p b r c =
        let bound = of_bound r.0 p (sym r.2) in
        let tree = of_checked r.1.0 bound.typed (sym r.1.2 ∙ bound.is) in
        subst (λ (x : TypedData). have_written_hosts x.handlers x.unit.embs p.bounds ≡ true) bound.made.same
        (unit_written text tree.unit bound.typed p.bounds b (subst (ReadsTree text) tree.is r.1.1) tree.made bound.made.bound c)
