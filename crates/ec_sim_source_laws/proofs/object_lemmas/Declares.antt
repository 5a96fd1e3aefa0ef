-- A statement that declares a cursor: its references and its hosts are those of its parts.
use Rattle.std.proofs.Common.{◌≡◌, ◌∙◌, ℕ, List, [], ◌++◌, Option, Some, None, refl, subst}
use Rattle.ec_ctypes.specs.trees.Embedded.{EmbData, EmbKindData, PartData, connect, set_connection, disconnect, autocommit, trans, server_text, declare_cursor, open_cursor, execute_immediate, prepare, execute, deallocate, allocate_area, free_area, get_count, get_items, set_count, set_items, whenever, include_sqlca}
use Rattle.ec_host_defs.specs.Uses.{text_option_uses, part_uses, each_uses, kind_uses, uses_of}
use Rattle.ec_language.specs.Letters.{Text}
use Rattle.ec_sim_program_laws.specs.shape.Shapes.{IsAlone}
use Rattle.ec_typing_defs.specs.statement_parts.Cursors.{declared_cursor, declare_opened}
use Rattle.ec_typing_defs.specs.statement_parts.References.{of_part, of_all, of_kind, of_text_option, references, names_of_option}
use Rattle.ec_sim_world_laws.proofs.closing_lemmas.Lists.{none_not}

-- of this kind
record IsDeclare (kind : EmbKindData) : Type 0 where
  cursor : Text
  parts : List PartData
  prepared : Option Text
  is : kind ≡ declare_cursor cursor parts prepared

is_declare : (e : EmbData) (kind : EmbKindData) (c : Text) → declared_cursor (record e { kind = kind }) ≡ Some c → IsDeclare kind
is_declare e (connect target n user password) c d = none_not d
is_declare e (set_connection n) c d = none_not d
is_declare e (disconnect n) c d = none_not d
is_declare e (autocommit on) c d = none_not d
is_declare e (trans text) c d = none_not d
is_declare e (server_text parts outs) c d = none_not d
is_declare e (declare_cursor cursor parts prepared) c d = record { cursor = cursor; parts = parts; prepared = prepared; is = refl }
is_declare e (open_cursor cursor ins) c d = none_not d
is_declare e (execute_immediate text) c d = none_not d
is_declare e (prepare n text) c d = none_not d
is_declare e (execute n ins outs) c d = none_not d
is_declare e (deallocate n) c d = none_not d
is_declare e (allocate_area area) c d = none_not d
is_declare e (free_area area) c d = none_not d
is_declare e (get_count area target) c d = none_not d
is_declare e (get_items area index items) c d = none_not d
is_declare e (set_count area value) c d = none_not d
is_declare e (set_items area index items) c d = none_not d
is_declare e (whenever condition action) c d = none_not d
is_declare e include_sqlca c d = none_not d

-- it opens none
pub opens_none : (es : List EmbData) (n : ℕ) (e : EmbData) (c : Text) → declared_cursor e ≡ Some c → names_of_option (declare_opened es n e) ≡ []
opens_none es n e c d = go (is_declare e e.kind c d)
  where
    go : IsDeclare e.kind → names_of_option (declare_opened es n e) ≡ []
    go h = λ i. names_of_option (declare_opened es n (record e { kind = h.is i }))

pub record HasParts (e : EmbData) : Type 0 where
  pub parts : List PartData
  pub references_are : references e ≡ of_all of_part parts
  pub uses_are : uses_of e ≡ each_uses part_uses parts

pub has_parts : (e : EmbData) (c : Text) → IsAlone e → declared_cursor e ≡ Some c → HasParts e
has_parts e c alone d = go (is_declare e e.kind c d)
  where
    go : IsDeclare e.kind → HasParts e
    go h = record {
      parts = h.parts;
      references_are = (λ i. of_text_option (at i) ++ of_kind e) ∙ (λ i. of_kind (record e { kind = h.is i }));
      uses_are = (λ i. text_option_uses (at i) ++ kind_uses e) ∙ (λ i. kind_uses (record e { kind = h.is i }));
    }
      where
        at : e.at ≡ None
        at = subst (λ kind. IsAlone (record e { kind = kind })) h.is alone
