-- Two requests are the same exactly where they are equal.
use Rattle.std.proofs.Common.{◌≡◌, ◌&&◌, ℕ, Bool, true, false, List, Option, Some, None, refl, ap, ap₂, subst}
use Rattle.std.specs.Bool.{Decides}
use Rattle.std.specs.Cmp.{unsigned_Decides}
use Rattle.std.specs.Cmp.Lexicographic.{pointwise_decides}
use Rattle.std.specs.Prelude.{nat_eq}
use Rattle.ec_link.specs.declared.request.Request.{Request}
use Rattle.ec_link.specs.declared.request.Request.TheVariants.{Connect, Text, Prepare, Exec, Deallocate, Close}
use Rattle.ec_replay.specs.Same.{same_text, same_field, same_fields, is_same}

first : (s t : Bool) → (s && t) ≡ true → s ≡ true
first true t h = refl
first false t h = h

second : (s t : Bool) → (s && t) ≡ true → t ≡ true
second true t h = h
second false t h = cc

text_decides : (a b : List ℕ) → Decides (same_text a b) (a ≡ b)
text_decides = pointwise_decides {E = nat_eq} unsigned_Decides

field_decides : (a b : Option (List ℕ)) → Decides (same_field a b) (a ≡ b)
field_decides None None = (λ e. refl, λ e. refl)
field_decides None (Some b) = (λ e. cc, λ e. cc)
field_decides (Some a) None = (λ e. cc, λ e. cc)
field_decides (Some a) (Some b) =
    (λ e. ap Some ((text_decides a b).0 e), λ e. let same : a ≡ b = cc in (text_decides a b).1 same)

fields_decides : (a b : List (Option (List ℕ))) → Decides (same_fields a b) (a ≡ b)
fields_decides = pointwise_decides {E = same_field} field_decides

-- a text that is the same, and more
text_and : (a b : List ℕ) (more : Bool) → (same_text a b && more) ≡ true → (a ≡ b) × (more ≡ true)
text_and a b more h = ((text_decides a b).0 (first (same_text a b) more h), second (same_text a b) more h)

-- the same requests are equal
pub same-equal : (one other : Request) → is_same one other ≡ true → one ≡ other
same-equal (Connect a b c) (Connect d e f) h =
    let t = text_and a d (same_field b e && same_field c f) h in
    let u = (field_decides b e).0 (first (same_field b e) (same_field c f) t.1) in
    let v = (field_decides c f).0 (second (same_field b e) (same_field c f) t.1) in
    let w = t.0 in
    cc
same-equal (Text a b) (Text c d) h =
    let t = text_and a c (same_fields b d) h in
    let u = t.0 in
    let v = (fields_decides b d).0 t.1 in
    cc
same-equal (Prepare a b) (Prepare c d) h =
    let t = text_and a c (same_text b d) h in
    let u = t.0 in
    let v = (text_decides b d).0 t.1 in
    cc
same-equal (Exec a b) (Exec c d) h =
    let t = text_and a c (same_fields b d) h in
    let u = t.0 in
    let v = (fields_decides b d).0 t.1 in
    cc
same-equal (Deallocate a) (Deallocate b) h = ap Deallocate ((text_decides a b).0 h)
same-equal Close Close h = refl
same-equal one other h = cc

text_own : (a : List ℕ) → same_text a a ≡ true
text_own a = (text_decides a a).1 refl

field_own : (a : Option (List ℕ)) → same_field a a ≡ true
field_own a = (field_decides a a).1 refl

fields_own : (a : List (Option (List ℕ))) → same_fields a a ≡ true
fields_own a = (fields_decides a a).1 refl

-- both of two tests
both : (s t : Bool) → s ≡ true → t ≡ true → (s && t) ≡ true
both s t p q = ap₂ (λ x y. x && y) p q

-- each request is the same as itself
pub same_own : (request : Request) → is_same request request ≡ true
same_own (Connect a b c) = both _ _ (text_own a) (both _ _ (field_own b) (field_own c))
same_own (Text a b) = both _ _ (text_own a) (fields_own b)
same_own (Prepare a b) = both _ _ (text_own a) (text_own b)
same_own (Exec a b) = both _ _ (text_own a) (fields_own b)
same_own (Deallocate a) = text_own a
same_own Close = refl

pub equal-same : (one other : Request) → one ≡ other → is_same one other ≡ true
equal-same one other e = subst (λ (r : Request). is_same one r ≡ true) e (same_own one)
