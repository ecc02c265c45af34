-- Of the properties of one name the last is the one that a collapsed object has.
use Rattle.std.proofs.Common.{◌≡◌, ◌∙◌, ℕ, Bool, true, false, cond, List, [], ◌∷◌, ◌++◌, Option, Some, None, refl, sym, ap, subst, true≢false}
use Rattle.std.specs.Bool.{Decides}
use Rattle.std.specs.Prelude.{option_map, reverse}
use Rattle.std.specs.Map.{lookup}
use Rattle.std.specs.Str.{bytes_eq}
use Rattle.std.proofs.lemmas.List.{reverse-append}
use Rattle.std.proofs.lemmas.Slice.Eq.{bytes_eq-Decides}
use Rattle.jsonc_text.specs.Plain.{Plain, Members, no_members, member, collapse, collapse_members}
use Rattle.jsonc_text.proofs.Collapse.{push, put, collapse_push}
use Rattle.jsonc_view.specs.Lists.{pairs_of}
use Rattle.jsonc_view.specs.Views.{last_named}

-- the members of both, one behind the other
abbrev pub append : Members → Members → Members
append no_members ns = ns
append (member n v ms) ns = member n v (append ms ns)

pub append_none : (ms : Members) → append ms no_members ≡ ms
append_none no_members = refl
append_none (member n v ms) = ap (member n v) (append_none ms)

pub append_push : (ms : Members) (n : List ℕ) (v : Plain) (ns : Members) → append (push ms n v) ns ≡ append ms (member n v ns)
append_push no_members n v ns = refl
append_push (member m w ms) n v ns = ap (member m w) (append_push ms n v ns)

pairs_push : (ms : Members) (n : List ℕ) (v : Plain) → pairs_of (push ms n v) ≡ pairs_of ms ++ (n, v) ∷ []
pairs_push no_members n v = refl
pairs_push (member m w ms) n v = ap (λ l. (m, w) ∷ l) (pairs_push ms n v)

same_name : (n m : List ℕ) → bytes_eq n m ≡ true → n ≡ m
same_name n m e = (bytes_eq-Decides n m).0 e

apart : (k n m : List ℕ) → bytes_eq n m ≡ false → bytes_eq k n ≡ true → bytes_eq k m ≡ true → ⊥
apart k n m e a b = true≢false (sym ((bytes_eq-Decides n m).1 (sym (same_name k n a) ∙ same_name k m b)) ∙ e)

same_twice : {X : Type 0} (b : Bool) (x y z : X) → cond b x z ≡ cond b x (cond b y z)
same_twice true x y z = refl
same_twice false x y z = refl

turned : {X : Type 0} (a b : Bool) (x y z : X) → (a ≡ true → b ≡ true → ⊥) → cond b x (cond a y z) ≡ cond a y (cond b x z)
turned true true x y z h = absurd (h refl refl)
turned true false x y z h = refl
turned false true x y z h = refl
turned false false x y z h = refl

-- a name that is looked up where a value was put
lookup_put : (k n : List ℕ) (w : Plain) (ms : Members) → lookup (bytes_eq k) (pairs_of (put n w ms)) ≡ cond (bytes_eq k n) (Some w) (lookup (bytes_eq k) (pairs_of ms))
lookup_put k n w no_members = refl
lookup_put k n w (member m x ms) = go (bytes_eq n m) refl (lookup_put k n w ms)
  where
    found : Option Plain
    found = lookup (bytes_eq k) (pairs_of ms)

    go : (b : Bool) → bytes_eq n m ≡ b → lookup (bytes_eq k) (pairs_of (put n w ms)) ≡ cond (bytes_eq k n) (Some w) found
        → lookup (bytes_eq k) (pairs_of (cond b (member m w ms) (member m x (put n w ms)))) ≡ cond (bytes_eq k n) (Some w) (cond (bytes_eq k m) (Some x) found)
    go true e h = same_twice (bytes_eq k m) (Some w) (Some x) found ∙ ap (λ l. cond (bytes_eq k l) (Some w) (cond (bytes_eq k m) (Some x) found)) (sym (same_name n m e))
    go false e h = ap (cond (bytes_eq k m) (Some x)) h ∙ turned (bytes_eq k n) (bytes_eq k m) (Some x) (Some w) found (apart k n m e)

-- the last of a name, where one more stands last
last_push : (k n : List ℕ) (v : Plain) (ps : List (List ℕ × Plain)) → last_named k (ps ++ (n, v) ∷ []) ≡ cond (bytes_eq k n) (Some v) (last_named k ps)
last_push k n v ps = ap (lookup (bytes_eq k)) (reverse-append ps ((n, v) ∷ []))

map_chosen : (b : Bool) (v : Plain) (o : Option Plain) → cond b (Some (collapse v)) (option_map collapse o) ≡ option_map collapse (cond b (Some v) o)
map_chosen true v o = refl
map_chosen false v o = refl

abbrev IsLast : List ℕ → Members → Type 0
IsLast k ms = lookup (bytes_eq k) (pairs_of (collapse_members ms)) ≡ option_map collapse (last_named k (pairs_of ms))

one_more : (k : List ℕ) (ms : Members) (n : List ℕ) (v : Plain) → IsLast k ms → IsLast k (push ms n v)
one_more k ms n v h =
    ap (λ l. lookup (bytes_eq k) (pairs_of l)) (collapse_push ms n v) ∙ lookup_put k n (collapse v) (collapse_members ms) ∙ ap (cond (bytes_eq k n) (Some (collapse v))) h
    ∙ map_chosen (bytes_eq k n) v (last_named k (pairs_of ms)) ∙ ap (option_map collapse) (sym (ap (last_named k) (pairs_push ms n v) ∙ last_push k n v (pairs_of ms)))

all_more : (k : List ℕ) (done rest : Members) → IsLast k done → IsLast k (append done rest)
all_more k done no_members h = subst (IsLast k) (sym (append_none done)) h
all_more k done (member n v rest) h = subst (IsLast k) (append_push done n v rest) (all_more k (push done n v) rest (one_more k done n v h))

pub last_is_collapsed : (k : List ℕ) (ms : Members) → lookup (bytes_eq k) (pairs_of (collapse_members ms)) ≡ option_map collapse (last_named k (pairs_of ms))
last_is_collapsed k ms = all_more k no_members ms refl
