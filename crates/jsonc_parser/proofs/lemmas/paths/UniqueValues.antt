-- Values are put, and dropped, in one way alone: as functions put and drop them.
use Rattle.std.proofs.Common.{ℕ, ◌≡◌, ◌∙◌, sym, ap, refl, cond, List, [], ◌∷◌, Option, Some, None}
use Rattle.std.specs.Str.{bytes_eq}
use Rattle.jsonc_text.specs.Plain.{Plain, Members, no_members, member}
use Rattle.jsonc_text.specs.Plain as plain
use Rattle.jsonc_text.specs.declared.edit.Over.{Over}
use Rattle.jsonc_parser.specs.paths.Settings.{FirstBecomes, this_becomes, later_becomes, FirstIsRemoved, this_removed, later_removed, IsAppended, appended_alone, appended_after, nest, IsNoObject, Put, is_there, changes_inside, is_appended, is_nested, gives_way, Dropped, value_dropped, property_dropped, dropped_inside}
use Rattle.jsonc_parser.proofs.lemmas.paths.Collapsed.{other_names, same_names}

-- the first value of a name becomes another, or a new one is appended
abbrev put_members : List ℕ → (Plain → Plain) → Plain → Members → Members
put_members name f new no_members = member name new no_members
put_members name f new (member n w ms) = cond (bytes_eq n name) (member n (f w) ms) (member n w (put_members name f new ms))

-- it leaves
abbrev drop_member : List ℕ → Members → Members
drop_member name no_members = no_members
drop_member name (member n w ms) = cond (bytes_eq n name) ms (member n w (drop_member name ms))

becomes_is : {name : List ℕ} {x y : Plain} {ms ns : Members} (f : Plain → Plain) (new : Plain) → FirstBecomes name x y ms ns → y ≡ f x → ns ≡ put_members name f new ms
becomes_is {name} {x} {y} f new (this_becomes {ms = ms}) e = ap (λ k. member name k ms) e ∙ sym (ap (λ b. cond b (member name (f x) ms) (member name x (put_members name f new ms))) (same_names name))
becomes_is {name} f new (later_becomes {n = n} {w = w} {ms = ms} ne b) e =
    ap (member n w) (becomes_is f new b e) ∙ sym (ap (λ c. cond c (member n (f w) ms) (member n w (put_members name f new ms))) (other_names n name ne))

comes_is : {name : List ℕ} {new : Plain} {ms ns : Members} (f : Plain → Plain) → IsAppended name new ms ns → ns ≡ put_members name f new ms
comes_is f appended_alone = refl
comes_is {name} {new} f (appended_after {n = n} {w = w} {ms = ms} ne c) =
    ap (member n w) (comes_is f c) ∙ sym (ap (λ b. cond b (member n (f w) ms) (member n w (put_members name f new ms))) (other_names n name ne))

leaves_is : {name : List ℕ} {ms ns : Members} → FirstIsRemoved name ms ns → ns ≡ drop_member name ms
leaves_is {name} (this_removed {w = w} {ms = ms}) = sym (ap (λ b. cond b ms (member name w (drop_member name ms))) (same_names name))
leaves_is {name} (later_removed {n = n} {w = w} {ms = ms} ne l) = ap (member n w) (leaves_is l) ∙ sym (ap (λ b. cond b ms (member n w (drop_member name ms))) (other_names n name ne))

abbrev put_value : Plain → List (List ℕ) → Plain → Plain
put_value v [] x = v
put_value v (name ∷ names) (plain.object ms) = plain.object (put_members name (put_value v names) (nest names v) ms)
put_value v (name ∷ names) x = nest (name ∷ names) v

abbrev put_document : Plain → List (List ℕ) → Option Plain → Option Plain
put_document v names None = Some (nest names v)
put_document v names (Some x) = Some (put_value v names x)

no_object_put : (v : Plain) (name : List ℕ) (names : List (List ℕ)) (x : Plain) → IsNoObject x → put_value v (name ∷ names) x ≡ nest (name ∷ names) v
no_object_put v name names plain.null non = refl
no_object_put v name names (plain.boolean b) non = refl
no_object_put v name names (plain.number s) non = refl
no_object_put v name names (plain.string s) non = refl
no_object_put v name names (plain.array vs) non = refl
no_object_put v name names (plain.object ms) non = absurd (non ms refl)

some_same : (x y : Plain) → Some x ≡ Some y → x ≡ y
some_same x y e = cc

put_is : {v : Plain} {over : Over} {w x : Option Plain} {names : List (List ℕ)} → Put v over w names x → x ≡ put_document v names w
put_is {v} (is_there {w = w}) = go w
  where
    go : (w : Option Plain) → Some v ≡ put_document v [] w
    go None = refl
    go (Some x) = refl
put_is {v} (changes_inside {name = name} {names = names} {ms = ms} {ns = ns} {x = x} {y = y} f p) =
    ap (λ k. Some (plain.object k)) (becomes_is (put_value v names) (nest names v) f (some_same y (put_value v names x) (put_is p)))
put_is {v} (is_appended {names = names} c) = ap (λ k. Some (plain.object k)) (comes_is (put_value v names) c)
put_is is_nested = refl
put_is {v} (gives_way {name = name} {names = names} {x = x} non how) = ap Some (sym (no_object_put v name names x non))

pub put_once : {v : Plain} {over : Over} {w x y : Option Plain} {names : List (List ℕ)} → Put v over w names x → Put v over w names y → x ≡ y
put_once p q = put_is p ∙ sym (put_is q)

-- what was at the names is dropped
abbrev drop_value : List (List ℕ) → Plain → Plain
drop_value [] x = x
drop_value (name ∷ []) (plain.object ms) = plain.object (drop_member name ms)
drop_value (name ∷ (m ∷ names)) (plain.object ms) = plain.object (put_members name (drop_value (m ∷ names)) plain.null ms)
drop_value (name ∷ names) x = x

abbrev drop_document : List (List ℕ) → Option Plain → Option Plain
drop_document names None = None
drop_document [] (Some x) = None
drop_document (name ∷ names) (Some x) = Some (drop_value (name ∷ names) x)

drop_is : {w x : Option Plain} {names : List (List ℕ)} → Dropped w names x → x ≡ drop_document names w
drop_is value_dropped = refl
drop_is (property_dropped l) = ap (λ k. Some (plain.object k)) (leaves_is l)
drop_is (dropped_inside {name = name} {names = names} {ms = ms} {ns = ns} {x = x} {y = y} f d) = go names (drop_is d)
  where
    go : (names : List (List ℕ)) → Some y ≡ drop_document names (Some x) → Some (plain.object ns) ≡ drop_document (name ∷ names) (Some (plain.object ms))
    go [] e = cc
    go (m ∷ names) e = ap (λ k. Some (plain.object k)) (becomes_is (drop_value (m ∷ names)) plain.null f (some_same y (drop_value (m ∷ names) x) e))

pub dropped_once : {w x y : Option Plain} {names : List (List ℕ)} → Dropped w names x → Dropped w names y → x ≡ y
dropped_once d e = drop_is d ∙ sym (drop_is e)
