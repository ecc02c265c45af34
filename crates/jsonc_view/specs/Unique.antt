-- A row is of one value at most.
use Rattle.std.specs.Prelude.{ℕ, ◌≡◌, ◌≤◌, Bool, List, [], ◌∷◌, Option, Some, None, IsCharBoundary}
use Rattle.std.specs.Coded.{×_prop, Π_prop, Unit-prop, le_prop, Coded-set, coded_list, coded_ℕ, coded_bool, coded_option}
use mathlib.Core.HLevel.{×₃_prop, ⊥_prop, Σ_prop_path}
use mathlib.Core.Path.{refl, sym, ap, ◌∙◌}
use Rattle.jsonc_text.specs.Plain.{Plain, null, boolean, number, string, array, object, Items, no_items, item, Members, no_members, member}
use Rattle.jsonc_text.specs.Text.{Spans}
use Rattle.jsonc_view.specs.declared.rows.Member.{Member}
use Rattle.jsonc_view.specs.declared.rows.Name.{Name}
use Rattle.jsonc_view.specs.declared.rows.Name.TheVariants as name
use Rattle.jsonc_view.specs.declared.rows.Row.{Row}
use Rattle.jsonc_view.specs.declared.rows.Row.TheVariants.{Lent, Decoded, Number, Boolean, Object, Array, Null}
use Rattle.jsonc_view.specs.declared.rows.Rows.{Rows}
use Rattle.jsonc_view.specs.declared.rows.Span.{Span}
use Rattle.jsonc_view.specs.Shown.{Stands, WasDecoded, IsWithin, ShowsName, Shows, ShowsItems, ShowsMembers, ShowsRoot}

boundary_prop : (bytes : List ℕ) (i : ℕ) → IsProp (IsCharBoundary bytes i)
boundary_prop bytes i = ×_prop le_prop (Π_prop λ _. Π_prop λ _. le_prop)

spans_prop : (bytes : List ℕ) (i j : ℕ) → IsProp (Spans bytes i j)
spans_prop bytes i j s t = λ k. record { from = boundary_prop bytes i s.from t.from k; to = boundary_prop bytes j s.to t.to k; order = le_prop s.order t.order k }

within_prop : {X : Type 0} (s : Span) (xs : List X) → IsProp (IsWithin s xs)
within_prop s xs = ×_prop le_prop le_prop

module _ {A : Type 0} (r : Rows A) where
  stands_prop : (s : Span) (t : List ℕ) → IsProp (Stands r s t)
  stands_prop s t = ×_prop (spans_prop r.text.now s.start s.end) (Coded-set (coded_list coded_ℕ) _ _)

  decoded_prop : (n : ℕ) (t : List ℕ) → IsProp (WasDecoded r n t)
  decoded_prop n t = Coded-set (coded_option (coded_list coded_ℕ)) _ _

  name_prop : (k : Name) (t : List ℕ) → IsProp (ShowsName r k t)
  name_prop (name.Lent s) t = stands_prop s t
  name_prop (name.Decoded n) t = decoded_prop n t

  mutual
    shows_prop : (x : Row) (p : Plain) → IsProp (Shows r x p)
    shows_prop Null null = Unit-prop
    shows_prop (Boolean b) (boolean c) = Coded-set coded_bool _ _
    shows_prop (Number s) (number t) = stands_prop s t
    shows_prop (Lent s) (string t) = stands_prop s t
    shows_prop (Decoded n) (string t) = decoded_prop n t
    shows_prop (Array s) (array vs) = ×_prop (within_prop s _) (items_prop _ vs)
    shows_prop (Object s) (object ms) = ×_prop (within_prop s _) (members_prop _ ms)
    shows_prop _ _ = ⊥_prop

    items_prop : (xs : List Row) (vs : Items) → IsProp (ShowsItems r xs vs)
    items_prop [] no_items = Unit-prop
    items_prop (x ∷ xs) (item v vs) = ×_prop (shows_prop x v) (items_prop xs vs)
    items_prop _ _ = ⊥_prop

    members_prop : (xs : List Member) (ms : Members) → IsProp (ShowsMembers r xs ms)
    members_prop [] no_members = Unit-prop
    members_prop (x ∷ xs) (member n v ms) = ×₃_prop (name_prop x.name n) (shows_prop x.value v) (members_prop xs ms)
    members_prop _ _ = ⊥_prop

  root_prop : (x : Option Row) (v : Option Plain) → IsProp (ShowsRoot r x v)
  root_prop None None = Unit-prop
  root_prop (Some x) (Some v) = shows_prop x v
  root_prop _ _ = ⊥_prop

  one_text : (n : ℕ) (t u : List ℕ) → WasDecoded r n t → WasDecoded r n u → t ≡ u
  one_text n t u h k = some_same (sym h ∙ k)
    where
      some_same : {X : Type 0} {x y : X} → Some x ≡ Some y → x ≡ y
      some_same e = cc

  pub one_name : (k : Name) (t u : List ℕ) → ShowsName r k t → ShowsName r k u → t ≡ u
  one_name (name.Lent s) t u h k = h.1 ∙ sym k.1
  one_name (name.Decoded n) t u h k = one_text n t u h k

  only_null : (q : Plain) → Shows r Null q → null ≡ q
  only_null null k = refl
  only_null _ k = absurd k

  only_boolean : (b c : Bool) (q : Plain) → b ≡ c → Shows r (Boolean b) q → boolean c ≡ q
  only_boolean b c (boolean d) h k = ap boolean (sym h ∙ k)
  only_boolean b c _ h k = absurd k

  only_number : (s : Span) (t : List ℕ) (q : Plain) → Stands r s t → Shows r (Number s) q → number t ≡ q
  only_number s t (number u) h k = ap number (h.1 ∙ sym k.1)
  only_number s t _ h k = absurd k

  only_lent : (s : Span) (t : List ℕ) (q : Plain) → Stands r s t → Shows r (Lent s) q → string t ≡ q
  only_lent s t (string u) h k = ap string (h.1 ∙ sym k.1)
  only_lent s t _ h k = absurd k

  only_decoded : (n : ℕ) (t : List ℕ) (q : Plain) → WasDecoded r n t → Shows r (Decoded n) q → string t ≡ q
  only_decoded n t (string u) h k = ap string (one_text n t u h k)
  only_decoded n t _ h k = absurd k

  mutual
    pub one_value : (x : Row) (p q : Plain) → Shows r x p → Shows r x q → p ≡ q
    one_value Null null q h k = only_null q k
    one_value (Boolean b) (boolean c) q h k = only_boolean b c q h k
    one_value (Number s) (number t) q h k = only_number s t q h k
    one_value (Lent s) (string t) q h k = only_lent s t q h k
    one_value (Decoded n) (string t) q h k = only_decoded n t q h k
    one_value (Array s) (array vs) (array ws) h k = ap array (one_items _ vs ws h.1 k.1)
    one_value (Array s) (array vs) _ h k = absurd k
    one_value (Object s) (object ms) (object ns) h k = ap object (one_members _ ms ns h.1 k.1)
    one_value (Object s) (object ms) _ h k = absurd k
    one_value _ _ _ h k = absurd h

    pub one_items : (xs : List Row) (vs ws : Items) → ShowsItems r xs vs → ShowsItems r xs ws → vs ≡ ws
    one_items [] no_items no_items h k = refl
    one_items [] no_items (item w ws) h k = absurd k
    one_items (x ∷ xs) (item v vs) (item w ws) h k = (λ j. item (one_value x v w h.0 k.0 j) (one_items xs vs ws h.1 k.1 j))
    one_items (x ∷ xs) (item v vs) no_items h k = absurd k
    one_items _ _ _ h k = absurd h

    pub one_members : (xs : List Member) (ms ns : Members) → ShowsMembers r xs ms → ShowsMembers r xs ns → ms ≡ ns
    one_members [] no_members no_members h k = refl
    one_members [] no_members (member n w ns) h k = absurd k
    one_members (x ∷ xs) (member m v ms) (member n w ns) h k = (λ j. member (one_name x.name m n h.0 k.0 j) (one_value x.value v w h.1 k.1 j) (one_members xs ms ns h.2 k.2 j))
    one_members (x ∷ xs) (member m v ms) no_members h k = absurd k
    one_members _ _ _ h k = absurd h

  pub one_root : (x : Option Row) (p q : Option Plain) → ShowsRoot r x p → ShowsRoot r x q → p ≡ q
  one_root None None None h k = refl
  one_root None None (Some q) h k = absurd k
  one_root (Some x) (Some p) (Some q) h k = ap Some (one_value x p q h k)
  one_root (Some x) (Some p) None h k = absurd k
  one_root _ _ _ h k = absurd h

  -- that there is one has one proof at most
  pub shown_items_prop : (xs : List Row) → IsProp ((vs : Items) × ShowsItems r xs vs)
  shown_items_prop xs s t = Σ_prop_path (items_prop xs) (one_items xs s.0 t.0 s.1 t.1)

  pub shown_members_prop : (xs : List Member) → IsProp ((ms : Members) × ShowsMembers r xs ms)
  shown_members_prop xs s t = Σ_prop_path (members_prop xs) (one_members xs s.0 t.0 s.1 t.1)

  pub shown_root_prop : (x : Option Row) → IsProp ((v : Option Plain) × ShowsRoot r x v)
  shown_root_prop x s t = Σ_prop_path (root_prop x) (one_root x s.0 t.0 s.1 t.1)
