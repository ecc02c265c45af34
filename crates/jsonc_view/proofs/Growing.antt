-- What rows show they show where there are more of them.
use Rattle.std.proofs.Common.{◌≡◌, ◌≤◌, ◌+◌, ◌-◌, ℕ, zero, suc, List, [], ◌∷◌, ◌++◌, length, take, drop, length-append, append_assoc, Option, Some, None, slice_get, refl, sym, ap, subst, ◌∙◌, arith, chars, string_bytes}
use Rattle.std.specs.Prelude.{slice_range, option_map}
use Rattle.std.proofs.lemmas.List.{append-nil}
use Rattle.jsonc_text.specs.Plain.{Plain, null, boolean, number, string, array, object, Items, no_items, item, Members, no_members, member}
use Rattle.jsonc_text.specs.Text.{Spans}
use Rattle.jsonc_view.specs.declared.rows.Member.{Member}
use Rattle.jsonc_view.specs.declared.rows.Name.{Name}
use Rattle.jsonc_view.specs.declared.rows.Name.TheVariants as name
use Rattle.jsonc_view.specs.declared.rows.Row.{Row}
use Rattle.jsonc_view.specs.declared.rows.Row.TheVariants.{Lent, Decoded, Number, Boolean, Object, Array, Null}
use Rattle.jsonc_view.specs.declared.rows.Rows.{Rows}
use Rattle.jsonc_view.specs.declared.rows.Span.{Span}
use Rattle.jsonc_view.specs.Made.{Extends, IsGrown}
use Rattle.jsonc_view.specs.Shown.{Stands, WasDecoded, IsWithin, ShowsName, Shows, ShowsItems, ShowsMembers}

module _ {X : Type 0} where
  pub extends_none : (xs : List X) → Extends xs xs
  extends_none xs = ([], sym (append-nil xs))

  pub extends_on : (xs ys zs : List X) → Extends xs ys → Extends ys zs → Extends xs zs
  extends_on xs ys zs h k = (h.0 ++ k.0, k.1 ∙ ap (λ l. l ++ k.0) h.1 ∙ append_assoc xs h.0 k.0)

  drop_front : (xs more : List X) (i : ℕ) → i ≤ length xs → drop i (xs ++ more) ≡ drop i xs ++ more
  drop_front xs more zero h = refl
  drop_front [] more (suc i) h = absurd (omega (arith, h))
  drop_front (x ∷ xs) more (suc i) h = drop_front xs more i (omega (arith, h))

  take_front : (xs more : List X) (k : ℕ) → k ≤ length xs → take k (xs ++ more) ≡ take k xs
  take_front xs more zero h = refl
  take_front [] more (suc k) h = absurd (omega (arith, h))
  take_front (x ∷ xs) more (suc k) h = ap (λ l. x ∷ l) (take_front xs more k (omega (arith, h)))

  left_length : (xs : List X) (i : ℕ) → i ≤ length xs → length (drop i xs) + i ≡ length xs
  left_length xs zero h = omega arith
  left_length [] (suc i) h = absurd (omega (arith, h))
  left_length (x ∷ xs) (suc i) h = omega (arith, left_length xs i (omega (arith, h)))

  range_front : (xs more : List X) (i j : ℕ) → i ≤ j → j ≤ length xs → slice_range (xs ++ more) i j ≡ slice_range xs i j
  range_front xs more i j order within =
      let inside : i ≤ length xs = omega (arith, order, within) in
      ap (take (j - i)) (drop_front xs more i inside) ∙ take_front (drop i xs) more (j - i) (omega (arith, order, within, left_length xs i inside))

  pub range_extended : (xs ys : List X) (s : Span) → Extends xs ys → IsWithin s xs → slice_range xs s.start s.end ≡ slice_range ys s.start s.end
  range_extended xs ys s h w = sym (ap (λ l. slice_range l s.start s.end) h.1 ∙ range_front xs h.0 s.start s.end w.0 w.1)

  pub within_extended : (xs ys : List X) (s : Span) → Extends xs ys → IsWithin s xs → IsWithin s ys
  within_extended xs ys s h w = (w.0, omega (arith, w.1, ap length h.1, length-append xs h.0))

  get_front : {Y : Type 0} (f : X → Y) (y : Y) (xs more : List X) (n : ℕ) → option_map f (slice_get xs n) ≡ Some y → option_map f (slice_get (xs ++ more) n) ≡ Some y
  get_front f y [] more n h = let never : ⊥ = cc in absurd never
  get_front f y (x ∷ xs) more zero h = h
  get_front f y (x ∷ xs) more (suc n) h = get_front f y xs more n h

  pub get_extended : {Y : Type 0} (f : X → Y) (y : Y) (xs ys : List X) (n : ℕ) → Extends xs ys → option_map f (slice_get xs n) ≡ Some y → option_map f (slice_get ys n) ≡ Some y
  get_extended f y xs ys n h k = ap (λ l. option_map f (slice_get l n)) h.1 ∙ get_front f y xs h.0 n k

  -- the item that was put last
  pub get_last : {Y : Type 0} (f : X → Y) (xs : List X) (x : X) → option_map f (slice_get (xs ++ x ∷ []) (length xs)) ≡ Some (f x)
  get_last f [] x = refl
  get_last f (y ∷ xs) x = get_last f xs x

  -- the items that were put last
  pub range_last : (xs more : List X) → slice_range (xs ++ more) (length xs) (length (xs ++ more)) ≡ more
  range_last xs more = ap (λ l. take (length (xs ++ more) - length xs) l) (behind xs) ∙ whole more (length (xs ++ more) - length xs) (omega (arith, length-append xs more))
    where
      behind : (xs : List X) → drop (length xs) (xs ++ more) ≡ more
      behind [] = refl
      behind (x ∷ xs) = behind xs

      whole : (ys : List X) (k : ℕ) → k ≡ length ys → take k ys ≡ ys
      whole [] zero h = refl
      whole [] (suc k) h = refl
      whole (y ∷ ys) zero h = absurd (omega (arith, h))
      whole (y ∷ ys) (suc k) h = ap (λ l. y ∷ l) (whole ys k (omega (arith, h)))

module _ {A : Type 0} where
  pub grown_none : (r : Rows A) → IsGrown r r
  grown_none r = record { text = refl; decoded = extends_none r.decoded.items; elements = extends_none r.elements.items; members = extends_none r.members.items }

  pub grown_on : (r q p : Rows A) → IsGrown r q → IsGrown q p → IsGrown r p
  grown_on r q p g h = record {
    text = h.text ∙ g.text;
    decoded = extends_on r.decoded.items q.decoded.items p.decoded.items g.decoded h.decoded;
    elements = extends_on r.elements.items q.elements.items p.elements.items g.elements h.elements;
    members = extends_on r.members.items q.members.items p.members.items g.members h.members;
  }

  module _ (r q : Rows A) (g : IsGrown r q) where
    stands_grown : (s : Span) (t : List ℕ) → Stands r s t → Stands q s t
    stands_grown s t h = subst (λ bytes. Spans bytes s.start s.end × (t ≡ chars (slice_range bytes s.start s.end))) (sym g.text) h

    decoded_grown : (n : ℕ) (t : List ℕ) → WasDecoded r n t → WasDecoded q n t
    decoded_grown n t h = get_extended (λ s. chars (string_bytes s)) t r.decoded.items q.decoded.items n g.decoded h

    pub name_grown : (k : Name) (t : List ℕ) → ShowsName r k t → ShowsName q k t
    name_grown (name.Lent s) t h = stands_grown s t h
    name_grown (name.Decoded n) t h = decoded_grown n t h

    mutual
      pub shows_grown : (x : Row) (p : Plain) → Shows r x p → Shows q x p
      shows_grown Null null h = tt
      shows_grown (Boolean b) (boolean c) h = h
      shows_grown (Number s) (number t) h = stands_grown s t h
      shows_grown (Lent s) (string t) h = stands_grown s t h
      shows_grown (Decoded n) (string t) h = decoded_grown n t h
      shows_grown (Array s) (array vs) h = (
        within_extended r.elements.items q.elements.items s g.elements h.0,
        subst (λ l. ShowsItems q l vs) (range_extended r.elements.items q.elements.items s g.elements h.0) (items_grown _ vs h.1),
      )
      shows_grown (Object s) (object ms) h = (
        within_extended r.members.items q.members.items s g.members h.0,
        subst (λ l. ShowsMembers q l ms) (range_extended r.members.items q.members.items s g.members h.0) (members_grown _ ms h.1),
      )
      shows_grown _ _ h = absurd h

      pub items_grown : (xs : List Row) (vs : Items) → ShowsItems r xs vs → ShowsItems q xs vs
      items_grown [] no_items h = tt
      items_grown (x ∷ xs) (item v vs) h = (shows_grown x v h.0, items_grown xs vs h.1)
      items_grown _ _ h = absurd h

      pub members_grown : (xs : List Member) (ms : Members) → ShowsMembers r xs ms → ShowsMembers q xs ms
      members_grown [] no_members h = tt
      members_grown (x ∷ xs) (member n v ms) h = (name_grown x.name n h.0, shows_grown x.value v h.1, members_grown xs ms h.2)
      members_grown _ _ h = absurd h
