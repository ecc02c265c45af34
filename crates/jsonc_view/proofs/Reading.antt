-- What is read of rows, by places and by names.
use Rattle.std.proofs.Common.{◌≡◌, ◌≤◌, ◌<◌, ◌+◌, ◌-◌, ℕ, zero, suc, Bool, true, false, cond, List, [], ◌∷◌, ◌++◌, length, take, drop, get_or, String, string_bytes, chars, Option, Some, None, slice_get, refl, sym, ap, subst, ◌∙◌, arith}
use Rattle.std.specs.Prelude.{option_map, reverse}
use Rattle.std.specs.Map.{lookup}
use Rattle.std.specs.Str.{bytes_eq}
use Rattle.jsonc_text.specs.Plain.{Plain, null, boolean, number, string, array, object, Items, no_items, item, Members, no_members, member}
use Rattle.jsonc_view.specs.declared.rows.Member.{Member}
use Rattle.jsonc_view.specs.declared.rows.Row.{Row}
use Rattle.jsonc_view.specs.declared.rows.Row.TheVariants.{Lent, Decoded, Number, Boolean, Object, Array, Null}
use Rattle.jsonc_view.specs.declared.rows.Rows.{Rows}
use Rattle.jsonc_view.specs.declared.rows.Span.{Span}
use Rattle.jsonc_view.specs.Lists.{list_of, pairs_of}
use Rattle.jsonc_view.specs.Shown.{Shows, ShowsItems, ShowsMembers, ShowsName, ShowsRoot, Stands, WasDecoded}
use Rattle.std.proofs.lemmas.List.{reverse-append, take_all}
use Rattle.jsonc_view.specs.Views.{last_named, value_there}

module _ {A : Type 0} (r : Rows A) where
  -- what the value of a row is, by its kind
  pub lent_in : (s : Span) (p : Plain) → Shows r (Lent s) p → (t : List ℕ) × Stands r s t × (p ≡ string t)
  lent_in s (string t) h = (t, h, refl)
  lent_in s _ h = absurd h

  pub decoded_in : (n : ℕ) (p : Plain) → Shows r (Decoded n) p → (t : List ℕ) × WasDecoded r n t × (p ≡ string t)
  decoded_in n (string t) h = (t, h, refl)
  decoded_in n _ h = absurd h

  pub number_in : (s : Span) (p : Plain) → Shows r (Number s) p → (t : List ℕ) × Stands r s t × (p ≡ number t)
  number_in s (number t) h = (t, h, refl)
  number_in s _ h = absurd h

  pub object_in : (s : Span) (p : Plain) → Shows r (Object s) p → (ms : Members) × Shows r (Object s) (object ms) × (p ≡ object ms)
  object_in s (object ms) h = (ms, h, refl)
  object_in s _ h = absurd h

  pub array_in : (s : Span) (p : Plain) → Shows r (Array s) p → (vs : Items) × Shows r (Array s) (array vs) × (p ≡ array vs)
  array_in s (array vs) h = (vs, h, refl)
  array_in s _ h = absurd h

  pub boolean_in : (b : Bool) (p : Plain) → Shows r (Boolean b) p → boolean b ≡ p
  boolean_in b (boolean c) h = ap boolean h
  boolean_in b _ h = absurd h

  pub null_in : (p : Plain) → Shows r Null p → null ≡ p
  null_in null h = refl
  null_in _ h = absurd h

others_whole : {X : Type 0} (y : X) (xs : List X) → take (length (y ∷ xs) - 1) (drop 1 (y ∷ xs)) ≡ xs
others_whole y xs = take_all (length (y ∷ xs) - 1) xs (omega arith)

module _ {A : Type 0} (r : Rows A) where
  pub count_items : (xs : List Row) (vs : Items) → ShowsItems r xs vs → length xs ≡ length (list_of vs)
  count_items [] no_items h = refl
  count_items (x ∷ xs) (item v vs) h = ap suc (count_items xs vs h.1)
  count_items _ _ h = absurd h

  pub count_members : (xs : List Member) (ms : Members) → ShowsMembers r xs ms → length xs ≡ length (pairs_of ms)
  count_members [] no_members h = refl
  count_members (x ∷ xs) (member n v ms) h = ap suc (count_members xs ms h.2)
  count_members _ _ h = absurd h

  -- the value of the element there
  pub record ItemThere (vs : Items) (x : Row) (i : ℕ) : Type 0 where
    pub value : Plain
    pub at : slice_get (list_of vs) i ≡ Some value
    pub shown : Shows r x value

  pub item_there : (xs : List Row) (vs : Items) (i : ℕ) (d : Row) → ShowsItems r xs vs → i < length xs → ItemThere vs (get_or xs i d) i
  item_there [] no_items i d h lt = absurd (omega (arith, lt))
  item_there (y ∷ xs) (item v vs) zero d h lt = record { value = v; at = refl; shown = h.0 }
  item_there (y ∷ xs) (item v vs) (suc i) d h lt = let t = item_there xs vs i d h.1 (omega (arith, lt)) in record { value = t.value; at = t.at; shown = t.shown }
  item_there _ _ i d h lt = absurd h

  pub no_item_there : (xs : List Row) (vs : Items) (i : ℕ) → ShowsItems r xs vs → length xs ≤ i → slice_get (list_of vs) i ≡ None
  no_item_there [] no_items i h le = refl
  no_item_there (y ∷ xs) (item v vs) zero h le = absurd (omega (arith, le))
  no_item_there (y ∷ xs) (item v vs) (suc i) h le = no_item_there xs vs i h.1 (omega (arith, le))
  no_item_there _ _ i h le = absurd h

  -- the first element, and those behind it
  pub record FirstItem (vs : Items) (x : Row) (xs : List Row) : Type 0 where
    pub value : Plain
    pub others : Items
    pub is : list_of vs ≡ value ∷ list_of others
    pub shown : Shows r x value
    pub left : ShowsItems r xs others

  pub first_item : (xs : List Row) (vs : Items) (d : Row) → ShowsItems r xs vs → 0 < length xs → FirstItem vs (get_or xs 0 d) (take (length xs - 1) (drop 1 xs))
  first_item [] no_items d h lt = absurd (omega (arith, lt))
  first_item (y ∷ xs) (item v vs) d h lt = record { value = v; others = vs; is = refl; shown = h.0; left = subst (λ l. ShowsItems r l vs) (sym (others_whole y xs)) h.1 }
  first_item _ _ d h lt = absurd h

  pub no_first_item : (xs : List Row) (vs : Items) → ShowsItems r xs vs → length xs ≡ 0 → list_of vs ≡ []
  no_first_item [] no_items h none = refl
  no_first_item (y ∷ xs) (item v vs) h none = absurd (omega (arith, none))
  no_first_item _ _ h none = absurd h

  -- the name and the value of the property there
  pub record MemberThere (ms : Members) (x : Member) (i : ℕ) : Type 0 where
    pub name : List ℕ
    pub value : Plain
    pub at : slice_get (pairs_of ms) i ≡ Some (name, value)
    pub named : ShowsName r x.name name
    pub shown : Shows r x.value value

  pub member_there : (xs : List Member) (ms : Members) (i : ℕ) (d : Member) → ShowsMembers r xs ms → i < length xs → MemberThere ms (get_or xs i d) i
  member_there [] no_members i d h lt = absurd (omega (arith, lt))
  member_there (y ∷ xs) (member n v ms) zero d h lt = record { name = n; value = v; at = refl; named = h.0; shown = h.1 }
  member_there (y ∷ xs) (member n v ms) (suc i) d h lt =
      let t = member_there xs ms i d h.2 (omega (arith, lt)) in
      record { name = t.name; value = t.value; at = t.at; named = t.named; shown = t.shown }
  member_there _ _ i d h lt = absurd h

  pub no_member_there : (xs : List Member) (ms : Members) (i : ℕ) → ShowsMembers r xs ms → length xs ≤ i → slice_get (pairs_of ms) i ≡ None
  no_member_there [] no_members i h le = refl
  no_member_there (y ∷ xs) (member n v ms) zero h le = absurd (omega (arith, le))
  no_member_there (y ∷ xs) (member n v ms) (suc i) h le = no_member_there xs ms i h.2 (omega (arith, le))
  no_member_there _ _ i h le = absurd h

  -- the first property, and those behind it
  pub record FirstMember (ms : Members) (x : Member) (xs : List Member) : Type 0 where
    pub name : List ℕ
    pub value : Plain
    pub others : Members
    pub is : pairs_of ms ≡ (name, value) ∷ pairs_of others
    pub named : ShowsName r x.name name
    pub shown : Shows r x.value value
    pub left : ShowsMembers r xs others

  pub first_member : (xs : List Member) (ms : Members) (d : Member) → ShowsMembers r xs ms → 0 < length xs → FirstMember ms (get_or xs 0 d) (take (length xs - 1) (drop 1 xs))
  first_member [] no_members d h lt = absurd (omega (arith, lt))
  first_member (y ∷ xs) (member n v ms) d h lt =
      record { name = n; value = v; others = ms; is = refl; named = h.0; shown = h.1; left = subst (λ l. ShowsMembers r l ms) (sym (others_whole y xs)) h.2 }
  first_member _ _ d h lt = absurd h

  pub no_first_member : (xs : List Member) (ms : Members) → ShowsMembers r xs ms → length xs ≡ 0 → pairs_of ms ≡ []
  no_first_member [] no_members h none = refl
  no_first_member (y ∷ xs) (member n v ms) h none = absurd (omega (arith, none))
  no_first_member _ _ h none = absurd h

  -- the value of the root
  pub record RootThere (v : Option Plain) (x : Row) : Type 0 where
    pub value : Plain
    pub is : v ≡ Some value
    pub shown : Shows r x value

  pub root_there : (root : Option Row) (v : Option Plain) (x : Row) → ShowsRoot r root v → root ≡ Some x → RootThere v x
  root_there (Some y) (Some p) x h e = let same : y ≡ x = cc in record { value = p; is = refl; shown = subst (λ z. Shows r z p) same h }
  root_there None None x h e = let never : ⊥ = cc in absurd never
  root_there _ _ x h e = absurd h

  pub no_root_there : (root : Option Row) (v : Option Plain) → ShowsRoot r root v → root ≡ None → v ≡ None
  no_root_there None None h e = refl
  no_root_there (Some y) (Some p) h e = let never : ⊥ = cc in absurd never
  no_root_there _ _ h e = absurd h

  -- the decoded string of a number is there
  pub decoded_there : (n : ℕ) (t : List ℕ) → WasDecoded r n t → n < length r.decoded.items
  decoded_there n t h = inside r.decoded.items n h
    where
      inside : (ss : List (String A)) (n : ℕ) → option_map (λ s. chars (string_bytes s)) (slice_get ss n) ≡ Some t → n < length ss
      inside [] n e = let never : ⊥ = cc in absurd never
      inside (s ∷ ss) zero e = omega arith
      inside (s ∷ ss) (suc n) e = omega (arith, inside ss n e)

  pub decoded_same : (n : ℕ) (t : List ℕ) (s : String A) → WasDecoded r n t → s ≡ get_or r.decoded.items n s → chars (string_bytes s) ≡ t
  decoded_same n t s h at = ap (λ s. chars (string_bytes s)) at ∙ same r.decoded.items n h
    where
      some_same : {X : Type 0} {x y : X} → Some x ≡ Some y → x ≡ y
      some_same e = cc

      same : (ss : List (String A)) (n : ℕ) → option_map (λ s. chars (string_bytes s)) (slice_get ss n) ≡ Some t → chars (string_bytes (get_or ss n s)) ≡ t
      same [] n e = let never : ⊥ = cc in absurd never
      same (z ∷ ss) zero e = some_same e
      same (z ∷ ss) (suc n) e = same ss n e

pub take_step : {X : Type 0} (xs : List X) (k : ℕ) (x : X) → slice_get xs k ≡ Some x → take (suc k) xs ≡ take k xs ++ x ∷ []
take_step [] k x e = let never : ⊥ = cc in absurd never
take_step (y ∷ xs) zero x e = let same : y ≡ x = cc in ap (λ z. z ∷ []) same
take_step (y ∷ xs) (suc k) x e = ap (λ l. y ∷ l) (take_step xs k x e)

-- one property more: the last of a name is this one, or one before it
pub last_step : (name : List ℕ) (ps : List (List ℕ × Plain)) (k : ℕ) (p : List ℕ × Plain) → slice_get ps k ≡ Some p → last_named name (take (suc k) ps) ≡ cond (bytes_eq name p.0) (Some p.1) (last_named name (take k ps))
last_step name ps k p e = ap (last_named name) (take_step ps k p e) ∙ ap (lookup (bytes_eq name)) (reverse-append (take k ps) (p ∷ []))

-- behind those that have another name
pub last_before : (name : List ℕ) (ps : List (List ℕ × Plain)) (k : ℕ) (p : List ℕ × Plain) → slice_get ps k ≡ Some p → bytes_eq name p.0 ≡ false → last_named name (take k ps) ≡ last_named name (take (suc k) ps)
last_before name ps k p e other = sym (last_step name ps k p e ∙ ap (λ b. cond b (Some p.1) (last_named name (take k ps))) other)

pub last_here : (name : List ℕ) (ps : List (List ℕ × Plain)) (k : ℕ) (p : List ℕ × Plain) → slice_get ps k ≡ Some p → bytes_eq name p.0 ≡ true → Some p.1 ≡ last_named name (take (suc k) ps)
last_here name ps k p e same = sym (last_step name ps k p e ∙ ap (λ b. cond b (Some p.1) (last_named name (take k ps))) same)
