-- Equal values, kind by kind, and lists of them from the first to the last.
use Rattle.std.proofs.Common.{◌≡◌, ◌∙◌, ℕ, zero, suc, ◌+◌, ◌<◌, ◌≤◌, Bool, true, false, List, [], ◌∷◌, length, get_or, drop, map, chars, string_bytes, Contains, Option, Some, IfSome, slice_get, refl, sym, ap, subst, arith, rules}
use Rattle.std.proofs.lemmas.Bool.{false≢true}
use Rattle.std.proofs.lemmas.List.{at_drop_more, drop_all, length-map}
use Rattle.std.proofs.lemmas.List.Elements.{Contains-append_right}
use Rattle.std.proofs.lemmas.Option.{get_or_from_slice_get, slice_get_within}
use Rattle.std.proofs.lemmas.Slice.Eq.{bytes_eq-Decides}
use Rattle.std.proofs.lemmas.Str.{IsUtf8-string_bytes}
use Rattle.std.specs.Str.{bytes_eq}
use mathlib.Core.Bool.{beq}
use Rattle.std.specs.Bool.{Decides}
use Rattle.std.specs.declared.string.String.{String}
use Rattle.jsonc_text.specs.Plain.{Plain, null, boolean, number, string, array, object, Items, no_items, item, Members, no_members, member}
use Rattle.jsonc_insert.specs.elements.Members.{member_count}
use Rattle.jsonc_insert.specs.named.Members as lacks
use Rattle.jsonc_insert.specs.named.Members.{LacksMember}
use Rattle.jsonc_layout.specs.declared.input.value.CstInputValue.{CstInputValue, the_lemmas}
use Rattle.jsonc_layout.specs.declared.input.value.CstInputValue as value
use Rattle.jsonc_layout.specs.input.Views.{chars_of, items_plain, members_plain, plain}
use Rattle.jsonc_layout.proofs.lemmas.nodes.NodeNames.{same_text}
use Rattle.jsonc_parser.proofs.lemmas.patch.SeenNames.{name_at}
use Rattle.jsonc_parser.specs.patch.Equality as equal
use Rattle.jsonc_parser.specs.patch.Equality.{AreEqual, AreItemsEqual, AreMembersIn, HasMember, HasUniqueNames, ItemsHaveUniqueNames, MembersHaveUniqueNames, this_has, later_has}

pub plain-Null : (A : Type 0) → plain {A = A} value.Null ≡ null
plain-Null A = search (rules, the_lemmas)

pub plain-Bool : (A : Type 0) (b : Bool) → plain {A = A} (value.Bool b) ≡ boolean b
plain-Bool A b = search (rules, the_lemmas)

no : {P : Type 0} → (P → ⊥) → Decides false P
no f = (λ e. absurd (false≢true e), λ h. absurd (f h))

yes : {P : Type 0} → P → Decides true P
yes p = (λ e. p, λ h. refl)

module _ (S : List ℕ → List ℕ → Type 0) where
  only_null : {w : Plain} → AreEqual S null w → w ≡ null
  only_null equal.nulls = refl

  only_boolean : {b : Bool} {w : Plain} → AreEqual S (boolean b) w → w ≡ boolean b
  only_boolean equal.booleans = refl

  only_number : {s : List ℕ} {w : Plain} → AreEqual S (number s) w → (t : List ℕ) × (w ≡ number t) × S s t
  only_number (equal.numbers {t = t} h) = (t, refl, h)

  only_string : {s : List ℕ} {w : Plain} → AreEqual S (string s) w → w ≡ string s
  only_string equal.strings = refl

  only_array : {vs : Items} {w : Plain} → AreEqual S (array vs) w → (ws : Items) × (w ≡ array ws) × AreItemsEqual S vs ws
  only_array (equal.arrays {ws = ws} h) = (ws, refl, h)

  pub only_object : {ms : Members} {w : Plain} → AreEqual S (object ms) w → (ns : Members) × (w ≡ object ns) × (member_count ms ≡ member_count ns) × AreMembersIn S ns ms
  only_object (equal.objects {ns = ns} count h) = (ns, refl, count, h)

  module _ (v w : Plain) (b : Bool) where
    pub null_told : v ≡ null → Decides b (w ≡ null) → Decides b (AreEqual S v w)
    null_told e d = subst (λ x. Decides b (AreEqual S x w)) (sym e) (λ t. subst (AreEqual S null) (sym (d.0 t)) equal.nulls, λ h. d.1 (only_null h))

    pub boolean_told : (x y : Bool) → v ≡ boolean x → w ≡ boolean y → Decides b (x ≡ y) → Decides b (AreEqual S v w)
    boolean_told x y e f d =
        subst (λ u. Decides b (AreEqual S u w)) (sym e) (
          λ t. subst (λ u. AreEqual S (boolean x) u) (ap boolean (d.0 t) ∙ sym f) equal.booleans,
          λ h. (let same : boolean y ≡ boolean x = sym f ∙ only_boolean h in d.1 (let back : x ≡ y = cc in back)),
        )

    pub number_told : (s t : List ℕ) → v ≡ number s → w ≡ number t → Decides b (S s t) → Decides b (AreEqual S v w)
    number_told s t e f d =
        subst (λ u. Decides b (AreEqual S u w)) (sym e) (
          λ k. subst (λ u. AreEqual S (number s) u) (sym f) (equal.numbers (d.0 k)),
          λ h. (let n = only_number h in let same : number n.0 ≡ number t = sym n.1 ∙ f in let back : n.0 ≡ t = cc in d.1 (subst (S s) back n.2)),
        )

    pub string_told : (s t : List ℕ) → v ≡ string s → w ≡ string t → Decides b (s ≡ t) → Decides b (AreEqual S v w)
    string_told s t e f d =
        subst (λ u. Decides b (AreEqual S u w)) (sym e) (
          λ k. subst (λ u. AreEqual S (string s) u) (ap string (d.0 k) ∙ sym f) equal.strings,
          λ h. (let same : string t ≡ string s = sym f ∙ only_string h in let back : s ≡ t = cc in d.1 back),
        )

    pub array_told : (vs ws : Items) → v ≡ array vs → w ≡ array ws → Decides b (AreItemsEqual S vs ws) → Decides b (AreEqual S v w)
    array_told vs ws e f d =
        subst (λ u. Decides b (AreEqual S u w)) (sym e) (
          λ k. subst (λ u. AreEqual S (array vs) u) (sym f) (equal.arrays (d.0 k)),
          λ h. (let n = only_array h in let same : array n.0 ≡ array ws = sym n.1 ∙ f in let back : n.0 ≡ ws = cc in d.1 (subst (AreItemsEqual S vs) back n.2)),
        )

    pub object_told : (ms ns : Members) → v ≡ object ms → w ≡ object ns → Decides b (AreEqual S (object ms) (object ns)) → Decides b (AreEqual S v w)
    object_told ms ns e f d = subst (λ u. Decides b (AreEqual S u w)) (sym e) (subst (λ u. Decides b (AreEqual S (object ms) u)) (sym f) d)

  module _ (v w : Plain) where
    pub no_boolean : (x : Bool) → v ≡ boolean x → ((y : Bool) → w ≡ boolean y → ⊥) → Decides false (AreEqual S v w)
    no_boolean x e f = no (λ h. f x (only_boolean (subst (λ u. AreEqual S u w) e h)))

    pub no_number : (s : List ℕ) → v ≡ number s → ((t : List ℕ) → w ≡ number t → ⊥) → Decides false (AreEqual S v w)
    no_number s e f = no (λ h. (let n = only_number (subst (λ u. AreEqual S u w) e h) in f n.0 n.1))

    pub no_string : (s : List ℕ) → v ≡ string s → ((t : List ℕ) → w ≡ string t → ⊥) → Decides false (AreEqual S v w)
    no_string s e f = no (λ h. f s (only_string (subst (λ u. AreEqual S u w) e h)))

    pub no_array : (vs : Items) → v ≡ array vs → ((ws : Items) → w ≡ array ws → ⊥) → Decides false (AreEqual S v w)
    no_array vs e f = no (λ h. (let n = only_array (subst (λ u. AreEqual S u w) e h) in f n.0 n.1))

    pub no_object : (ms : Members) → v ≡ object ms → ((ns : Members) → w ≡ object ns → ⊥) → Decides false (AreEqual S v w)
    no_object ms e f = no (λ h. (let n = only_object (subst (λ u. AreEqual S u w) e h) in f n.0 n.1))

  -- elements, from the first to the last
  both_told : (v w : Plain) (vs ws : Items) (b : Bool) → AreEqual S v w → Decides b (AreItemsEqual S vs ws) → Decides b (AreItemsEqual S (item v vs) (item w ws))
  both_told v w vs ws b h d = (λ t. equal.both h (d.0 t), λ k. d.1 (rest k))
    where
      rest : AreItemsEqual S (item v vs) (item w ws) → AreItemsEqual S vs ws
      rest (equal.both h k) = k

  first_differs : (v w : Plain) (vs ws : Items) → (AreEqual S v w → ⊥) → Decides false (AreItemsEqual S (item v vs) (item w ws))
  first_differs v w vs ws f = no first
    where
      first : AreItemsEqual S (item v vs) (item w ws) → ⊥
      first (equal.both h k) = f h

  module _ {A : Type 0} where
    -- what is decided of the elements from this place on is decided of all
    abbrev pub AreTold : List (CstInputValue A) → List (CstInputValue A) → ℕ → Type 0
    AreTold vs ws i = (b : Bool) → Decides b (AreItemsEqual S (items_plain (drop i vs)) (items_plain (drop i ws))) → Decides b (AreItemsEqual S (items_plain vs) (items_plain ws))

    row_at : (vs : List (CstInputValue A)) (i : ℕ) (v : CstInputValue A) → i < length vs → v ≡ get_or vs i v → items_plain (drop i vs) ≡ item (plain v) (items_plain (drop (i + 1) vs))
    row_at vs i v l e = at_drop_more items_plain vs i v l ∙ ap (λ x. item (plain x) (items_plain (drop (i + 1) vs))) (sym e)

    module _ (vs ws : List (CstInputValue A)) (i : ℕ) (v w : CstInputValue A) (lv : i < length vs) (lw : i < length ws) (ev : v ≡ get_or vs i v) (ew : w ≡ get_or ws i w) (h : AreTold vs ws i) where
      pub one_differs : Decides false (AreEqual S (plain v) (plain w)) → Decides false (AreItemsEqual S (items_plain vs) (items_plain ws))
      one_differs d =
          h false (rw (row_at vs i v lv ev, row_at ws i w lw ew) (first_differs (plain v) (plain w) (items_plain (drop (i + 1) vs)) (items_plain (drop (i + 1) ws)) (λ k. false≢true (d.1 k))))

      pub one_equal : Decides true (AreEqual S (plain v) (plain w)) → AreTold vs ws (i + 1)
      one_equal d = λ b k. h b (rw (row_at vs i v lv ev, row_at ws i w lw ew) (both_told (plain v) (plain w) (items_plain (drop (i + 1) vs)) (items_plain (drop (i + 1) ws)) b (d.0 refl) k))

    pub all_equal : (vs ws : List (CstInputValue A)) (i : ℕ) → length vs ≡ length ws → length vs ≤ i → AreTold vs ws i → Decides true (AreItemsEqual S (items_plain vs) (items_plain ws))
    all_equal vs ws i same past h = h true (rw (drop_all i vs past, drop_all i ws (omega (arith, same))) (yes equal.no_more))

    pub lengths_differ : (vs ws : List (CstInputValue A)) → (length vs ≡ length ws → ⊥) → Decides false (AreItemsEqual S (items_plain vs) (items_plain ws))
    lengths_differ vs ws f = no (λ h. f (go vs ws h))
      where
        go : (vs ws : List (CstInputValue A)) → AreItemsEqual S (items_plain vs) (items_plain ws) → length vs ≡ length ws
        go [] [] h = refl
        go (v ∷ vs) (w ∷ ws) (equal.both h k) = ap suc (go vs ws k)
        go [] (w ∷ ws) h = elim h [ ]
        go (v ∷ vs) [] h = elim h [ ]

    -- members, from the first to the last
    pub count_is : (ps : List (String A × CstInputValue A)) → member_count (members_plain ps) ≡ length ps
    count_is [] = refl
    count_is (p ∷ ps) = ap suc (count_is ps)

-- an element of a value without repeated names has none either
pub unique_item : {A : Type 0} (ws : List (CstInputValue A)) (i : ℕ) (w : CstInputValue A) → ItemsHaveUniqueNames (items_plain ws) → i < length ws → w ≡ get_or ws i w → HasUniqueNames (plain w)
unique_item [] i w h l e = absurd (omega (arith, l))
unique_item (x ∷ ws) zero w (equal.unique_item h k) l e = subst (λ v. HasUniqueNames (plain v)) (sym e) h
unique_item (x ∷ ws) (suc i) w (equal.unique_item h k) l e = unique_item ws i w k (omega (arith, l)) e

pub unique_member : {A : Type 0} (ps : List (String A × CstInputValue A)) (i : ℕ) (p : String A × CstInputValue A) → MembersHaveUniqueNames (members_plain ps) → i < length ps → p ≡ get_or ps i p → HasUniqueNames (plain p.1)
unique_member [] i p h l e = absurd (omega (arith, l))
unique_member (x ∷ ps) zero p (equal.unique_member f h k) l e = subst (λ q. HasUniqueNames (plain q.1)) (sym e) h
unique_member (x ∷ ps) (suc i) p (equal.unique_member f h k) l e = unique_member ps i p k (omega (arith, l)) e

pub has_member : {A : Type 0} (ps : List (String A × CstInputValue A)) (i : ℕ) (p : String A × CstInputValue A) → i < length ps → p ≡ get_or ps i p → HasMember (chars_of p.0) (plain p.1) (members_plain ps)
has_member [] i p l e = absurd (omega (arith, l))
has_member (x ∷ ps) zero p l e = subst (λ q. HasMember (chars_of q.0) (plain q.1) (members_plain (x ∷ ps))) (sym e) this_has
has_member (x ∷ ps) (suc i) p l e = later_has (has_member ps i p (omega (arith, l)) e)

lacks_it : {name : List ℕ} {v : Plain} {ns : Members} → LacksMember name ns → HasMember name v ns → ⊥
lacks_it lacks.no_more k = elim k [ ]
lacks_it (lacks.other_name other h) this_has = other refl
lacks_it (lacks.other_name other h) (later_has k) = lacks_it h k

only_one : {name other : List ℕ} {v w : Plain} {ns : Members} → name ≡ other → MembersHaveUniqueNames ns → HasMember name v ns → HasMember other w ns → v ≡ w
only_one e equal.unique_last p q = elim p [ ]
only_one e (equal.unique_member f h k) this_has this_has = refl
only_one {w = w} e (equal.unique_member {ms = ms} f h k) this_has (later_has q) = absurd (lacks_it f (subst (λ n. HasMember n w ms) (sym e) q))
only_one {v = v} e (equal.unique_member {ms = ms} f h k) (later_has p) this_has = absurd (lacks_it f (subst (λ n. HasMember n v ms) e p))
only_one e (equal.unique_member f h k) (later_has p) (later_has q) = only_one e k p q

module _ (S : List ℕ → List ℕ → Type 0) where
  rest_in : {name : List ℕ} {v : Plain} {ms ns : Members} → AreMembersIn S ns (member name v ms) → AreMembersIn S ns ms
  rest_in (equal.one h e k) = k

  first_in : {name : List ℕ} {v : Plain} {ms ns : Members} → AreMembersIn S ns (member name v ms) → (w : Plain) × HasMember name w ns × AreEqual S v w
  first_in (equal.one {w = w} h e k) = (w, h, e)

module _ (S : List ℕ → List ℕ → Type 0) {A : Type 0} where
  -- what is decided of the members from this place on is decided of all
  abbrev pub AreMembersTold : List (String A × CstInputValue A) → List (String A × CstInputValue A) → ℕ → Type 0
  AreMembersTold ps qs i = (b : Bool) → Decides b (AreMembersIn S (members_plain qs) (members_plain (drop i ps))) → Decides b (AreMembersIn S (members_plain qs) (members_plain ps))

  members_at : (ps : List (String A × CstInputValue A)) (i : ℕ) (p : String A × CstInputValue A) → i < length ps → p ≡ get_or ps i p
      → members_plain (drop i ps) ≡ member (chars_of p.0) (plain p.1) (members_plain (drop (i + 1) ps))
  members_at ps i p l e = at_drop_more members_plain ps i p l ∙ ap (λ q. member (chars_of q.0) (plain q.1) (members_plain (drop (i + 1) ps))) (sym e)

  module _ (ps qs : List (String A × CstInputValue A)) (i : ℕ) (p : String A × CstInputValue A) (lp : i < length ps) (ep : p ≡ get_or ps i p) (h : AreMembersTold ps qs i) where
    pub none_named : LacksMember (chars_of p.0) (members_plain qs) → Decides false (AreMembersIn S (members_plain qs) (members_plain ps))
    none_named f = h false (rw (members_at ps i p lp ep) (no (λ k. (let n = first_in S k in lacks_it f n.1))))

    module _ (j : ℕ) (q : String A × CstInputValue A) (lq : j < length qs) (eq : q ≡ get_or qs j q) (named : chars_of q.0 ≡ chars_of p.0) where
      there : HasMember (chars_of p.0) (plain q.1) (members_plain qs)
      there = subst (λ n. HasMember n (plain q.1) (members_plain qs)) named (has_member qs j q lq eq)

      pub value_differs : MembersHaveUniqueNames (members_plain qs) → Decides false (AreEqual S (plain p.1) (plain q.1)) → Decides false (AreMembersIn S (members_plain qs) (members_plain ps))
      value_differs unique d =
          h false (rw (members_at ps i p lp ep) (no (λ k. (let n = first_in S k in false≢true (d.1 (subst (AreEqual S (plain p.1)) (only_one refl unique n.1 there) n.2))))))

      pub value_equal : Decides true (AreEqual S (plain p.1) (plain q.1)) → AreMembersTold ps qs (i + 1)
      value_equal d = λ b k. h b (rw (members_at ps i p lp ep) (λ t. equal.one there (d.0 refl) (k.0 t), λ m. k.1 (rest_in S m)))

  pub all_in : (ps qs : List (String A × CstInputValue A)) (i : ℕ) → length ps ≤ i → AreMembersTold ps qs i → Decides true (AreMembersIn S (members_plain qs) (members_plain ps))
  all_in ps qs i past h = h true (rw (drop_all i ps past) (yes equal.none))

  -- as many members, each in the other
  pub objects_told : (ps qs : List (String A × CstInputValue A)) (b : Bool) → length ps ≡ length qs → Decides b (AreMembersIn S (members_plain qs) (members_plain ps)) → Decides b (AreEqual S (object (members_plain ps)) (object (members_plain qs)))
  objects_told ps qs b same d = (
    λ t. equal.objects (count_is S ps ∙ same ∙ sym (count_is S qs)) (d.0 t),
    λ h. (let n = only_object S h in let o : object (members_plain qs) ≡ object n.0 = n.1 in let e : members_plain qs ≡ n.0 = cc in d.1 (subst (λ ns. AreMembersIn S ns (members_plain ps)) (sym e) n.3)),
  )

  pub counts_differ : (ps qs : List (String A × CstInputValue A)) → (length ps ≡ length qs → ⊥) → Decides false (AreEqual S (object (members_plain ps)) (object (members_plain qs)))
  counts_differ ps qs f =
      no (λ h. (let n = only_object S h in let o : object (members_plain qs) ≡ object n.0 = n.1 in let e : members_plain qs ≡ n.0 = cc in f (sym (count_is S ps) ∙ n.2 ∙ ap member_count (sym e) ∙ count_is S qs)))

-- the bytes of a member's name
abbrev pub name_bytes : {A : Type 0} → String A × CstInputValue A → List ℕ
name_bytes p = string_bytes p.0

module _ {A : Type 0} where
  named_there : (ps : List (String A × CstInputValue A)) (i : ℕ) → i < length ps → (v : Plain) × HasMember (chars (get_or (map name_bytes ps) i [])) v (members_plain ps)
  named_there [] i l = absurd (omega (arith, l))
  named_there (p ∷ ps) zero l = (plain p.1, this_has)
  named_there (p ∷ ps) (suc i) l = (let n = named_there ps i (omega (arith, l)) in (n.0, later_has n.1))

  -- where a name occurs twice, names are not unique
  pub twice_named : (ps : List (String A × CstInputValue A)) (i j : ℕ) → j < i → i < length ps → get_or (map name_bytes ps) j [] ≡ get_or (map name_bytes ps) i []
      → MembersHaveUniqueNames (members_plain ps) → ⊥
  twice_named [] i j below l e h = absurd (omega (arith, l))
  twice_named (p ∷ ps) zero j below l e h = absurd (omega (arith, below))
  twice_named (p ∷ ps) (suc i) zero below l e (equal.unique_member f h k) =
      let n = named_there ps i (omega (arith, l)) in lacks_it f (subst (λ s. HasMember (chars s) n.0 (members_plain ps)) (sym e) n.1)
  twice_named (p ∷ ps) (suc i) (suc j) below l e (equal.unique_member f h k) = twice_named ps i j (omega (arith, below)) (omega (arith, l)) e k

  -- a name that is not among those of members is that of none
  pub lacks_from : (qs : List (String A × CstInputValue A)) (s : String A) → (Contains (map name_bytes qs) (string_bytes s) → ⊥) → LacksMember (chars_of s) (members_plain qs)
  lacks_from [] s h = lacks.no_more
  lacks_from (q ∷ qs) s h =
      lacks.other_name
      (λ e. h (0, omega arith, same_text (string_bytes q.0) (string_bytes s) (IsUtf8-string_bytes q.0) (IsUtf8-string_bytes s) e))
      (lacks_from qs s (λ k. h (Contains-append_right (name_bytes q ∷ []) (map name_bytes qs) (string_bytes s) k)))

  -- what is at the place of a name
  module _ (qs : List (String A × CstInputValue A)) (keys : List (List ℕ)) (name : List ℕ) (i : ℕ) (are : keys ≡ map name_bytes qs) (at : slice_get keys i ≡ Some name) where
    pub place_within : i < length qs
    place_within = omega (arith, slice_get_within keys i name at, ap length are, length-map qs name_bytes)

    pub place_named : (q : String A × CstInputValue A) → q ≡ get_or qs i q → string_bytes q.0 ≡ name
    place_named q e = sym (name_at name_bytes qs i q place_within e) ∙ ap (λ l. get_or l i []) (sym are) ∙ get_or_from_slice_get keys i name [] at

-- texts are equal where their bytes are
pub texts_told : {A B : Type 0} (s : String A) (t : String B) (x y : List ℕ) (b : Bool) → x ≡ string_bytes s → y ≡ string_bytes t → b ≡ bytes_eq x y → Decides b (chars_of s ≡ chars_of t)
texts_told s t x y b e f is =
    let same = bytes_eq-Decides x y in (
      λ h. ap chars (sym e ∙ same.0 (sym is ∙ h) ∙ f),
      λ h. is ∙ same.1 (e ∙ same_text (string_bytes s) (string_bytes t) (IsUtf8-string_bytes s) (IsUtf8-string_bytes t) h ∙ sym f),
    )

pub beq_told : (x y : Bool) → Decides (beq x y) (x ≡ y)
beq_told true true = (λ e. refl, λ e. refl)
beq_told true false = (λ e. absurd (false≢true e), λ e. sym e)
beq_told false true = (λ e. absurd (false≢true e), λ e. e)
beq_told false false = (λ e. refl, λ e. refl)

pub of_some : {X : Type 0} (P : X → Type 0) (o : Option X) (x : X) → o ≡ Some x → IfSome o P → P x
of_some P o x e h = subst (λ r. IfSome r P) e h

-- in an array and an object
pub unique_in_array : {vs : Items} → HasUniqueNames (array vs) → ItemsHaveUniqueNames vs
unique_in_array (equal.unique_array h) = h

pub unique_in_object : {ms : Members} → HasUniqueNames (object ms) → MembersHaveUniqueNames ms
unique_in_object (equal.unique_object h) = h
