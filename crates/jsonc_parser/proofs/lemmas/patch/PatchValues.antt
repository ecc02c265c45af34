-- Values of a syntax tree, level by level, with the names in them.
use Rattle.std.proofs.Common.{◌≡◌, ◌≢◌, ◌∙◌, ℕ, zero, suc, ◌+◌, ◌<◌, ◌≤◌, Bool, true, false, List, [], ◌∷◌, ◌++◌, length, get_or, take, map, chars, IsUtf8, All, refl, sym, ap, subst, arith, rules}
use Rattle.std.proofs.lemmas.List.Elements.{All-head, All-more, All-tail}
use Rattle.std.proofs.lemmas.List.{map_push, take_all, take_more}
use Rattle.std.proofs.lemmas.Bool.{false≢true}
use Rattle.std.proofs.lemmas.Slice.Eq.{bytes_eq-Decides}
use Rattle.std.specs.Cow.{cow_str_bytes}
use Rattle.std.specs.Str.{bytes_eq}
use Rattle.std.specs.declared.string.String.{String as Text}
use Rattle.jsonc_text.specs.Plain.{Plain, null, boolean, number, string, array, object, Items, item, Members, no_members, member}
use Rattle.jsonc_walk.specs.Name.{name_text, name_at}
use Rattle.jsonc_walk.specs.Located.{array_at, items_at, leaf_at, object_at, value_at, LocatedMember}
use Rattle.jsonc_ast.specs.Views.{items_located, located, member_of, members_located}
use Rattle.jsonc_ast.specs.Views as ast
use Rattle.jsonc_ast.specs.declared.ast.Array.{Array}
use Rattle.jsonc_ast.specs.declared.ast.BooleanLit.{BooleanLit}
use Rattle.jsonc_ast.specs.declared.ast.NullKeyword.{NullKeyword}
use Rattle.jsonc_ast.specs.declared.ast.NumberLit.{NumberLit}
use Rattle.jsonc_ast.specs.declared.ast.Object.{Object}
use Rattle.jsonc_ast.specs.declared.ast.Object as object_parts
use Rattle.jsonc_ast.specs.declared.ast.ObjectProp.{ObjectProp}
use Rattle.jsonc_walk.specs.declared.name.ObjectPropName.{ObjectPropName}
use Rattle.jsonc_walk.specs.declared.name.ObjectPropName.TheVariants.{String, Word}
use Rattle.jsonc_walk.specs.declared.name.StringLit.{StringLit}
use Rattle.jsonc_ast.specs.declared.ast.Value.{Value, the_lemmas}
use Rattle.jsonc_ast.specs.declared.ast.Value as value
use Rattle.jsonc_insert.specs.named.Members as lacks
use Rattle.jsonc_insert.specs.named.Members.{IsFirstMember, LacksMember, first_is, first_later}
use Rattle.jsonc_layout.proofs.lemmas.nodes.NodeNames.{same_text}
use Rattle.jsonc_layout.specs.declared.input.value.CstInputValue.{CstInputValue}
use Rattle.jsonc_layout.specs.input.Views as input
use Rattle.jsonc_layout.specs.input.Views.{chars_of, members_plain, named}
use Rattle.jsonc_parser.proofs.lemmas.patch.SeenNames.{AreTexts, Distinct}
use Rattle.jsonc_parser.specs.patch.Equality as equal
use Rattle.jsonc_parser.specs.patch.Equality.{HasMember, HasUniqueNames, ItemsHaveUniqueNames, MembersHaveUniqueNames, this_has, later_has}
use Rattle.jsonc_parser.specs.patch.PatchFaults.{IsFaultOfNames, IsFaultOfValue, repeats_here, repeats_in_element, repeats_in_member}
use Rattle.jsonc_parser.specs.patch.PatchReading.{ReportsRepeated, pair_of, said}
use Rattle.jsonc_parser.specs.patch.PatchTexts.{NamesDiffer}
use Rattle.jsonc_parser.specs.patch.References.{IsItem, this_item, later_item, IsRepeated, this_again, later_again}
use Rattle.jsonc_parser.specs.declared.patch.operation.OperationFault.{OperationFault}
use Rattle.jsonc_parser.specs.declared.patch.operation.OperationFault.TheVariants as fault

abbrev to_members : List (List ℕ × Plain) → Members
to_members [] = no_members
to_members (p ∷ ps) = member p.0 p.1 (to_members ps)

module _ {A : Type 0} where
  abbrev pub prop_name : ObjectProp A → List ℕ
  prop_name p = name_text p.name

  abbrev prop_value : ObjectProp A → Plain
  prop_value p = ast.plain p.value

  view-member : (p : ObjectProp A) → member_of p ≡ record { range = p.range; name = name_at p.name; value = located p.value }
  view-member p = search (rules, the_lemmas)

  name_chars : (n : ObjectPropName A) → (name_at n).name ≡ chars (name_text n)
  name_chars (String s) = refl
  name_chars (Word w) = refl

  said-cons : (p : ObjectProp A) (ps : List (ObjectProp A)) → said (p ∷ ps) ≡ member (chars (prop_name p)) (prop_value p) (said ps)
  said-cons p ps = ap (λ (m : LocatedMember). member m.name.name (value_at m.value) (said ps)) (view-member p) ∙ ap (λ n. member n (prop_value p) (said ps)) (name_chars p.name)

  view-Object : (o : Object A) → located (value.Object o) ≡ object_at (object_parts.out-Object A o).range (members_located (object_parts.out-Object A o).properties.items)
  view-Object o = search (rules, the_lemmas)

  view-Array : (a : Array A) → located (value.Array a) ≡ array_at a.range (items_located a.elements.items)
  view-Array a = search (rules, the_lemmas)

  view-StringLit : (s : StringLit A) → located (value.StringLit s) ≡ leaf_at s.range (string (chars (cow_str_bytes s.value)))
  view-StringLit s = search (rules, the_lemmas)

  pub plain-Object : (o : Object A) → ast.plain (value.Object o) ≡ object (said (object_parts.out-Object A o).properties.items)
  plain-Object o = ap value_at (view-Object o)

  pub plain-Array : (a : Array A) → ast.plain (value.Array a) ≡ array (items_at (items_located a.elements.items))
  plain-Array a = ap value_at (view-Array a)

  pub plain-StringLit : (s : StringLit A) → ast.plain (value.StringLit s) ≡ string (chars (cow_str_bytes s.value))
  plain-StringLit s = ap value_at (view-StringLit s)

  -- the element at a place
  pub item_there : (vs : List (Value A)) (i : ℕ) (v : Value A) → i < length vs → v ≡ get_or vs i v → IsItem (ast.plain v) i (items_at (items_located vs))
  item_there [] i v l e = absurd (omega (arith, l))
  item_there (x ∷ vs) zero v l e = subst (λ w. IsItem (ast.plain w) 0 (items_at (items_located (x ∷ vs)))) (sym e) this_item
  item_there (x ∷ vs) (suc i) v l e = later_item (item_there vs i v (omega (arith, l)) e)

  -- the member at a place
  pub member_there : (ps : List (ObjectProp A)) (i : ℕ) (p : ObjectProp A) → i < length ps → p ≡ get_or ps i p → HasMember (chars (prop_name p)) (prop_value p) (said ps)
  member_there [] i p l e = absurd (omega (arith, l))
  member_there (x ∷ ps) zero p l e = subst (λ q. HasMember (chars (prop_name q)) (prop_value q) (said (x ∷ ps))) (sym e) (subst (HasMember (chars (prop_name x)) (prop_value x)) (sym (said-cons x ps)) this_has)
  member_there (x ∷ ps) (suc i) p l e = subst (HasMember (chars (prop_name p)) (prop_value p)) (sym (said-cons x ps)) (later_has (member_there ps i p (omega (arith, l)) e))

  -- a name that no property has
  pub lacks_name : (ps : List (ObjectProp A)) (s : List ℕ) → IsUtf8 s → AreTexts (map prop_name ps) (length ps) → ((j : ℕ) → j < length ps → get_or (map prop_name ps) j [] ≡ s → ⊥) → LacksMember (chars s) (said ps)
  lacks_name [] s u texts h = lacks.no_more
  lacks_name (p ∷ ps) s u texts h =
      subst (LacksMember (chars s)) (sym (said-cons p ps)) (lacks.other_name
      (λ e. h 0 (omega arith) (same_text (prop_name p) s (texts 0 (omega arith)) u e))
      (lacks_name ps s u (λ j l. texts (suc j) (omega (arith, l))) (λ j l e. h (suc j) (omega (arith, l)) e)))

  pub names_differ : (ps : List (ObjectProp A)) → AreTexts (map prop_name ps) (length ps) → Distinct (map prop_name ps) (length ps) → NamesDiffer (said ps)
  names_differ [] texts h = tt
  names_differ (p ∷ ps) texts h =
      subst NamesDiffer (sym (said-cons p ps)) (
        lacks_name ps (prop_name p) (texts 0 (omega arith)) (λ j l. texts (suc j) (omega (arith, l))) (λ j l e. h 0 (suc j) (omega arith) (omega (arith, l)) (sym e)),
        names_differ ps (λ j l. texts (suc j) (omega (arith, l))) (λ j k b l e. h (suc j) (suc k) (omega (arith, b)) (omega (arith, l)) e),
      )

  -- a name that one of them has is that of a first one
  first_named : (ps : List (ObjectProp A)) (s : List ℕ) (i : ℕ) → i < length ps → IsUtf8 s → AreTexts (map prop_name ps) (i + 1) → get_or (map prop_name ps) i [] ≡ s → (k : ℕ) × IsFirstMember (chars s) k (said ps)
  first_named [] s i l u texts e = absurd (omega (arith, l))
  first_named (p ∷ ps) s zero l u texts e = (0, subst (IsFirstMember (chars s) 0) (sym (said-cons p ps)) (subst (λ n. IsFirstMember (chars s) 0 (member n (prop_value p) (said ps))) (sym (ap chars e)) first_is))
  first_named (p ∷ ps) s (suc i) l u texts e = by (bytes_eq (prop_name p) s) refl (first_named ps s i (omega (arith, l)) u (λ j m. texts (suc j) (omega (arith, m))) e)
    where
      by : (b : Bool) → bytes_eq (prop_name p) s ≡ b → ((k : ℕ) × IsFirstMember (chars s) k (said ps)) → (k : ℕ) × IsFirstMember (chars s) k (said (p ∷ ps))
      by true f rest =
          let same : prop_name p ≡ s = (bytes_eq-Decides (prop_name p) s).0 f in
          (0, subst (IsFirstMember (chars s) 0) (sym (said-cons p ps)) (subst (λ n. IsFirstMember (chars s) 0 (member n (prop_value p) (said ps))) (sym (ap chars same)) first_is))
      by false f rest =
          let other : chars (prop_name p) ≢ chars s = λ g. false≢true (sym f ∙ (bytes_eq-Decides (prop_name p) s).1 (same_text (prop_name p) s (texts 0 (omega arith)) u g)) in
          (suc rest.0, subst (IsFirstMember (chars s) (suc rest.0)) (sym (said-cons p ps)) (first_later other rest.1))

  -- a name that two of them have occurs twice
  pub repeated_name : (ps : List (ObjectProp A)) (s : List ℕ) (j i : ℕ) → j < i → i < length ps → IsUtf8 s → AreTexts (map prop_name ps) (i + 1) → get_or (map prop_name ps) j [] ≡ s → get_or (map prop_name ps) i [] ≡ s
      → IsRepeated (chars s) (said ps)
  repeated_name [] s j i b l u texts d e = absurd (omega (arith, l))
  repeated_name (p ∷ ps) s j zero b l u texts d e = absurd (omega (arith, b))
  repeated_name (p ∷ ps) s zero (suc i) b l u texts d e =
      let rest = first_named ps s i (omega (arith, l)) u (λ k m. texts (suc k) (omega (arith, m))) e in
      subst (IsRepeated (chars s)) (sym (said-cons p ps)) (subst (λ n. IsRepeated (chars s) (member n (prop_value p) (said ps))) (sym (ap chars d)) (this_again rest.1))
  repeated_name (p ∷ ps) s (suc j) (suc i) b l u texts d e =
      by (bytes_eq (prop_name p) s) refl (repeated_name ps s j i (omega (arith, b)) (omega (arith, l)) u (λ k m. texts (suc k) (omega (arith, m))) d e)
    where
      by : (c : Bool) → bytes_eq (prop_name p) s ≡ c → IsRepeated (chars s) (said ps) → IsRepeated (chars s) (said (p ∷ ps))
      by true f rest =
          let same : prop_name p ≡ s = (bytes_eq-Decides (prop_name p) s).0 f in
          let first = first_named ps s i (omega (arith, l)) u (λ k m. texts (suc k) (omega (arith, m))) e in
          subst (IsRepeated (chars s)) (sym (said-cons p ps)) (subst (λ n. IsRepeated (chars s) (member n (prop_value p) (said ps))) (sym (ap chars same)) (this_again first.1))
      by false f rest =
          let other : chars (prop_name p) ≢ chars s = λ g. false≢true (sym f ∙ (bytes_eq-Decides (prop_name p) s).1 (same_text (prop_name p) s (texts 0 (omega arith)) u g)) in
          subst (IsRepeated (chars s)) (sym (said-cons p ps)) (later_again other rest)

  -- what elements and properties represent, by lists of them
  pub items_said : (vs : List (Value A)) → items_at (items_located vs) ≡ input.items_of (map ast.plain vs)
  items_said [] = refl
  items_said (v ∷ vs) = ap (item (ast.plain v)) (items_said vs)

  said_pairs : (ps : List (ObjectProp A)) → said ps ≡ to_members (map pair_of ps)
  said_pairs [] = refl
  said_pairs (p ∷ ps) = said-cons p ps ∙ ap (member (chars (prop_name p)) (prop_value p)) (said_pairs ps)

  plain_pairs : (qs : List (Text A × CstInputValue A)) → members_plain qs ≡ to_members (map named qs)
  plain_pairs [] = refl
  plain_pairs (q ∷ qs) = ap (member (chars_of q.0) (input.plain q.1)) (plain_pairs qs)

  pub members_said : (qs : List (Text A × CstInputValue A)) (ps : List (ObjectProp A)) → map named qs ≡ map pair_of ps → members_plain qs ≡ said ps
  members_said qs ps e = plain_pairs qs ∙ ap to_members e ∙ sym (said_pairs ps)

  -- no name occurs twice in what is inside
  pub items_unique : (vs : List (Value A)) → All (λ v. HasUniqueNames (ast.plain v)) vs → ItemsHaveUniqueNames (items_at (items_located vs))
  items_unique [] h = equal.unique_end
  items_unique (v ∷ vs) h = equal.unique_item (All-head (λ x. HasUniqueNames (ast.plain x)) v vs h) (items_unique vs (All-tail (λ x. HasUniqueNames (ast.plain x)) v vs h))

  pub members_unique : (ps : List (ObjectProp A)) → NamesDiffer (said ps) → All (λ p. HasUniqueNames (prop_value p)) ps → MembersHaveUniqueNames (said ps)
  members_unique [] d h = equal.unique_last
  members_unique (p ∷ ps) d h =
      let differ = subst NamesDiffer (said-cons p ps) d in
      subst MembersHaveUniqueNames (sym (said-cons p ps)) (equal.unique_member differ.0 (All-head (λ x. HasUniqueNames (prop_value x)) p ps h) (members_unique ps differ.1 (All-tail (λ x. HasUniqueNames (prop_value x)) p ps h)))

  -- faults of what is inside
  pub fault_in_element : (vs : List (Value A)) (i : ℕ) (v : Value A) (e : OperationFault A) → i < length vs → v ≡ get_or vs i v → IsFaultOfValue (ast.plain v) e → IsFaultOfValue (array (items_at (items_located vs))) e
  fault_in_element vs i v (fault.RepeatedName name) l is h = repeats_in_element (item_there vs i v l is) h
  fault_in_element vs i v fault.OutOfMemory l is h = tt
  fault_in_element vs i v fault.NotAnObject l is h = absurd h
  fault_in_element vs i v (fault.Missing m) l is h = absurd h
  fault_in_element vs i v (fault.Wrong m) l is h = absurd h
  fault_in_element vs i v (fault.Pointer m e) l is h = absurd h

  pub fault_in_member : (ps : List (ObjectProp A)) (i : ℕ) (p : ObjectProp A) (e : OperationFault A) → i < length ps → p ≡ get_or ps i p → IsFaultOfValue (prop_value p) e → IsFaultOfValue (object (said ps)) e
  fault_in_member ps i p (fault.RepeatedName name) l is h = repeats_in_member (member_there ps i p l is) h
  fault_in_member ps i p fault.OutOfMemory l is h = tt
  fault_in_member ps i p fault.NotAnObject l is h = absurd h
  fault_in_member ps i p (fault.Missing m) l is h = absurd h
  fault_in_member ps i p (fault.Wrong m) l is h = absurd h
  fault_in_member ps i p (fault.Pointer m e) l is h = absurd h

  pub fault_of_names : (ms : Members) (e : OperationFault A) → IsFaultOfNames ms e → IsFaultOfValue (object ms) e
  fault_of_names ms (fault.RepeatedName name) h = repeats_here h
  fault_of_names ms fault.OutOfMemory h = tt
  fault_of_names ms fault.NotAnObject h = absurd h
  fault_of_names ms (fault.Missing m) h = absurd h
  fault_of_names ms (fault.Wrong m) h = absurd h
  fault_of_names ms (fault.Pointer m e) h = absurd h

  pub no_memory : (v : Plain) (e : OperationFault A) → e ≡ fault.OutOfMemory → IsFaultOfValue v e
  no_memory v e is = subst (IsFaultOfValue v) (sym is) tt

  -- a fault that reports a name that occurs twice
  pub reports_repeated : (ms : Members) (name : List ℕ) (e : OperationFault A) → ReportsRepeated name e → IsRepeated name ms → IsFaultOfNames ms e
  reports_repeated ms name (fault.RepeatedName s) h r = subst (λ n. IsRepeated n ms) (sym h) r
  reports_repeated ms name fault.OutOfMemory h r = tt
  reports_repeated ms name fault.NotAnObject h r = absurd h
  reports_repeated ms name (fault.Missing m) h r = absurd h
  reports_repeated ms name (fault.Wrong m) h r = absurd h
  reports_repeated ms name (fault.Pointer m e) h r = absurd h

pub plain-NumberLit : (A : Type 0) (n : NumberLit) → ast.plain {A = A} (value.NumberLit n) ≡ number (chars n.value.now)
plain-NumberLit A n = ap value_at (view A n)
  where
    view : (A : Type 0) (n : NumberLit) → located {A = A} (value.NumberLit n) ≡ leaf_at n.range (number (chars n.value.now))
    view A n = search (rules, the_lemmas)

pub plain-BooleanLit : (A : Type 0) (b : BooleanLit) → ast.plain {A = A} (value.BooleanLit b) ≡ boolean b.value
plain-BooleanLit A b = ap value_at (view A b)
  where
    view : (A : Type 0) (b : BooleanLit) → located {A = A} (value.BooleanLit b) ≡ leaf_at b.range (boolean b.value)
    view A b = search (rules, the_lemmas)

pub plain-NullKeyword : (A : Type 0) (n : NullKeyword) → ast.plain {A = A} (value.NullKeyword n) ≡ null
plain-NullKeyword A n = ap value_at (view A n)
  where
    view : (A : Type 0) (n : NullKeyword) → located {A = A} (value.NullKeyword n) ≡ leaf_at n.range null
    view A n = search (rules, the_lemmas)

-- one more is taken, and all are
pub one_taken : {X Y Z : Type 0} (f : X → Z) (h : Y → Z) (ys : List Y) (taken new : List X) (i : ℕ) (y : Y) (x : X) → map f taken ≡ map h (take i ys) → i < length ys → y ≡ get_or ys i y → f x ≡ h y → new ≡ taken ++ x ∷ []
    → map f new ≡ map h (take (i + 1) ys)
one_taken f h ys taken new i y x so_far l at same pushed =
    ap (map f) pushed ∙ map_push f taken x ∙ (λ j. so_far j ++ same j ∷ []) ∙ ap (λ z. map h (take i ys) ++ h z ∷ []) at
    ∙ sym (map_push h (take i ys) (get_or ys i y)) ∙ ap (map h) (sym (take_more ys i y l))

pub all_taken : {X Y Z : Type 0} (f : X → Z) (h : Y → Z) (ys : List Y) (taken : List X) (i : ℕ) → map f taken ≡ map h (take i ys) → length ys ≤ i → map f taken ≡ map h ys
all_taken f h ys taken i so_far past = so_far ∙ ap (map h) (take_all i ys past)

pub one_holds : {Y : Type 0} (P : Y → Type 0) (ys : List Y) (i : ℕ) (y : Y) → All P (take i ys) → i < length ys → y ≡ get_or ys i y → P y → All P (take (i + 1) ys)
one_holds P ys i y so_far l at h = All-more P ys i y l so_far (subst P at h)

pub all_hold : {Y : Type 0} (P : Y → Type 0) (ys : List Y) (i : ℕ) → All P (take i ys) → length ys ≤ i → All P ys
all_hold P ys i so_far past = subst (All P) (take_all i ys past) so_far

-- leaves have no names
module _ {A : Type 0} where
  pub leaf_unique_null : (v : Value A) → ast.plain v ≡ null → HasUniqueNames (ast.plain v)
  leaf_unique_null v e = subst HasUniqueNames (sym e) equal.unique_null

  pub leaf_unique_boolean : (v : Value A) (b : Bool) → ast.plain v ≡ boolean b → HasUniqueNames (ast.plain v)
  leaf_unique_boolean v b e = subst HasUniqueNames (sym e) equal.unique_boolean

  pub leaf_unique_number : (v : Value A) (s : List ℕ) → ast.plain v ≡ number s → HasUniqueNames (ast.plain v)
  leaf_unique_number v s e = subst HasUniqueNames (sym e) equal.unique_number

  pub leaf_unique_string : (v : Value A) (s : List ℕ) → ast.plain v ≡ string s → HasUniqueNames (ast.plain v)
  leaf_unique_string v s e = subst HasUniqueNames (sym e) equal.unique_string

  pub array_unique : (v : Value A) (vs : Items) → ast.plain v ≡ array vs → ItemsHaveUniqueNames vs → HasUniqueNames (ast.plain v)
  array_unique v vs e h = subst HasUniqueNames (sym e) (equal.unique_array h)

  pub object_unique : (v : Value A) (ms : Members) → ast.plain v ≡ object ms → MembersHaveUniqueNames ms → HasUniqueNames (ast.plain v)
  object_unique v ms e h = subst HasUniqueNames (sym e) (equal.unique_object h)

  pub fault_moved : (v : Value A) (p : Plain) (e : OperationFault A) → ast.plain v ≡ p → IsFaultOfValue p e → IsFaultOfValue (ast.plain v) e
  fault_moved v p e is h = subst (λ q. IsFaultOfValue q e) (sym is) h
