-- Values of one content are equal.
use Rattle.std.proofs.Common.{ℕ, ◌≡◌, ◌∙◌, sym, Bool, true, false, cond, ◌&&◌, List, [], ◌∷◌, Option, Some, Bor, IsTrue, refl, subst, rules}
use denote.RattleType.{RattleType}
use mir.Syntax.{Dict}
use denote.Hole.Carrier
use Rattle.std.specs.Cmp.Lexicographic.{pointwise}
use Rattle.std.specs.Cow.{cow_str_bytes}
use Rattle.std.specs.Option.{option_eq}
use Rattle.std.specs.Map.{lookup}
use Rattle.std.specs.Str.{bytes_eq}
use Rattle.std.proofs.lemmas.Slice.Eq.{bytes_eq-Decides}
use Rattle.std.specs.declared.alloc.Allocator as alloc
use Rattle.std.specs.declared.borrow.CowStr.{CowStr}
use Rattle.jsonc_value.specs.Kinds.{properties, elements}
use Rattle.jsonc_value.specs.Names.{is_named}
use Rattle.jsonc_value.specs.Contents.{Content, null, boolean, number, string, array, object, Elements, no_elements, element, Properties, no_properties, property, content, contents, named_contents}
use Rattle.jsonc_value.specs.declared.value.JsonValue.{JsonValue, String, Number, Boolean, Array, Object, Null, JsonValue-F, out-JsonValue, roll-JsonValue, roll-out-JsonValue, the_lemmas}
use Rattle.jsonc_value.specs.declared.value.JsonValue.TheVariants.{rolls-String, rolls-Number, rolls-Boolean, rolls-Object, rolls-Array, rolls-Null, outs-Object, outs-Array}
use Rattle.jsonc_value.specs.declared.value.JsonObject.{JsonObject}
use Rattle.jsonc_value.specs.declared.value.JsonArray.{JsonArray}
use Rattle.jsonc_value.specs.contracts.value.JsonValuePartialEq.TheImpl.Laws as value-laws
use Rattle.jsonc_value.proofs.Contents.{content-Array, content-Object}
use Rattle.jsonc_value.proofs.Equality.{value_eq, object_eq, array_eq, array_eq_is, equal_at_names}

-- what a value of this content is
abbrev Shape : {A : Type 0} → Content → JsonValue A → Type 0
Shape null v = v ≡ Null
Shape (boolean b) v = v ≡ Boolean b
Shape (number n) v = (s : Bor (List ℕ)) × (v ≡ Number s) × (s.now ≡ n)
Shape {A} (string t) v = (s : CowStr A) × (v ≡ String s) × (cow_str_bytes s ≡ t)
Shape {A} (array es) v = (a : JsonArray A) × (v ≡ Array a) × (contents (elements a) ≡ es)
Shape {A} (object ps) v = (o : JsonObject A) × (v ≡ Object o) × (named_contents (properties o) ≡ ps)

content-String : {A : Type 0} (s : CowStr A) → content (String s) ≡ string (cow_str_bytes s)
content-String s = search (rules, the_lemmas)

module _ (A : Type 0) where
  content-Number : (s : Bor (List ℕ)) → content {A = A} (Number s) ≡ number s.now
  content-Number s = search (rules, the_lemmas)

  content-Boolean : (b : Bool) → content {A = A} (Boolean b) ≡ boolean b
  content-Boolean b = search (rules, the_lemmas)

  content-Null : content {A = A} Null ≡ null
  content-Null = search (rules, the_lemmas)

module _ {A : Type 0} where
  level_shape : (x : JsonValue-F A (JsonValue A) (JsonArray A) (JsonObject A)) → Shape (content (roll-JsonValue A x)) (roll-JsonValue A x)
  level_shape (JsonValue-F.String s) = subst (λ v. Shape (content v) v) (sym (rolls-String s)) (subst (λ c. Shape c (String s)) (sym (content-String s)) (s, refl, refl))
  level_shape (JsonValue-F.Number s) = subst (λ v. Shape (content v) v) (sym (rolls-Number s)) (subst (λ c. Shape {A = A} c (Number s)) (sym (content-Number A s)) (s, refl, refl))
  level_shape (JsonValue-F.Boolean b) = subst (λ v. Shape (content v) v) (sym (rolls-Boolean b)) (subst (λ c. Shape {A = A} c (Boolean b)) (sym (content-Boolean A b)) refl)
  level_shape (JsonValue-F.Object o) = subst (λ v. Shape (content v) v) (sym (rolls-Object o)) (subst (λ c. Shape c (Object o)) (sym (content-Object o)) (o, refl, refl))
  level_shape (JsonValue-F.Array a) = subst (λ v. Shape (content v) v) (sym (rolls-Array a)) (subst (λ c. Shape c (Array a)) (sym (content-Array a)) (a, refl, refl))
  level_shape JsonValue-F.Null = subst (λ v. Shape (content v) v) (sym rolls-Null) (subst (λ c. Shape {A = A} c Null) (sym (content-Null A)) refl)

  shape : (v : JsonValue A) (c : Content) → content v ≡ c → Shape c v
  shape v c e = subst (λ d. Shape d v) e (subst (λ w. Shape (content w) w) (roll-out-JsonValue A v) (level_shape (out-JsonValue A v)))

-- what is looked up under a name that may be the first one
here_or_later : {X : Type 0} (E : X → X → Bool) (b : Bool) (x y : X) (p q : Option X) → E x y ≡ true → option_eq E p q ≡ true → option_eq E (cond b (Some x) p) (cond b (Some y) q) ≡ true
here_or_later E true x y p q first rest = first
here_or_later E false x y p q first rest = rest

same_text : (s t n : List ℕ) → s ≡ n → t ≡ n → bytes_eq s t ≡ true
same_text s t n e f = (bytes_eq-Decides s t).1 (e ∙ sym f)

module _ (T : RattleType) (heap : alloc.Ghosts T.Denot) (d e : Dict) where
  abbrev E : JsonValue T.Denot → JsonValue T.Denot → Bool
  E = value_eq T heap d e

  eq-Null : E Null Null ≡ true
  unfolding out-JsonValue denote.Hole.Carrier.out
  eq-Null = value-laws.is T heap d e Null Null

  eq-String : (s t : CowStr T.Denot) → E (String s) (String t) ≡ bytes_eq (cow_str_bytes s) (cow_str_bytes t)
  unfolding out-JsonValue denote.Hole.Carrier.out
  eq-String s t = value-laws.is T heap d e (String s) (String t)

  eq-Number : (s t : Bor (List ℕ)) → E (Number s) (Number t) ≡ bytes_eq s.now t.now
  unfolding out-JsonValue denote.Hole.Carrier.out
  eq-Number s t = value-laws.is T heap d e (Number s) (Number t)

  eq-Boolean : (b : Bool) → E (Boolean b) (Boolean b) ≡ true
  unfolding out-JsonValue denote.Hole.Carrier.out
  eq-Boolean true = value-laws.is T heap d e (Boolean true) (Boolean true)
  eq-Boolean false = value-laws.is T heap d e (Boolean false) (Boolean false)

  eq-Array : (a b : JsonArray T.Denot) → E (Array a) (Array b) ≡ array_eq T heap d e a b
  eq-Array a b = value-laws.is T heap d e (Array a) (Array b) ∙ rw (outs-Array a, outs-Array b) refl

  eq-Object : (o p : JsonObject T.Denot) → E (Object o) (Object p) ≡ object_eq T heap d e o p
  eq-Object o p = value-laws.is T heap d e (Object o) (Object p) ∙ rw (outs-Object o, outs-Object p) refl

  mutual
    same_values : (c : Content) (v w : JsonValue T.Denot) → content v ≡ c → content w ≡ c → E v w ≡ true
    same_values null v w p q = (λ i. E (shape v null p i) (shape w null q i)) ∙ eq-Null
    same_values (boolean b) v w p q = (λ i. E (shape v (boolean b) p i) (shape w (boolean b) q i)) ∙ eq-Boolean b
    same_values (number n) v w p q =
        let s = shape v (number n) p in
        let t = shape w (number n) q in
        (λ i. E (s.1 i) (t.1 i)) ∙ eq-Number s.0 t.0 ∙ same_text s.0.now t.0.now n s.2 t.2
    same_values (string n) v w p q =
        let s = shape v (string n) p in
        let t = shape w (string n) q in
        (λ i. E (s.1 i) (t.1 i)) ∙ eq-String s.0 t.0 ∙ same_text (cow_str_bytes s.0) (cow_str_bytes t.0) n s.2 t.2
    same_values (array es) v w p q =
        let a = shape v (array es) p in
        let b = shape w (array es) q in
        (λ i. E (a.1 i) (b.1 i)) ∙ eq-Array a.0 b.0 ∙ array_eq_is T heap d e a.0 b.0 ∙ same_elements es (elements a.0) (elements b.0) a.2 b.2
    same_values (object ps) v w p q =
        let a = shape v (object ps) p in
        let b = shape w (object ps) q in
        (λ i. E (a.1 i) (b.1 i)) ∙ eq-Object a.0 b.0 ∙ (equal_at_names T heap d e a.0 b.0).1 (λ name. same_properties name ps (properties a.0) (properties b.0) a.2 b.2)

    same_elements : (es : Elements) (xs ys : List (JsonValue T.Denot)) → contents xs ≡ es → contents ys ≡ es → pointwise E xs ys ≡ true
    same_elements no_elements [] [] p q = refl
    same_elements no_elements [] (y ∷ ys) p q = let never : ⊥ = cc in absurd never
    same_elements no_elements (x ∷ xs) ys p q = let never : ⊥ = cc in absurd never
    same_elements (element c es) [] ys p q = let never : ⊥ = cc in absurd never
    same_elements (element c es) (x ∷ xs) [] p q = let never : ⊥ = cc in absurd never
    same_elements (element c es) (x ∷ xs) (y ∷ ys) p q =
        let first : content x ≡ c = cc in
        let second : content y ≡ c = cc in
        let more : contents xs ≡ es = cc in
        let others : contents ys ≡ es = cc in
        λ i. same_values c x y first second i && same_elements es xs ys more others i

    same_properties : (name : List ℕ) (ps : Properties) (xs ys : List (CowStr T.Denot × JsonValue T.Denot)) → named_contents xs ≡ ps → named_contents ys ≡ ps
        → option_eq E (lookup (is_named name) xs) (lookup (is_named name) ys) ≡ true
    same_properties name no_properties [] [] p q = refl
    same_properties name no_properties [] (y ∷ ys) p q = let never : ⊥ = cc in absurd never
    same_properties name no_properties (x ∷ xs) ys p q = let never : ⊥ = cc in absurd never
    same_properties name (property k c ps) [] ys p q = let never : ⊥ = cc in absurd never
    same_properties name (property k c ps) (x ∷ xs) [] p q = let never : ⊥ = cc in absurd never
    same_properties name (property k c ps) (x ∷ xs) (y ∷ ys) p q =
        let my_name : cow_str_bytes x.0 ≡ k = cc in
        let their_name : cow_str_bytes y.0 ≡ k = cc in
        let first : content x.1 ≡ c = cc in
        let second : content y.1 ≡ c = cc in
        let more : named_contents xs ≡ ps = cc in
        let others : named_contents ys ≡ ps = cc in
        (λ i. option_eq E (cond (bytes_eq name (my_name i)) (Some x.1) (lookup (is_named name) xs)) (cond (bytes_eq name (their_name i)) (Some y.1) (lookup (is_named name) ys)))
        ∙ here_or_later E (bytes_eq name k) x.1 y.1 (lookup (is_named name) xs) (lookup (is_named name) ys) (same_values c x.1 y.1 first second) (same_properties name ps xs ys more others)

  pub equal_values : (v w : JsonValue T.Denot) → content v ≡ content w → IsTrue (E v w)
  equal_values v w same = same_values (content w) v w same refl

  pub equal_objects : (o p : JsonObject T.Denot) → named_contents (properties o) ≡ named_contents (properties p) → IsTrue (object_eq T heap d e o p)
  equal_objects o p same =
      (equal_at_names T heap d e o p).1 (λ name. same_properties name (named_contents (properties p)) (properties o) (properties p) same refl)

  pub equal_arrays : (a b : JsonArray T.Denot) → contents (elements a) ≡ contents (elements b) → IsTrue (array_eq T heap d e a b)
  equal_arrays a b same = array_eq_is T heap d e a b ∙ same_elements (contents (elements b)) (elements a) (elements b) same refl
