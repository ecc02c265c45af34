-- What containers hold, level by level.
use Rattle.std.proofs.Common.{◌≡◌, ℕ, suc, ◌+◌, ◌<◌, ◌≤◌, List, [], ◌∷◌, ◌++◌, map, take, get_or, length, refl, sym, ap, ◌∙◌, arith, rules}
use denote.Param.Weighed.{most, at_most}
use Rattle.std.proofs.lemmas.List.{length-map, map-append, take_all, get_or-map}
use Rattle.std.proofs.Math.Seq.{take-suc}
use Rattle.std.specs.Cow.{cow_str_bytes}
use Rattle.std.specs.declared.borrow.CowStr.{CowStr}
use Rattle.std.specs.List.{AllZip}
use Rattle.std.specs.Map.{keys_of, values_of}
use Rattle.jsonc_value.specs.Kinds.{properties, elements}
use Rattle.jsonc_value.specs.Contents.{Content, Properties, array, object, property, no_properties, content, contents, named_contents}
use Rattle.jsonc_value.specs.declared.value.JsonValue.{JsonValue, Array, Object, size-JsonValue, the_lemmas}
use Rattle.jsonc_value.specs.declared.value.JsonObject.{JsonObject, size-JsonObject}
use Rattle.jsonc_value.specs.declared.value.JsonArray.{JsonArray, size-JsonArray}

-- the properties, and then one more
abbrev grown : Properties → List ℕ → Content → Properties
grown no_properties k c = property k c no_properties
grown (property j d ps) k c = property j d (grown ps k c)

module _ {A : Type 0} where
  pub content-Array : (a : JsonArray A) → content (Array a) ≡ array (contents (elements a))
  content-Array a = search (rules, the_lemmas)

  pub content-Object : (o : JsonObject A) → content (Object o) ≡ object (named_contents (properties o))
  content-Object o = search (rules, the_lemmas)

  abbrev SameText : CowStr A → CowStr A → Type 0
  SameText k l = cow_str_bytes l ≡ cow_str_bytes k

  -- where pairs hold the same, their names are the same texts
  pub same_texts : (ps qs : List (CowStr A × JsonValue A)) → named_contents qs ≡ named_contents ps → AllZip SameText (keys_of ps) (keys_of qs)
  same_texts [] [] same = tt
  same_texts [] (q ∷ qs) same = let never : ⊥ = cc in absurd never
  same_texts (p ∷ ps) [] same = let never : ⊥ = cc in absurd never
  same_texts (p ∷ ps) (q ∷ qs) same =
      let first : cow_str_bytes q.0 ≡ cow_str_bytes p.0 = cc in
      let rest : named_contents qs ≡ named_contents ps = cc in
      (first, same_texts ps qs rest)

  named_push : (ps : List (CowStr A × JsonValue A)) (p : CowStr A × JsonValue A) → named_contents (ps ++ p ∷ []) ≡ grown (named_contents ps) (cow_str_bytes p.0) (content p.1)
  named_push [] p = refl
  named_push (q ∷ ps) p = ap (property (cow_str_bytes q.0) (content q.1)) (named_push ps p)

  pub one_pair_copied : (ps cs ds : List (CowStr A × JsonValue A)) (i : ℕ) (p d : CowStr A × JsonValue A)
      → named_contents cs ≡ named_contents (take i ps) → i < length ps → p ≡ get_or ps i p → cow_str_bytes d.0 ≡ cow_str_bytes p.0 → content d.1 ≡ content p.1 → ds ≡ cs ++ d ∷ []
      → named_contents ds ≡ named_contents (take (i + 1) ps)
  one_pair_copied ps cs ds i p d same within at name copy pushed =
      let next : i + 1 ≡ suc i = omega arith in
      let one : take (i + 1) ps ≡ take i ps ++ p ∷ [] = ap (λ n. take n ps) next ∙ take-suc ps i p within ∙ ap (λ x. take i ps ++ x ∷ []) (sym at) in
      ap named_contents pushed ∙ named_push cs d ∙ (λ j. grown (same j) (name j) (copy j)) ∙ sym (named_push (take i ps) p) ∙ ap named_contents (sym one)

  pub all_pairs_copied : (ps cs : List (CowStr A × JsonValue A)) (i : ℕ) → length ps ≤ i → named_contents cs ≡ named_contents (take i ps) → named_contents cs ≡ named_contents ps
  all_pairs_copied ps cs i h same = same ∙ ap named_contents (take_all i ps h)

  pub one_copied : (vs cs ds : List (JsonValue A)) (i : ℕ) (v d : JsonValue A)
      → map content cs ≡ map content (take i vs) → i < length vs → v ≡ get_or vs i v → content d ≡ content v → ds ≡ cs ++ d ∷ []
      → map content ds ≡ map content (take (i + 1) vs)
  one_copied vs cs ds i v d same within at copy pushed =
      let next : i + 1 ≡ suc i = omega arith in
      let one : take (i + 1) vs ≡ take i vs ++ v ∷ [] = ap (λ n. take n vs) next ∙ take-suc vs i v within ∙ ap (λ x. take i vs ++ x ∷ []) (sym at) in
      ap (map content) pushed ∙ map-append content cs (d ∷ []) ∙ (λ j. same j ++ copy j ∷ []) ∙ sym (map-append content (take i vs) (v ∷ [])) ∙ ap (map content) (sym one)

  pub all_copied : (vs cs : List (JsonValue A)) (i : ℕ) → length vs ≤ i → map content cs ≡ map content (take i vs) → map content cs ≡ map content vs
  all_copied vs cs i h same = same ∙ ap (map content) (take_all i vs h)

-- what is inside is less deep
pub size-in-array : (A : Type 0) (a : JsonArray A) → most (λ x. size-JsonValue A x) (elements a) < size-JsonArray A a
size-in-array A a = search (rules, the_lemmas)

pub size-of-array : (A : Type 0) (a : JsonArray A) → size-JsonArray A a < size-JsonValue A (Array a)
size-of-array A a = search (rules, the_lemmas)

pub size-in-object : (A : Type 0) (o : JsonObject A) → most (λ x. size-JsonValue A x) (values_of (properties o)) < size-JsonObject A o
size-in-object A o = search (rules, the_lemmas)

pub size-of-object : (A : Type 0) (o : JsonObject A) → size-JsonObject A o < size-JsonValue A (Object o)
size-of-object A o = search (rules, the_lemmas)

pub size-element : (A : Type 0) (vs : List (JsonValue A)) (i : ℕ) (v : JsonValue A) → i < length vs → v ≡ get_or vs i v → size-JsonValue A v ≤ most (λ x. size-JsonValue A x) vs
size-element A vs i v h e = let within = at_most (λ x. size-JsonValue A x) vs i v h in omega (arith, within, ap (λ x. size-JsonValue A x) e)

pub size-pair : (A : Type 0) (ps : List (CowStr A × JsonValue A)) (i : ℕ) (p : CowStr A × JsonValue A) → i < length ps → p ≡ get_or ps i p → size-JsonValue A p.1 ≤ most (λ x. size-JsonValue A x) (values_of ps)
size-pair A ps i p h e =
    size-element A (values_of ps) i p.1 (omega (arith, h, length-map ps (λ e. e.1))) (ap (λ q. q.1) e ∙ sym (get_or-map (λ e. e.1) ps i p p.1 h))
