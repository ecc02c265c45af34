-- Strings and names that are lent by their text.
use Rattle.std.proofs.Common.{ℕ, ◌≡◌, ◌∙◌, ◌++◌, sym, ap, subst, refl, Bool, true, false, cond, List, [], ◌∷◌, map, Option, Some, None, IfSome, rules}
use Rattle.std.specs.List.{flat_map}
use Rattle.std.specs.declared.borrow.CowStr.{CowStr}
use Rattle.std.proofs.lemmas.List.{append-nil, map_push}
use Rattle.std.proofs.lemmas.List.Elements.{All-append, All-cons, All-nil, All-head, All-tail}
use Rattle.std.proofs.lemmas.List.Concat.{flat_map-cons}
use Rattle.std.proofs.lemmas.Grind.{flat_map-append}
use Rattle.indexmap.specs.IndexMap.{insert_all}
use Rattle.jsonc_text.specs.declared.common.Range.{Range}
use Rattle.jsonc_text.specs.Plain.{string}
use Rattle.jsonc_walk.specs.Located.{Located, leaf_at}
use Rattle.jsonc_walk.specs.Handed.{IsDocumentMade, MadeBetweenGaps, Source}
use Rattle.jsonc_value.specs.Kinds.{elements, properties}
use Rattle.jsonc_value.specs.declared.to_value.values.ValueMaker.{ValueMaker}
use Rattle.jsonc_value.specs.declared.value.JsonArray.{JsonArray}
use Rattle.jsonc_value.specs.declared.value.JsonObject.{JsonObject}
use Rattle.jsonc_value.specs.declared.value.JsonValue.{JsonValue, the_lemmas}
use Rattle.jsonc_value.specs.declared.value.JsonValue.TheVariants.{String, Array, Object}
use Rattle.jsonc_value.specs.to_value.Lent.{AreLent, IsLent, texts, texts_in_elements, texts_in_properties}
use Rattle.jsonc_value.specs.to_value.Made.{IsCollapsed, IsMade, source_in}
use Rattle.jsonc_value.specs.to_value.Views.{plain, name_of, same_name, inserted}

module _ {A : Type 0} where
  texts-String : (s : CowStr A) → texts (String s) ≡ s ∷ []
  texts-String s = search (rules, the_lemmas)

  plain-String : (s : CowStr A) → plain (String s) ≡ string (name_of s)
  plain-String s = search (rules, the_lemmas)

  pub texts-Array : (a : JsonArray A) → texts (Array a) ≡ texts_in_elements (elements a)
  texts-Array a = search (rules, the_lemmas)

  pub texts-Object : (o : JsonObject A) → texts (Object o) ≡ texts_in_properties (properties o)
  texts-Object o = search (rules, the_lemmas)

  -- a string is made, which is lent or stands in the text with a backslash
  pub string_made : (old : ValueMaker A) (r : Range) (s : CowStr A) (t : List ℕ) → name_of s ≡ t → IsLent (source_in old) s → IsMade old old (String s) (leaf_at r (string t))
  string_made old r s t same lent = record {
    source = refl;
    stacks = (refl, refl);
    collapsed = plain-String s ∙ ap string same;
    lent = subst (AreLent (source_in old)) (sym (texts-String s)) (All-cons (IsLent (source_in old)) s [] lent (All-nil (IsLent (source_in old))));
  }

  -- a value without strings is
  pub leaf_made : (old : ValueMaker A) (v : JsonValue A) (x : Located) → IsCollapsed v x → texts v ≡ [] → IsMade old old v x
  leaf_made old v x same none = record {
    source = refl;
    stacks = (refl, refl);
    collapsed = same;
    lent = subst (AreLent (source_in old)) (sym none) (All-nil (IsLent (source_in old)));
  }

  joined : (xs : List (List (CowStr A))) (x : List (CowStr A)) → flat_map (λ names. names) (xs ++ x ∷ []) ≡ flat_map (λ names. names) xs ++ x
  joined xs x =
      flat_map-append (λ names. names) xs (x ∷ []) ∙ ap (λ r. flat_map (λ names. names) xs ++ r) (flat_map-cons (λ names. names) x [] ∙ append-nil x)

  -- one element more
  pub element_lent : (s : Source) (vs : List (JsonValue A)) (v : JsonValue A) → AreLent s (texts_in_elements vs) → AreLent s (texts v) → AreLent s (texts_in_elements (vs ++ v ∷ []))
  element_lent s vs v so_far one =
      subst (AreLent s) (sym (ap (flat_map (λ names. names)) (map_push texts vs v) ∙ joined (map texts vs) (texts v))) (All-append (IsLent s) (texts_in_elements vs) (texts v) so_far one)

  -- the properties behind the first of them, and the first
  split : (s : Source) (k : CowStr A) (v : JsonValue A) (ps : List (CowStr A × JsonValue A)) → AreLent s (texts_in_properties ((k, v) ∷ ps)) → IsLent s k × AreLent s (texts v) × AreLent s (texts_in_properties ps)
  split s k v ps h =
      let rest = All-tail (IsLent s) k (texts v ++ texts_in_properties ps) h in
      (All-head (IsLent s) k (texts v ++ texts_in_properties ps) h, front (texts v) (texts_in_properties ps) rest, back (texts v) (texts_in_properties ps) rest)
    where
      front : (xs ys : List (CowStr A)) → AreLent s (xs ++ ys) → AreLent s xs
      front [] ys h = All-nil (IsLent s)
      front (x ∷ xs) ys h = All-cons (IsLent s) x xs (All-head (IsLent s) x (xs ++ ys) h) (front xs ys (All-tail (IsLent s) x (xs ++ ys) h))

      back : (xs ys : List (CowStr A)) → AreLent s (xs ++ ys) → AreLent s ys
      back [] ys h = h
      back (x ∷ xs) ys h = back xs ys (All-tail (IsLent s) x (xs ++ ys) h)

  join : (s : Source) (k : CowStr A) (v : JsonValue A) (ps : List (CowStr A × JsonValue A)) → IsLent s k → AreLent s (texts v) → AreLent s (texts_in_properties ps) → AreLent s (texts_in_properties ((k, v) ∷ ps))
  join s k v ps name value rest = All-cons (IsLent s) k (texts v ++ texts_in_properties ps) name (All-append (IsLent s) (texts v) (texts_in_properties ps) value rest)

  -- one property more
  pub property_lent : (s : Source) (ps : List (CowStr A × JsonValue A)) (k : CowStr A) (v : JsonValue A) → AreLent s (texts_in_properties ps) → IsLent s k → AreLent s (texts v) → AreLent s (texts_in_properties (ps ++ (k, v) ∷ []))
  property_lent s [] k v h name value = join s k v [] name value h
  property_lent s (p ∷ ps) k v h name value =
      let (first, its, rest) = split s p.0 p.1 ps h in
      join s p.0 p.1 (ps ++ (k, v) ∷ []) first its (property_lent s ps k v rest name value)

  -- a property that is inserted
  inserted_lent : (s : Source) (ps : List (CowStr A × JsonValue A)) (k : CowStr A) (v : JsonValue A) → AreLent s (texts_in_properties ps) → IsLent s k → AreLent s (texts v) → AreLent s (texts_in_properties (inserted ps k v))
  inserted_lent s [] k v h name value = join s k v [] name value h
  inserted_lent s (p ∷ ps) k v h name value =
      let (first, its, rest) = split s p.0 p.1 ps h in
      go (same_name k p.0) first its rest (inserted_lent s ps k v rest name value)
    where
      go : (b : Bool) → IsLent s p.0 → AreLent s (texts p.1) → AreLent s (texts_in_properties ps) → AreLent s (texts_in_properties (inserted ps k v)) → AreLent s (texts_in_properties (cond b ((p.0, v) ∷ ps) (p ∷ inserted ps k v)))
      go true first its rest l = join s p.0 v ps first value rest
      go false first its rest l = join s p.0 p.1 (inserted ps k v) first its l

  -- and all of a list
  pub all_lent : (s : Source) (held ps : List (CowStr A × JsonValue A)) → AreLent s (texts_in_properties held) → AreLent s (texts_in_properties ps) → AreLent s (texts_in_properties (insert_all same_name held ps))
  all_lent s held [] h more = h
  all_lent s held (p ∷ ps) h more =
      let (first, its, rest) = split s p.0 p.1 ps more in
      all_lent s (inserted held p.0 p.1) ps (inserted_lent s held p.0 p.1 h first its) rest

  -- the value of a document, and gaps around it
  pub document_lent : (old new : ValueMaker A) (s : Source) (found : Option (JsonValue A)) → source_in old ≡ s
      → IsDocumentMade s false (MadeBetweenGaps (λ s t. t ≡ s) IsMade old new) found → IfSome found (λ v. AreLent s (texts v))
  document_lent old new s None e h = tt
  document_lent old new s (Some v) e (x, document, small, (m, n, before, made, after)) = subst (λ q. AreLent q (texts v)) (ap source_in before ∙ e) made.lent
