-- What an edit makes of a value where tokens lead, as an operation of a patch.
use Rattle.std.proofs.Common.{ℕ, zero, suc, ◌≡◌, ◌≢◌, ◌<◌, ◌≤◌, ◌∙◌, ◌++◌, ◌⊎◌, inl, inr, sym, ap, subst, refl, true, List, [], ◌∷◌, length, min, Option, Some, None, arith}
use Rattle.std.specs.List.{All}
use Rattle.std.specs.Str.{bytes_eq}
use Rattle.std.proofs.lemmas.Bool.{cases_Bool}
use Rattle.std.proofs.lemmas.List.{append-nil, length-append}
use Rattle.std.proofs.lemmas.List.Elements.{All-nil, All-cons}
use Rattle.std.proofs.lemmas.Slice.Eq.{bytes_eq-Decides}
use Rattle.jsonc_text.specs.Documents.{Document}
use Rattle.jsonc_text.specs.Plain.{Plain, Items, Members, no_members, member}
use Rattle.jsonc_text.specs.Plain as plain
use Rattle.jsonc_tree.specs.Tree.{Node}
use Rattle.jsonc_insert.specs.elements.Laws.{item_count}
use Rattle.jsonc_insert.specs.elements.Members.{member_count}
use Rattle.jsonc_insert.specs.named.Members.{LacksMember, no_more, other_name, IsFirstMember, first_is, first_later}
use Rattle.jsonc_run.specs.Named as asks
use Rattle.jsonc_run.specs.texts.Leaving.{Loses}
use Rattle.jsonc_run.specs.texts.Entries.{of, items, members, Becomes, Changed, itself, inside, Named}
use Rattle.jsonc_run.specs.texts.Paths.{Kind, an_array, an_object}
use Rattle.jsonc_run.proofs.lemmas.promise.Inserting.{counted}
use Rattle.jsonc_parser.specs.patch.Found.{RefersToNode, RefersToNothing}
use Rattle.jsonc_parser.specs.patch.Operations.{as_element, as_member, as_whole, in_member, Adds, RefersAlong, Removes, Replaces}
use Rattle.jsonc_parser.specs.patch.References.{FailsAt, IsIndex, IsItem, this_item, later_item, IsOnly, this_only, later_only, IsRepeated, this_again, later_again, MeetsRepeated, here, Refers, RefersTo, whole, to_member, to_element}
use Rattle.jsonc_parser.proofs.lemmas.patch.Evaluation.{fails_further, member_further}

-- the member of a number, and the item
pub member_value : {name : List ℕ} {x : Plain} {i : ℕ} {ms : Members} → IsOnly name x i ms → (front back : List Named) (e : Named) → ms ≡ members (front ++ e ∷ back) → i ≡ length front → x ≡ e.value
member_value {x = x} (this_only {ms = rest} l) [] back e is at = cc
member_value (this_only l) (f ∷ front) back e is at = absurd (omega (arith, at))
member_value (later_only ne p) [] back e is at = absurd (omega (arith, at))
member_value (later_only {i = i} {n = n} {w = w} {ms = rest} ne p) (f ∷ front) back e is at =
    let tail : rest ≡ members (front ++ e ∷ back) = cc in
    member_value p front back e tail (omega (arith, at))

pub item_value : {x : Plain} {i : ℕ} {vs : Items} → IsItem x i vs → (front back : List Named) (e : Named) → vs ≡ items (front ++ e ∷ back) → i ≡ length front → x ≡ e.value
item_value (this_item {vs = rest}) [] back e is at = cc
item_value this_item (f ∷ front) back e is at = absurd (omega (arith, at))
item_value (later_item p) [] back e is at = absurd (omega (arith, at))
item_value (later_item {w = w} {vs = rest} p) (f ∷ front) back e is at =
    let tail : rest ≡ items (front ++ e ∷ back) = cc in
    item_value p front back e tail (omega (arith, at))

pub first_same : {i j : ℕ} {p q : List ℕ} → i ∷ p ≡ j ∷ q → i ≡ j
first_same e = cc

pub rest_same : {i j : ℕ} {p q : List ℕ} → i ∷ p ≡ j ∷ q → p ≡ q
rest_same e = cc

pub same_members : (kind : Kind) (es : List Named) (ms : Members) → of kind es ≡ plain.object ms → ms ≡ members es
same_members an_object es ms e = cc
same_members an_array es ms e = cc

pub same_items : (kind : Kind) (es : List Named) (vs : Items) → of kind es ≡ plain.array vs → vs ≡ items es
same_items an_array es vs e = cc
same_items an_object es vs e = cc

-- what tokens refer to is what is replaced at their positions
was_there : {x z v was now y : Plain} {tokens : List (List ℕ)} {p q : List ℕ} → Refers x tokens p v → Changed was now q z y → p ≡ q → x ≡ z → v ≡ was
was_there whole itself path same = same
was_there whole (inside kind front back name {path = q} c) path same = let wrong : [] ≡ length front ∷ q = path in cc
was_there (to_member {i = i} {path = p} only r) itself path same = let wrong : i ∷ p ≡ [] = path in cc
was_there (to_element {i = i} {path = p} index item r) itself path same = let wrong : i ∷ p ≡ [] = path in cc
was_there (to_member {ms = ms} only r) (inside kind front back name {x = x} c) path same =
    let e : Named = record { name = name; value = x } in
    was_there r c (rest_same path) (member_value only front back e (same_members kind (front ++ e ∷ back) ms (sym same)) (first_same path))
was_there (to_element {vs = vs} index item r) (inside kind front back name {x = x} c) path same =
    let e : Named = record { name = name; value = x } in
    was_there r c (rest_same path) (item_value item front back e (same_items kind (front ++ e ∷ back) vs (sym same)) (first_same path))

pub becomes_there : (w y : Option Plain) (now : Plain) {was v value : Plain} {tokens : List (List ℕ)} {path : List ℕ} → w ≡ Some value → Becomes was now path w y → Refers value tokens path v → v ≡ was
becomes_there (Some x) (Some y) now {value = value} is b r = was_there r b refl (let same : value ≡ x = cc in same)
becomes_there (Some x) None now is b r = absurd b
becomes_there None y now is b r = absurd b

-- of a name an object has no member, one, or more
first_cases : (name : List ℕ) (ms : Members) → LacksMember name ms ⊎ ((i : ℕ) × IsFirstMember name i ms)
first_cases name no_members = inl no_more
first_cases name (member n v ms) =
    elim (cases_Bool (bytes_eq n name)) [
      | inl hit ↦ inr (0, subst (λ k. IsFirstMember name 0 (member k v ms)) (sym ((bytes_eq-Decides n name).0 hit)) first_is)
      | inr miss ↦ (let ne : n ≢ name = λ same. (let hit : bytes_eq n name ≡ true = (bytes_eq-Decides n name).1 same in cc) in
          elim (first_cases name ms) [
            | inl lacks ↦ inl (other_name ne lacks)
            | inr first ↦ inr (suc first.0, first_later ne first.1)
          ])
    ]

pub name_cases : (name : List ℕ) (ms : Members) → LacksMember name ms ⊎ (((i : ℕ) × (v : Plain) × IsOnly name v i ms) ⊎ IsRepeated name ms)
name_cases name no_members = inl no_more
name_cases name (member n v ms) =
    elim (cases_Bool (bytes_eq n name)) [
      | inl hit ↦ (let same : n ≡ name = (bytes_eq-Decides n name).0 hit in
          elim (first_cases name ms) [
            | inl lacks ↦ inr (inl (0, v, subst (λ k. IsOnly name v 0 (member k v ms)) (sym same) (this_only lacks)))
            | inr first ↦ inr (inr (subst (λ k. IsRepeated name (member k v ms)) (sym same) (this_again first.1)))
          ])
      | inr miss ↦ (let ne : n ≢ name = λ same. (let hit : bytes_eq n name ≡ true = (bytes_eq-Decides n name).1 same in cc) in
          elim (name_cases name ms) [
            | inl lacks ↦ inl (other_name ne lacks)
            | inr there ↦ elim there [
              | inl one ↦ inr (inl (suc one.0, one.1, later_only ne one.2))
              | inr again ↦ inr (inr (later_again ne again))
            ]
          ])
    ]

lacks_all : (name : List ℕ) (front : List Named) (ms : Members) → LacksMember name ms → ms ≡ members front → All (λ e. e.name ≢ name) front
lacks_all name [] ms lacks is = All-nil (λ (e : Named). e.name ≢ name)
lacks_all name (f ∷ front) _ no_more is = cc
lacks_all name (f ∷ front) _ (other_name {n = n} {v = v} {ms = ms} ne lacks) is =
    let same : n ≡ f.name = cc in
    let tail : ms ≡ members front = cc in
    All-cons (λ (e : Named). e.name ≢ name) f front (subst (λ k. k ≢ name) same ne) (lacks_all name front ms lacks tail)

pub same_array : (vs : Items) (es : List Named) → plain.array vs ≡ of an_array es → vs ≡ items es
same_array vs es e = cc

same_object : (ms : Members) (es : List Named) → plain.object ms ≡ of an_object es → ms ≡ members es
same_object ms es e = cc

counted_members : (es : List Named) → member_count (members es) ≡ length es
counted_members [] = refl
counted_members (e ∷ es) = ap suc (counted_members es)

pub nothing_more : {T : Type 0} (xs ys : List T) → length xs ≡ length (xs ++ ys) → ys ≡ []
nothing_more xs [] e = refl
nothing_more {T} xs (y ∷ ys) e = absurd (omega (arith, e, length-append xs (y ∷ ys)))

module _ (d : Document) (ns : List Node) (tokens : List (List ℕ)) (n : ℕ) (w : RefersToNode d ns tokens n) (path : List ℕ) (over : w.path ≡ path) where
  refers : Refers w.value tokens path w.v
  refers = subst (λ p. Refers w.value tokens p w.v) over w.refers

  pub stands : RefersAlong d.value tokens path w.v
  stands = (w.value, w.is, refers)

  pub removed : (y : Option Plain) → Loses d.value y path → Removes tokens d.value y
  removed y loses = (path, w.v, stands, loses)

  -- what is replaced at their place is what they refer to
  pub was_referred : (was now : Plain) (y : Option Plain) → Becomes was now path d.value y → w.v ≡ was
  was_referred was now y b = becomes_there d.value y now w.is b refers

  -- a value that is named there is it
  pub was_standing : (u : Plain) → asks.StandsAt u path d.value → w.v ≡ u
  was_standing u stands = becomes_there d.value d.value u w.is stands refers

  -- none is after a place that is past all of them
  pub last_item : (vs : Items) (i : ℕ) (front back : List Named) → asks.StandsAt (plain.array vs) path d.value → item_count vs ≤ i → w.v ≡ of an_array (front ++ back) → length front ≡ min i (length (front ++ back)) → back ≡ []
  last_item vs i front back stands far was place =
      let same : vs ≡ items (front ++ back) = same_array vs (front ++ back) (sym (was_standing (plain.array vs) stands) ∙ was) in
      let count : item_count vs ≡ length (front ++ back) = ap item_count same ∙ counted (front ++ back) in
      nothing_more front back (omega (arith, count, far, place))

  pub last_member : (ms : Members) (i : ℕ) (front back : List Named) → asks.StandsAt (plain.object ms) path d.value → member_count ms ≤ i → w.v ≡ of an_object (front ++ back) → length front ≡ min i (length (front ++ back)) → back ≡ []
  last_member ms i front back stands far was place =
      let same : ms ≡ members (front ++ back) = same_object ms (front ++ back) (sym (was_standing (plain.object ms) stands) ∙ was) in
      let count : member_count ms ≡ length (front ++ back) = ap member_count same ∙ counted_members (front ++ back) in
      nothing_more front back (omega (arith, count, far, place))

  pub replaced : (was v : Plain) (y : Option Plain) → Becomes was v path d.value y → Replaces v tokens d.value y
  replaced was v y b = (path, w.v, stands, subst (λ k. Becomes k v path d.value y) (sym (was_referred was v y b)) b)

  -- an element is inserted into the array, after those before its place or after all
  pub element_added : (v : Plain) (y : Option Plain) (token : List ℕ) (front back : List Named) → Becomes (of an_array (front ++ back)) (of an_array (front ++ record { name = []; value = v } ∷ back)) path d.value y
      → IsIndex token (length front) ⊎ ((token ≡ 0x2D ∷ []) × (back ≡ [])) → Adds v (tokens ++ token ∷ []) d.value y
  element_added v y token front back b place =
      let was = was_referred (of an_array (front ++ back)) (of an_array (front ++ record { name = []; value = v } ∷ back)) y b in
      as_element front back (subst (RefersAlong d.value tokens path) was stands) place b

  -- a member is inserted into the object that has none of the name
  nothing_there : (name : List ℕ) (ms : Members) → w.v ≡ plain.object ms → RefersToNothing d (tokens ++ name ∷ []) → LacksMember name ms
  nothing_there name ms is none =
      elim (name_cases name ms) [
        | inl lacks ↦ lacks
        | inr there ↦ elim there [
          | inl one ↦ absurd (none.nothing one.1 (w.value, w.is, _, member_further refers is one.2))
          | inr again ↦ absurd (none.unique name (w.value, w.is, fails_further (name ∷ []) refers (subst (λ k. MeetsRepeated name k (name ∷ [])) (sym is) (here again))))
        ]
      ]

  pub member_added : (v : Plain) (y : Option Plain) (name : List ℕ) (front back : List Named) → back ≡ [] → Becomes (of an_object (front ++ back)) (of an_object (front ++ record { name = name; value = v } ∷ back)) path d.value y
      → RefersToNothing d (tokens ++ name ∷ []) → Adds v (tokens ++ name ∷ []) d.value y
  member_added v y name front back end all none =
      let new : Plain = of an_object (front ++ record { name = name; value = v } ∷ []) in
      let b : Becomes (of an_object (front ++ [])) new path d.value y = subst (λ es. Becomes (of an_object (front ++ es)) (of an_object (front ++ record { name = name; value = v } ∷ es)) path d.value y) end all in
      let c : Becomes (of an_object front) new path d.value y = subst (λ es. Becomes (of an_object es) new path d.value y) (append-nil front) b in
      let was : w.v ≡ of an_object front = was_referred (of an_object front) new y c in
      as_member name front (subst (RefersAlong d.value tokens path) was stands) (lacks_all name front (members front) (nothing_there name (members front) was none) refl) c
