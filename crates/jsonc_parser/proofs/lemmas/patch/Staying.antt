-- What is put or removed below an object keeps an object where it is.
use Rattle.std.proofs.Common.{ℕ, zero, suc, ◌≡◌, ◌≢◌, ◌<◌, ◌∙◌, ◌++◌, inl, inr, sym, ap, subst, refl, List, [], ◌∷◌, length, Option, Some, None, arith}
use Rattle.jsonc_text.specs.Plain.{Plain, Items, item, Members, member}
use Rattle.jsonc_text.specs.Plain as plain
use Rattle.jsonc_insert.specs.named.Members.{LacksMember, no_more, other_name}
use Rattle.jsonc_run.specs.texts.Leaving.{all, one, Loses}
use Rattle.jsonc_run.specs.texts.Entries.{of, items, members, Becomes, Changed, itself, inside, Named}
use Rattle.jsonc_run.specs.texts.Paths.{Kind, an_array, an_object}
use Rattle.jsonc_parser.specs.patch.MergeSteps.{RefersToObject}
use Rattle.jsonc_parser.specs.patch.Merging.{Merges, MembersMerge}
use Rattle.jsonc_parser.specs.patch.Merging as merging
use Rattle.jsonc_parser.specs.patch.Operations.{as_element, as_member, as_whole, in_member, Adds, RefersAlong, Removes}
use Rattle.jsonc_parser.specs.patch.References.{IsIndex, IsItem, this_item, later_item, IsOnly, this_only, later_only, Refers, RefersTo, whole, to_member, to_element}
use Rattle.jsonc_parser.proofs.lemmas.patch.Evaluation.{index_once, item_once, only_of_more, only_once}
use Rattle.jsonc_parser.proofs.lemmas.patch.Operating.{first_same, item_value, member_value, rest_same, same_items, same_members}

-- lists that are joined
no_list : {T : Type 0} (xs ys : List T) → [] ≡ xs ++ ys → ys ≡ []
no_list [] ys e = sym e
no_list (x ∷ xs) ys e = cc

pub no_last : {T : Type 0} (xs : List T) (x : T) → xs ++ x ∷ [] ≡ [] → ⊥
no_last [] x e = cc
no_last (y ∷ ys) x e = cc

-- where more than the first are before the last, the first are before it
front_leads : {T : Type 0} (xs : List T) (x : T) (front rest : List T) → xs ++ x ∷ [] ≡ front ++ rest → (rest ≡ [] → ⊥) → (more : List T) × (xs ≡ front ++ more)
front_leads [] x [] rest e some = ([], refl)
front_leads [] x (t ∷ ts) rest e some = (let none : [] ≡ ts ++ rest = cc in absurd (some (no_list ts rest none)))
front_leads (y ∷ ys) x [] rest e some = (y ∷ ys, refl)
front_leads (y ∷ ys) x (t ∷ ts) rest e some =
    let head : y ≡ t = cc in
    let tail : ys ++ x ∷ [] ≡ ts ++ rest = cc in
    let f = front_leads ys x ts rest tail some in
    (f.0, ap (λ k. k ∷ ys) head ∙ ap (λ l. t ∷ l) f.1)

-- a name has one place
only_place : {name : List ℕ} {v w : Plain} {i j : ℕ} {ms : Members} → IsOnly name v i ms → IsOnly name w j ms → i ≡ j
only_place {name} {v} (this_only {ms = rest} l) q =
    elim (only_of_more q name v rest refl) [
      | inl is ↦ sym is.2
      | inr other ↦ absurd (other.2 refl)
    ]
only_place {name} {v} (later_only {n = n} {w = x} {ms = rest} ne p) q =
    elim (only_of_more q n x rest refl) [
      | inl is ↦ absurd (ne is.0)
      | inr other ↦ ap suc (only_place p other.3) ∙ sym other.1
    ]

-- over which positions tokens go on after the first of them
record AtMember (token : List ℕ) (tokens : List (List ℕ)) (ms : Members) (q : List ℕ) (v : Plain) : Type 0 where
  i : ℕ
  x : Plain
  path : List ℕ
  is : q ≡ i ∷ path
  only : IsOnly token x i ms
  refers : Refers x tokens path v

at_member : {token : List ℕ} {tokens : List (List ℕ)} {ms : Members} {q : List ℕ} {v : Plain} → Refers (plain.object ms) (token ∷ tokens) q v → AtMember token tokens ms q v
at_member (to_member {i = i} {path = path} {x = x} p r) = record { i = i; x = x; path = path; is = refl; only = p; refers = r }

record AtElement (token : List ℕ) (tokens : List (List ℕ)) (vs : Items) (q : List ℕ) (v : Plain) : Type 0 where
  i : ℕ
  x : Plain
  path : List ℕ
  is : q ≡ i ∷ path
  index : IsIndex token i
  item : IsItem x i vs
  refers : Refers x tokens path v

at_element : {token : List ℕ} {tokens : List (List ℕ)} {vs : Items} {q : List ℕ} {v : Plain} → Refers (plain.array vs) (token ∷ tokens) q v → AtElement token tokens vs q v
at_element (to_element {i = i} {path = path} {x = x} k p r) = record { i = i; x = x; path = path; is = refl; index = k; item = p; refers = r }

record GoesOn (v u : Plain) (rest : List (List ℕ)) (p q : List ℕ) : Type 0 where
  path : List ℕ
  is : q ≡ p ++ path
  refers : Refers v rest path u

goes_on : {x v u : Plain} {tokens : List (List ℕ)} {p q : List ℕ} (rest : List (List ℕ)) → Refers x tokens p v → Refers x (tokens ++ rest) q u → GoesOn v u rest p q
goes_on {q = q} rest whole a = record { path = q; is = refl; refers = a }
goes_on {u = u} rest (to_member {tokens = ts} {i = i} only r) a =
    let m = at_member a in
    let more = goes_on rest r (subst (λ k. Refers k (ts ++ rest) m.path u) (only_once m.only only) m.refers) in
    record { path = more.path; is = m.is ∙ ap (λ k. k ∷ m.path) (only_place m.only only) ∙ ap (λ l. i ∷ l) more.is; refers = more.refers }
goes_on {u = u} rest (to_element {tokens = ts} {i = i} {vs = vs} index found r) a =
    let m = at_element a in
    let place : m.i ≡ i = index_once m.index index in
    let there : IsItem m.x i vs = subst (λ k. IsItem m.x k vs) place m.item in
    let more = goes_on rest r (subst (λ k. Refers k (ts ++ rest) m.path u) (item_once there found) m.refers) in
    record { path = more.path; is = m.is ∙ ap (λ k. k ∷ m.path) place ∙ ap (λ l. i ∷ l) more.is; refers = more.refers }

-- the member, or the element, in which something becomes another
only_put : {name : List ℕ} {x : Plain} {i : ℕ} {ms : Members} → IsOnly name x i ms → (front back : List Named) (n : List ℕ) (a b : Plain) → ms ≡ members (front ++ record { name = n; value = a } ∷ back) → i ≡ length front
    → IsOnly name b i (members (front ++ record { name = n; value = b } ∷ back))
only_put {name} (this_only {ms = rest} l) [] back n a b e at =
    let same : name ≡ n = cc in
    let tail : rest ≡ members back = cc in
    subst (λ k. IsOnly name b 0 (member k b (members back))) same (this_only (subst (LacksMember name) tail l))
only_put (this_only l) (f ∷ front) back n a b e at = absurd (omega (arith, at))
only_put (later_only ne p) [] back n a b e at = absurd (omega (arith, at))
only_put {name} (later_only {i = i} {n = m} {w = w} {ms = rest} ne p) (f ∷ front) back n a b e at =
    let same : m ≡ f.name = cc in
    let tail : rest ≡ members (front ++ record { name = n; value = a } ∷ back) = cc in
    later_only (subst (λ k. k ≢ name) same ne) (only_put p front back n a b tail (omega (arith, at)))

item_put : {x : Plain} {i : ℕ} {vs : Items} → IsItem x i vs → (front back : List Named) (n : List ℕ) (a b : Plain) → vs ≡ items (front ++ record { name = n; value = a } ∷ back) → i ≡ length front
    → IsItem b i (items (front ++ record { name = n; value = b } ∷ back))
item_put this_item [] back n a b e at = this_item
item_put this_item (f ∷ front) back n a b e at = absurd (omega (arith, at))
item_put (later_item p) [] back n a b e at = absurd (omega (arith, at))
item_put (later_item {i = i} {w = w} {vs = rest} p) (f ∷ front) back n a b e at =
    let tail : rest ≡ items (front ++ record { name = n; value = a } ∷ back) = cc in
    later_item (item_put p front back n a b tail (omega (arith, at)))

is_object : (kind : Kind) (es : List Named) (ms : Members) → plain.object ms ≡ of kind es → kind ≡ an_object
is_object an_object es ms e = refl
is_object an_array es ms e = cc

is_array : (kind : Kind) (es : List Named) (vs : Items) → plain.array vs ≡ of kind es → kind ≡ an_array
is_array an_array es vs e = refl
is_array an_object es vs e = cc

object_again : (kind : Kind) (es : List Named) → kind ≡ an_object → of kind es ≡ plain.object (members es)
object_again an_object es e = refl
object_again an_array es e = cc

array_again : (kind : Kind) (es : List Named) → kind ≡ an_array → of kind es ≡ plain.array (items es)
array_again an_array es e = refl
array_again an_object es e = cc

-- where something in it becomes another, tokens refer to what it has become
record Stays (was now : Plain) (v y : Plain) (tokens : List (List ℕ)) (p r : List ℕ) : Type 0 where
  value : Plain
  refers : Refers y tokens p value
  changed : Changed was now r v value

stays : {x v was now y z : Plain} {tokens : List (List ℕ)} {p q r : List ℕ} → Refers x tokens p v → Changed was now q z y → q ≡ p ++ r → x ≡ z → Stays was now v y tokens p r
stays {x = x} {was = was} {now = now} {y = y} {z = z} {q = q} {r = r} whole c is same = record { value = y; refers = whole; changed = subst (λ k. Changed was now r k y) (sym same) (subst (λ k. Changed was now k z y) is c) }
stays {r = r} (to_member {i = i} {path = p} only k) itself is same = let wrong : [] ≡ i ∷ (p ++ r) = is in cc
stays {r = r} (to_element {i = i} {path = p} index found k) itself is same = let wrong : [] ≡ i ∷ (p ++ r) = is in cc
stays (to_member {token = token} {tokens = tokens} {i = i} {path = p} {ms = ms} only k) (inside kind front back name {path = q} {x = a} {y = b} c) is same =
    let e : Named = record { name = name; value = a } in
    let f : Named = record { name = name; value = b } in
    let place : i ≡ length front = sym (first_same is) in
    let all : ms ≡ members (front ++ e ∷ back) = same_members kind (front ++ e ∷ back) ms (sym same) in
    let s = stays k c (rest_same is) (member_value only front back e all place) in
    let again = object_again kind (front ++ f ∷ back) (is_object kind (front ++ e ∷ back) ms same) in
    record { value = s.value; refers = subst (λ x. Refers x (token ∷ tokens) (i ∷ p) s.value) (sym again) (to_member (only_put only front back name a b all place) s.refers); changed = s.changed }
stays (to_element {token = token} {tokens = tokens} {i = i} {path = p} {vs = vs} index found k) (inside kind front back name {path = q} {x = a} {y = b} c) is same =
    let e : Named = record { name = name; value = a } in
    let f : Named = record { name = name; value = b } in
    let place : i ≡ length front = sym (first_same is) in
    let all : vs ≡ items (front ++ e ∷ back) = same_items kind (front ++ e ∷ back) vs (sym same) in
    let s = stays k c (rest_same is) (item_value found front back e all place) in
    let again = array_again kind (front ++ f ∷ back) (is_array kind (front ++ e ∷ back) vs same) in
    record { value = s.value; refers = subst (λ x. Refers x (token ∷ tokens) (i ∷ p) s.value) (sym again) (to_element index (item_put found front back name a b all place) s.refers); changed = s.changed }

-- an object in which something becomes another is an object
object_stays : {was now v x : Plain} {r : List ℕ} (ns : Members) → Changed was now r v x → v ≡ plain.object ns → (r ≡ [] → was ≡ plain.object ns → (ks : Members) × (now ≡ plain.object ks)) → (ks : Members) × (x ≡ plain.object ks)
object_stays ns itself e root = root refl e
object_stays ns (inside an_object front back name {y = y} c) e root = (members (front ++ record { name = name; value = y } ∷ back), refl)
object_stays ns (inside an_array front back name c) e root = cc

some_same : (x y : Plain) → Some x ≡ Some y → x ≡ y
some_same x y e = cc

-- where the path goes through what the first tokens refer to, these refer to an object after the change
module _ (tokens : List (List ℕ)) (ns : Members) {x : Plain} {p : List ℕ} (refers : Refers x tokens p (plain.object ns)) where
  object_after : {was now : Plain} {path : List ℕ} (r : List ℕ) (w y : Option Plain) → w ≡ Some x → Becomes was now path w y → path ≡ p ++ r → (r ≡ [] → was ≡ plain.object ns → (ks : Members) × (now ≡ plain.object ks))
      → RefersToObject y tokens
  object_after r (Some z) (Some y) is c path root =
      let s = stays refers c path (sym (some_same z x is)) in
      let o = object_stays ns s.changed refl root in
      (o.0, (y, refl, p, subst (Refers y tokens p) o.1 s.refers))
  object_after r (Some z) None is c path root = absurd c
  object_after r None y is c path root = absurd c

-- of a value that is put after tokens that refer to an object
array_no_object : (es : List Named) (ns : Members) → of an_array es ≡ plain.object ns → (ks : Members) × (plain.array (items es) ≡ plain.object ks)
array_no_object es ns e = cc

not_array : (now : Plain) (es : List Named) (ns : Members) → of an_array es ≡ plain.object ns → (ks : Members) × (now ≡ plain.object ks)
not_array now es ns e = cc

some_token : {ns : Members} {u : Plain} (rest : List (List ℕ)) {r : List ℕ} → Refers (plain.object ns) rest r u → (rest ≡ [] → ⊥) → r ≡ [] → ⊥
some_token [] k some e = some refl
some_token (t ∷ ts) k some e = let m = at_member k in let wrong : m.i ∷ m.path ≡ [] = sym m.is ∙ e in cc

adds_stay : {v : Plain} {all_tokens : List (List ℕ)} {w y : Option Plain} → Adds v all_tokens w y → (tokens rest : List (List ℕ)) → all_tokens ≡ tokens ++ rest → (rest ≡ [] → ⊥) → RefersToObject w tokens → RefersToObject y tokens
adds_stay as_whole tokens rest is some o = absurd (some (no_list tokens rest is))
adds_stay {w = w} {y = y} (as_element {tokens = ts} {token = token} {path = path} front back (z, at, stands) place b) tokens rest is some (ns, (x, top, p, refers)) =
    let f = front_leads ts token tokens rest is some in
    let on = goes_on f.0 refers (subst (λ l. Refers x l path (of an_array (front ++ back))) f.1 (subst (λ k. Refers k ts path (of an_array (front ++ back))) (some_same z x (sym at ∙ top)) stands)) in
    object_after tokens ns refers on.path w y top b on.is (λ none e. not_array _ (front ++ back) ns e)
adds_stay {w = w} {y = y} (as_member {tokens = ts} {path = path} name front (z, at, stands) others b) tokens rest is some (ns, (x, top, p, refers)) =
    let f = front_leads ts name tokens rest is some in
    let on = goes_on f.0 refers (subst (λ l. Refers x l path (of an_object front)) f.1 (subst (λ k. Refers k ts path (of an_object front)) (some_same z x (sym at ∙ top)) stands)) in
    object_after tokens ns refers on.path w y top b on.is (λ none e. (members (front ++ _ ∷ []), refl))
adds_stay {w = w} {y = y} (in_member {tokens = ts} {place = place} {x = u} name ms stands (z, at, inner) b) tokens rest is some (ns, (x, top, p, refers)) =
    let on = goes_on rest refers (subst (λ l. Refers x l place u) is (subst (λ k. Refers k (ts ++ name ∷ []) place u) (some_same z x (sym at ∙ top)) inner)) in
    object_after tokens ns refers on.path w y top b on.is (λ none e. absurd (some_token rest on.refers some none))

entries_left : (kind : Kind) (front back : List Named) (old : Named) (ns : Members) → of kind (front ++ old ∷ back) ≡ plain.object ns → (ks : Members) × (of kind (front ++ back) ≡ plain.object ks)
entries_left an_object front back old ns e = (members (front ++ back), refl)
entries_left an_array front back old ns e = cc

loses_stay : {w y : Option Plain} {path : List ℕ} → Loses w y path → (tokens : List (List ℕ)) (ns : Members) (x : Plain) (p r : List ℕ) → w ≡ Some x → Refers x tokens p (plain.object ns) → path ≡ p ++ r → (r ≡ [] → ⊥) → RefersToObject y tokens
loses_stay (all none) tokens ns x p r top refers is some = absurd (some (no_list p r is))
loses_stay {w = w} {y = y} (one kind front back old path b) tokens ns x p r top refers is some =
    let f = front_leads path (length front) p r is some in
    object_after tokens ns refers f.0 w y top b f.1 (λ none e. entries_left kind front back old ns e)

removes_stay : {all_tokens : List (List ℕ)} {w y : Option Plain} → Removes all_tokens w y → (tokens rest : List (List ℕ)) → all_tokens ≡ tokens ++ rest → (rest ≡ [] → ⊥) → RefersToObject w tokens → RefersToObject y tokens
removes_stay {all_tokens = ts} (path, u, (z, at, stands), loses) tokens rest is some (ns, (x, top, p, refers)) =
    let on = goes_on rest refers (subst (λ l. Refers x l path u) is (subst (λ k. Refers k ts path u) (some_same z x (sym at ∙ top)) stands)) in
    loses_stay loses tokens ns x p on.path top refers on.is (some_token rest on.refers some)

-- one name further
further : (all_tokens tokens rest : List (List ℕ)) (name : List ℕ) → all_tokens ≡ tokens ++ rest → all_tokens ++ name ∷ [] ≡ tokens ++ (rest ++ name ∷ [])
further all_tokens tokens rest name is = ap (λ l. l ++ name ∷ []) is ∙ joined tokens rest (name ∷ [])
  where
    joined : (xs ys zs : List (List ℕ)) → (xs ++ ys) ++ zs ≡ xs ++ (ys ++ zs)
    joined [] ys zs = refl
    joined (x ∷ xs) ys zs = ap (λ l. x ∷ l) (joined xs ys zs)

mutual
  -- what is merged after tokens that refer to an object keeps an object there
  merge_stays : {all_tokens : List (List ℕ)} {q : Plain} {w y : Option Plain} → Merges all_tokens q w y → (tokens rest : List (List ℕ)) → all_tokens ≡ tokens ++ rest → (rest ≡ [] → ⊥) → RefersToObject w tokens → RefersToObject y tokens
  merge_stays (merging.inside refers m) tokens rest is some o = members_stay m tokens rest is o
  merge_stays (merging.same n t) tokens rest is some o = o
  merge_stays (merging.put n t adds) tokens rest is some o = adds_stay adds tokens rest is some o

  members_stay : {all_tokens : List (List ℕ)} {ms : Members} {w y : Option Plain} → MembersMerge all_tokens ms w y → (tokens rest : List (List ℕ)) → all_tokens ≡ tokens ++ rest → RefersToObject w tokens → RefersToObject y tokens
  members_stay merging.no_more tokens rest is o = o
  members_stay {all_tokens = ts} (merging.removed {name = name} r more) tokens rest is o = members_stay more tokens rest is (removes_stay r tokens (rest ++ name ∷ []) (further ts tokens rest name is) (no_last rest name) o)
  members_stay (merging.absent a more) tokens rest is o = members_stay more tokens rest is o
  members_stay {all_tokens = ts} (merging.merged {name = name} ne m more) tokens rest is o = members_stay more tokens rest is (merge_stays m tokens (rest ++ name ∷ []) (further ts tokens rest name is) (no_last rest name) o)

-- members that are merged into an object keep an object there
pub still_object : {tokens : List (List ℕ)} {ms : Members} {w y : Option Plain} → MembersMerge tokens ms w y → RefersToObject w tokens → RefersToObject y tokens
still_object {tokens = ts} m o = members_stay m ts [] (sym (append_none ts)) o
  where
    append_none : (xs : List (List ℕ)) → xs ++ [] ≡ xs
    append_none [] = refl
    append_none (x ∷ xs) = ap (λ l. x ∷ l) (append_none xs)
