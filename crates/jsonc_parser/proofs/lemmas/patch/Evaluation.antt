-- What tokens refer to in a value: one value at most, and none where a name on the way occurs twice.
use Rattle.std.proofs.Common.{ℕ, suc, ◌≡◌, ◌≢◌, ◌∙◌, ◌⊎◌, inl, inr, ◌++◌, sym, subst, refl, List, [], ◌∷◌, Option, Some}
use Rattle.jsonc_text.specs.Plain.{Plain, array, object, Items, Members, member}
use Rattle.jsonc_sound.specs.Changes as changes
use Rattle.jsonc_sound.specs.Changes.{Changed, ItemChanged, MemberChanged}
use Rattle.jsonc_insert.specs.named.Members.{LacksMember, other_name, IsFirstMember, first_is, first_later}
use Rattle.jsonc_parser.specs.patch.Laws.{FailsWithNone, RefersToOne}
use Rattle.jsonc_parser.specs.patch.References.{IsIndex, IsItem, this_item, later_item, IsOnly, this_only, later_only, IsRepeated, this_again, later_again, Refers, whole, to_member, to_element, MeetsRepeated, here, in_member, in_element}

pub index_once : {token : List ℕ} {i j : ℕ} → IsIndex token i → IsIndex token j → i ≡ j
index_once p q = sym p.is ∙ q.is

pub item_once : {v w : Plain} {i : ℕ} {vs : Items} → IsItem v i vs → IsItem w i vs → v ≡ w
item_once this_item this_item = refl
item_once (later_item p) (later_item q) = item_once p q

first_lacks : {name : List ℕ} {i : ℕ} {ms : Members} → IsFirstMember name i ms → LacksMember name ms → ⊥
first_lacks first_is (other_name ne l) = ne refl
first_lacks (first_later ne f) (other_name other l) = first_lacks f l

pub only_lacks : {name : List ℕ} {v : Plain} {i : ℕ} {ms : Members} → IsOnly name v i ms → LacksMember name ms → ⊥
only_lacks (this_only k) (other_name ne l) = ne refl
only_lacks (later_only ne p) (other_name other l) = only_lacks p l

pub repeated_lacks : {name : List ℕ} {ms : Members} → IsRepeated name ms → LacksMember name ms → ⊥
repeated_lacks (this_again f) (other_name ne l) = ne refl
repeated_lacks (later_again ne r) (other_name other l) = repeated_lacks r l

-- a member of a name in a list that begins with this one: it, or one after it
pub only_of_more : {name : List ℕ} {v : Plain} {i : ℕ} {all : Members} → IsOnly name v i all → (n : List ℕ) (w : Plain) (ms : Members) → all ≡ member n w ms
    → ((n ≡ name) × (w ≡ v) × (i ≡ 0)) ⊎ ((j : ℕ) × (i ≡ suc j) × (n ≢ name) × IsOnly name v j ms)
only_of_more {name} {v} (this_only {ms = rest} l) n w ms e = let a : n ≡ name = cc in let b : w ≡ v = cc in inl (a, b, refl)
only_of_more {name} {v} (later_only {i = i} {n = m} {w = x} {ms = rest} ne p) n w ms e =
    let a : n ≡ m = cc in
    let b : rest ≡ ms = cc in
    inr (i, refl, (λ s. ne (sym a ∙ s)), subst (IsOnly name v i) b p)

repeated_of_more : {name : List ℕ} {all : Members} → IsRepeated name all → (n : List ℕ) (w : Plain) (ms : Members) → all ≡ member n w ms
    → ((n ≡ name) × ((j : ℕ) × IsFirstMember name j ms)) ⊎ ((n ≢ name) × IsRepeated name ms)
repeated_of_more {name} (this_again {i = i} {v = v} {ms = rest} f) n w ms e =
    let a : n ≡ name = cc in
    let b : rest ≡ ms = cc in
    inl (a, (i, subst (IsFirstMember name i) b f))
repeated_of_more {name} (later_again {n = m} {v = v} {ms = rest} ne r) n w ms e =
    let a : n ≡ m = cc in
    let b : rest ≡ ms = cc in
    inr (λ s. ne (sym a ∙ s), subst (IsRepeated name) b r)

pub only_repeated : {name : List ℕ} {v : Plain} {i : ℕ} {ms : Members} → IsOnly name v i ms → IsRepeated name ms → ⊥
only_repeated {name} {v} (this_only {ms = rest} l) r =
    elim (repeated_of_more r name v rest refl) [
      | inl again ↦ first_lacks again.1.1 l
      | inr other ↦ other.0 refl
    ]
only_repeated {name} {v} (later_only {n = n} {w = w} {ms = rest} ne p) r =
    elim (repeated_of_more r n w rest refl) [
      | inl again ↦ ne again.0
      | inr other ↦ only_repeated p other.1
    ]

pub only_once : {name : List ℕ} {v w : Plain} {i j : ℕ} {ms : Members} → IsOnly name v i ms → IsOnly name w j ms → v ≡ w
only_once {name} {v} {w} (this_only {ms = rest} l) q =
    elim (only_of_more q name v rest refl) [
      | inl is ↦ is.1
      | inr other ↦ absurd (other.2 refl)
    ]
only_once {name} {v} {w} (later_only {n = n} {w = x} {ms = rest} ne p) q =
    elim (only_of_more q n x rest refl) [
      | inl is ↦ absurd (ne is.0)
      | inr other ↦ only_once p other.3
    ]

-- what is replaced by itself
only_itself : {name : List ℕ} {v : Plain} {i : ℕ} {ms : Members} → IsOnly name v i ms → MemberChanged v v i ms ms
only_itself (this_only l) = changes.this_member
only_itself (later_only ne p) = changes.later_member (only_itself p)

item_itself : {v : Plain} {i : ℕ} {vs : Items} → IsItem v i vs → ItemChanged v v i vs vs
item_itself this_item = changes.this_item
item_itself (later_item p) = changes.later_item (item_itself p)

pub refers_changed : {x v : Plain} {tokens : List (List ℕ)} {path : List ℕ} → Refers x tokens path v → Changed v v path x x
refers_changed whole = changes.itself
refers_changed (to_member p r) = changes.in_object (only_itself p) (refers_changed r)
refers_changed (to_element i p r) = changes.in_array (item_itself p) (refers_changed r)

-- one token further
further_member : {x y : Plain} {tokens : List (List ℕ)} {path token : List ℕ} {i : ℕ} {ms : Members} → Refers x tokens path (object ms) → IsOnly token y i ms → Refers x (tokens ++ token ∷ []) (path ++ i ∷ []) y
further_member whole p = to_member p whole
further_member (to_member q r) p = to_member q (further_member r p)
further_member (to_element k q r) p = to_element k q (further_member r p)

pub member_further : {x y w : Plain} {tokens : List (List ℕ)} {path token : List ℕ} {i : ℕ} {ms : Members} → Refers x tokens path w → w ≡ object ms → IsOnly token y i ms → Refers x (tokens ++ token ∷ []) (path ++ i ∷ []) y
member_further {x} {tokens = tokens} {path = path} r e p = further_member (subst (Refers x tokens path) e r) p

further_element : {x y : Plain} {tokens : List (List ℕ)} {path token : List ℕ} {i : ℕ} {vs : Items} → Refers x tokens path (array vs) → IsIndex token i → IsItem y i vs → Refers x (tokens ++ token ∷ []) (path ++ i ∷ []) y
further_element whole k p = to_element k p whole
further_element (to_member q r) k p = to_member q (further_element r k p)
further_element (to_element l q r) k p = to_element l q (further_element r k p)

pub element_further : {x y w : Plain} {tokens : List (List ℕ)} {path token : List ℕ} {i : ℕ} {vs : Items} → Refers x tokens path w → w ≡ array vs → IsIndex token i → IsItem y i vs
    → Refers x (tokens ++ token ∷ []) (path ++ i ∷ []) y
element_further {x} {tokens = tokens} {path = path} r e k p = further_element (subst (Refers x tokens path) e r) k p

-- what the first token leads to, in an object and in an array
record InObject (token : List ℕ) (tokens : List (List ℕ)) (ms : Members) (v : Plain) : Type 0 where
  i : ℕ
  x : Plain
  path : List ℕ
  only : IsOnly token x i ms
  refers : Refers x tokens path v

in_object : {token : List ℕ} {tokens : List (List ℕ)} {ms : Members} {path : List ℕ} {v : Plain} → Refers (object ms) (token ∷ tokens) path v → InObject token tokens ms v
in_object (to_member {i = i} {path = path} {x = x} p r) = record { i = i; x = x; path = path; only = p; refers = r }

record InArray (token : List ℕ) (tokens : List (List ℕ)) (vs : Items) (v : Plain) : Type 0 where
  i : ℕ
  x : Plain
  path : List ℕ
  index : IsIndex token i
  item : IsItem x i vs
  refers : Refers x tokens path v

in_array : {token : List ℕ} {tokens : List (List ℕ)} {vs : Items} {path : List ℕ} {v : Plain} → Refers (array vs) (token ∷ tokens) path v → InArray token tokens vs v
in_array (to_element {i = i} {path = path} {x = x} k p r) = record { i = i; x = x; path = path; index = k; item = p; refers = r }

-- what all tokens refer to the others refer to in what the first refer to
pub behind : {x v u : Plain} {tokens : List (List ℕ)} {path whole_path : List ℕ} (rest : List (List ℕ)) → Refers x tokens path v → Refers x (tokens ++ rest) whole_path u → (q : List ℕ) × Refers v rest q u
behind {whole_path = q} rest whole a = (q, a)
behind {u = u} rest (to_member {tokens = tokens} p r) a =
    let i = in_object a in
    behind rest r (subst (λ k. Refers k (tokens ++ rest) i.path u) (only_once i.only p) i.refers)
behind {u = u} rest (to_element {tokens = tokens} {vs = vs} {x = x} k p r) a =
    let i = in_array a in
    let same : IsItem i.x _ vs = subst (λ n. IsItem i.x n vs) (index_once i.index k) i.item in
    behind rest r (subst (λ y. Refers y (tokens ++ rest) i.path u) (item_once same p) i.refers)

-- where evaluation fails after the first token
data FailsInside (name token : List ℕ) (tokens : List (List ℕ)) (ms : Members) : Type 0 where
  fails_here : name ≡ token → IsRepeated name ms → FailsInside name token tokens ms
  fails_later : {i : ℕ} {x : Plain} → IsOnly token x i ms → MeetsRepeated name x tokens → FailsInside name token tokens ms

fails_inside : {name token : List ℕ} {tokens : List (List ℕ)} {ms : Members} → MeetsRepeated name (object ms) (token ∷ tokens) → FailsInside name token tokens ms
fails_inside (here r) = fails_here refl r
fails_inside (in_member p m) = fails_later p m

record FailsInArray (name token : List ℕ) (tokens : List (List ℕ)) (vs : Items) : Type 0 where
  i : ℕ
  x : Plain
  index : IsIndex token i
  item : IsItem x i vs
  meets : MeetsRepeated name x tokens

fails_in_array : {name token : List ℕ} {tokens : List (List ℕ)} {vs : Items} → MeetsRepeated name (array vs) (token ∷ tokens) → FailsInArray name token tokens vs
fails_in_array (in_element {i = i} {x = x} k p m) = record { i = i; x = x; index = k; item = p; meets = m }

not_here : {name token : List ℕ} {tokens : List (List ℕ)} {ms : Members} {i : ℕ} {x : Plain} → IsOnly token x i ms → FailsInside name token tokens ms → MeetsRepeated name x tokens
not_here {ms = ms} p (fails_here e r) = absurd (only_repeated p (subst (λ n. IsRepeated n ms) e r))
not_here {name = name} {tokens = tokens} p (fails_later q m) = subst (λ k. MeetsRepeated name k tokens) (only_once q p) m

pub fails_behind : {name : List ℕ} {x v : Plain} {tokens : List (List ℕ)} {path : List ℕ} (rest : List (List ℕ)) → Refers x tokens path v → MeetsRepeated name x (tokens ++ rest) → MeetsRepeated name v rest
fails_behind rest whole m = m
fails_behind rest (to_member p r) m = fails_behind rest r (not_here p (fails_inside m))
fails_behind {name = name} rest (to_element {tokens = tokens} {vs = vs} k p r) m =
    let f = fails_in_array m in
    let same : IsItem f.x _ vs = subst (λ n. IsItem f.x n vs) (index_once f.index k) f.item in
    fails_behind rest r (subst (λ y. MeetsRepeated name y (tokens ++ rest)) (item_once same p) f.meets)

pub fails_further : {name : List ℕ} {x v : Plain} {tokens : List (List ℕ)} {path : List ℕ} (rest : List (List ℕ)) → Refers x tokens path v → MeetsRepeated name v rest → MeetsRepeated name x (tokens ++ rest)
fails_further rest whole m = m
fails_further rest (to_member p r) m = in_member p (fails_further rest r m)
fails_further rest (to_element k p r) m = in_element k p (fails_further rest r m)

-- tokens refer to one value, over the same positions, or evaluation fails
pub one_value : {x v w : Plain} {tokens : List (List ℕ)} {p q : List ℕ} → Refers x tokens p v → Refers x tokens q w → v ≡ w
one_value whole whole = refl
one_value {w = w} (to_member {tokens = tokens} p r) a =
    let i = in_object a in one_value r (subst (λ k. Refers k tokens i.path w) (only_once i.only p) i.refers)
one_value {w = w} (to_element {tokens = tokens} {vs = vs} k p r) a =
    let i = in_array a in
    let same : IsItem i.x _ vs = subst (λ n. IsItem i.x n vs) (index_once i.index k) i.item in
    one_value r (subst (λ y. Refers y tokens i.path w) (item_once same p) i.refers)

pub never_both : {name : List ℕ} {x v : Plain} {tokens : List (List ℕ)} {path : List ℕ} → Refers x tokens path v → MeetsRepeated name x tokens → ⊥
never_both whole m = elim m [ ]
never_both (to_member p r) m = never_both r (not_here p (fails_inside m))
never_both {name = name} (to_element {tokens = tokens} {vs = vs} k p r) m =
    let f = fails_in_array m in
    let same : IsItem f.x _ vs = subst (λ n. IsItem f.x n vs) (index_once f.index k) f.item in
    never_both r (subst (λ y. MeetsRepeated name y tokens) (item_once same p) f.meets)

-- a value that no token leads on from
abbrev pub Stops : Plain → List ℕ → Type 0
Stops w token = (rest : List (List ℕ)) → ((u : Plain) (q : List ℕ) → Refers w (token ∷ rest) q u → ⊥) × ((name : List ℕ) → MeetsRepeated name w (token ∷ rest) → ⊥)

pub object_stops : {token : List ℕ} {ms : Members} {w : Plain} → w ≡ object ms → LacksMember token ms → Stops w token
object_stops {token} {ms} {w} e lacks rest = (
  λ u q r. only_lacks (in_object (subst (λ k. Refers k (token ∷ rest) q u) e r)).only lacks,
  λ name m. (let f : FailsInside name token rest ms = fails_inside (subst (λ k. MeetsRepeated name k (token ∷ rest)) e m) in
      inside name f),
)
  where
    inside : (name : List ℕ) → FailsInside name token rest ms → ⊥
    inside name (fails_here same r) = repeated_lacks (subst (λ n. IsRepeated n ms) same r) lacks
    inside name (fails_later p m) = only_lacks p lacks

pub array_stops : {token : List ℕ} {vs : Items} {w : Plain} → w ≡ array vs → ((i : ℕ) (x : Plain) → IsIndex token i → IsItem x i vs → ⊥) → Stops w token
array_stops {token} {vs} {w} e none rest = (
  λ u q r. (let i = in_array (subst (λ k. Refers k (token ∷ rest) q u) e r) in none i.i i.x i.index i.item),
  λ name m. (let f = fails_in_array (subst (λ k. MeetsRepeated name k (token ∷ rest)) e m) in none f.i f.x f.index f.item),
)

pub other_stops : {token : List ℕ} {w : Plain} → ((ms : Members) → w ≡ object ms → ⊥) → ((vs : Items) → w ≡ array vs → ⊥) → Stops w token
other_stops {token} {w} non not_array rest = (λ u q r. refers_no (token ∷ rest) refl w r refl, λ name m. fails_no name w (token ∷ rest) m refl)
  where
    refers_no : (tokens : List (List ℕ)) → tokens ≡ token ∷ rest → (x : Plain) {q : List ℕ} {u : Plain} → Refers x tokens q u → x ≡ w → ⊥
    refers_no _ e _ whole same = cc
    refers_no _ e _ (to_member {ms = ms} p r) same = non ms (sym same)
    refers_no _ e _ (to_element {vs = vs} k p r) same = not_array vs (sym same)

    fails_no : (name : List ℕ) (x : Plain) (tokens : List (List ℕ)) → MeetsRepeated name x tokens → x ≡ w → ⊥
    fails_no name _ _ (here {ms = ms} r) same = non ms (sym same)
    fails_no name _ _ (in_member {ms = ms} p m) same = non ms (sym same)
    fails_no name _ _ (in_element {vs = vs} k p m) same = not_array vs (sym same)

-- so it is in a document
same_top : (x y : Plain) (w : Option Plain) → w ≡ Some x → w ≡ Some y → x ≡ y
same_top x y w e f = cc

pub refers_to_one : (w : Option Plain) (tokens : List (List ℕ)) → RefersToOne w tokens
refers_to_one w tokens u v (x, e, p, r) (y, f, q, s) = one_value r (subst (λ k. Refers k tokens q v) (same_top y x w f e) s)

pub fails_with_none : (w : Option Plain) (tokens : List (List ℕ)) → FailsWithNone w tokens
fails_with_none w tokens v name (x, e, p, r) (y, f, m) = never_both r (subst (λ k. MeetsRepeated name k tokens) (same_top y x w f e) m)
