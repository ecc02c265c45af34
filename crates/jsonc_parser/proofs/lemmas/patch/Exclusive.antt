-- An operation for which a cause reports that it is not made makes nothing.
use Rattle.std.proofs.Common.{ℕ, ◌≡◌, ◌≢◌, ◌≤◌, ◌<◌, ◌∙◌, ◌++◌, ◌⊎◌, inl, inr, sym, ap, subst, refl, List, [], ◌∷◌, length, Option, Some, None, arith}
use Rattle.std.specs.List.{All}
use Rattle.std.proofs.lemmas.List.{length-append}
use Rattle.std.proofs.lemmas.List.Elements.{All-head, All-tail}
use Rattle.jsonc_text.specs.Plain.{Plain, Items, Members, no_members, member, collapse}
use Rattle.jsonc_text.specs.Plain as plain
use Rattle.jsonc_insert.specs.elements.Laws.{item_count}
use Rattle.jsonc_insert.specs.named.Members.{LacksMember, no_more, other_name}
use Rattle.jsonc_run.specs.texts.Entries.{of, items, members, Named}
use Rattle.jsonc_run.specs.texts.Paths.{Kind, an_array, an_object}
use Rattle.jsonc_run.proofs.lemmas.promise.Inserting.{counted}
use Rattle.jsonc_parser.specs.patch.Failing.{below_nothing, below_scalar, past_elements, HasNoPlace, ReferToNothing}
use Rattle.jsonc_parser.specs.patch.Operations.{as_element, as_member, as_whole, in_member, Adds, RefersAlong}
use Rattle.jsonc_parser.specs.patch.References.{FailsAt, IsIndex, IsRepeated, MeetsRepeated, RefersTo}
use Rattle.jsonc_parser.specs.patch.References as references
use Rattle.jsonc_parser.proofs.lemmas.patch.Evaluation.{fails_behind, fails_with_none, index_once, refers_to_one, repeated_lacks}

-- nothing is there where tokens refer to nothing, or where evaluation fails
pub none_stands : (w : Option Plain) (tokens : List (List ℕ)) (path : List ℕ) (x : Plain) → RefersAlong w tokens path x → ReferToNothing w tokens → ⊥
none_stands w tokens path x (v, is, r) none = none.0 x (v, is, path, r)

pub none_fails : (w : Option Plain) (tokens : List (List ℕ)) (path : List ℕ) (x : Plain) (name : List ℕ) → RefersAlong w tokens path x → FailsAt w tokens name → ⊥
none_fails w tokens path x name (v, is, r) fails = fails_with_none w tokens x name (v, is, path, r) fails

-- which entry is meant
pub data Place (kind : Kind) (es : List Named) (token : List ℕ) : Type 0 where
  by_index : (i : ℕ) → IsIndex token i → i ≤ length es → Place kind es token
  by_dash : token ≡ 0x2D ∷ [] → Place kind es token
  by_name : kind ≡ an_object → Place kind es token

pub record Below (w : Option Plain) (all : List (List ℕ)) : Type 0 where
  pub tokens : List (List ℕ)
  pub token : List ℕ
  pub path : List ℕ
  pub kind : Kind
  pub es : List Named
  pub is : all ≡ tokens ++ token ∷ []
  pub stands : RefersAlong w tokens path (of kind es)
  pub place : Place kind es token

front_within : (front back : List Named) → length front ≤ length (front ++ back)
front_within front back = omega (arith, length-append front back)

below : {v : Plain} {all : List (List ℕ)} {w y : Option Plain} → Adds v all w y → (all ≡ []) ⊎ Below w all
below as_whole = inl refl
below (as_element {tokens = tokens} {token = token} {path = path} front back stands (inl index) b) = inr (record { tokens = tokens; token = token; path = path; kind = an_array; es = front ++ back; is = refl; stands = stands; place = by_index (length front) index (front_within front back) })
below (as_element {tokens = tokens} {token = token} {path = path} front back stands (inr dash) b) = inr (record { tokens = tokens; token = token; path = path; kind = an_array; es = front ++ back; is = refl; stands = stands; place = by_dash dash.0 })
below (as_member {tokens = tokens} {path = path} name front stands others b) = inr (record { tokens = tokens; token = name; path = path; kind = an_object; es = front; is = refl; stands = stands; place = by_name refl })
below (in_member {tokens = tokens} {path = path} name ms stands inner b) = inr (record { tokens = tokens; token = name; path = path; kind = an_object; es = ms; is = refl; stands = stands; place = by_name refl })

pub no_last : (tokens : List (List ℕ)) (token : List ℕ) → tokens ++ token ∷ [] ≡ [] → ⊥
no_last [] token e = cc
no_last (t ∷ ts) token e = cc

pub record Same (one other : List (List ℕ)) (a b : List ℕ) : Type 0 where
  pub front : one ≡ other
  pub last : a ≡ b

pub same_last : (one other : List (List ℕ)) (a b : List ℕ) → one ++ a ∷ [] ≡ other ++ b ∷ [] → Same one other a b
same_last [] [] a b e = record { front = refl; last = cc }
same_last [] (t ∷ ts) a b e = (let wrong : [] ≡ ts ++ b ∷ [] = cc in absurd (no_last ts b (sym wrong)))
same_last (t ∷ ts) [] a b e = (let wrong : ts ++ a ∷ [] ≡ [] = cc in absurd (no_last ts a wrong))
same_last (t ∷ ts) (u ∷ us) a b e =
    let head : t ≡ u = cc in
    let tail : ts ++ a ∷ [] ≡ us ++ b ∷ [] = cc in
    let s = same_last ts us a b tail in
    record { front = ap (λ k. k ∷ ts) head ∙ ap (λ l. u ∷ l) s.front; last = s.last }

same_array : (vs : Items) (es : List Named) → plain.array vs ≡ plain.array (items es) → vs ≡ items es
same_array vs es e = cc

no_array : (vs : Items) (ms : Members) → plain.array vs ≡ plain.object ms → ⊥
no_array vs ms e = cc

-- neither array nor object
container_there : (kind : Kind) (es : List Named) (x : Plain) → x ≡ of kind es → ((vs : Items) → x ≢ plain.array vs) → ((ms : Members) → x ≢ plain.object ms) → ⊥
container_there an_array es x is no_items_there no_members_there = no_items_there (items es) is
container_there an_object es x is no_items_there no_members_there = no_members_there (members es) is

element_there : (kind : Kind) (es : List Named) (vs : Items) (token : List ℕ) → plain.array vs ≡ of kind es → token ≢ 0x2D ∷ [] → ((i : ℕ) → IsIndex token i → item_count vs < i) → Place kind es token → ⊥
element_there an_array es vs token is other past (by_index i index within) =
    let count : item_count vs ≡ length es = ap item_count (same_array vs es is) ∙ counted es in
    let far = past i index in
    omega (arith, count, far, within)
element_there an_array es vs token is other past (by_dash e) = other e
element_there an_array es vs token is other past (by_name e) = cc
element_there an_object es vs token is other past place = no_array vs (members es) is

pub place_there : (w : Option Plain) (all : List (List ℕ)) → HasNoPlace w all → Below w all → ⊥
place_there w _ (below_nothing {tokens = tokens} token none) b =
    let s = same_last tokens b.tokens token b.token b.is in
    none_stands w b.tokens b.path (of b.kind b.es) b.stands (subst (ReferToNothing w) s.front none)
place_there w _ (below_scalar {tokens = tokens} {x = x} token at no_items_there no_members_there) b =
    let s = same_last tokens b.tokens token b.token b.is in
    let same : x ≡ of b.kind b.es = refers_to_one w b.tokens x (of b.kind b.es) (subst (λ l. RefersTo w l x) s.front at) (b.stands.0, b.stands.1, b.path, b.stands.2) in
    container_there b.kind b.es x same no_items_there no_members_there
place_there w _ (past_elements {tokens = tokens} {vs = vs} token at other past) b =
    let s = same_last tokens b.tokens token b.token b.is in
    let same : plain.array vs ≡ of b.kind b.es = refers_to_one w b.tokens (plain.array vs) (of b.kind b.es) (subst (λ l. RefersTo w l (plain.array vs)) s.front at) (b.stands.0, b.stands.1, b.path, b.stands.2) in
    element_there b.kind b.es vs token same other past (subst (Place b.kind b.es) (sym s.last) b.place)

pub no_place_whole : (w : Option Plain) (all : List (List ℕ)) → HasNoPlace w all → all ≡ [] → ⊥
no_place_whole w _ (below_nothing {tokens = tokens} token none) e = no_last tokens token e
no_place_whole w _ (below_scalar {tokens = tokens} token at a b) e = no_last tokens token e
no_place_whole w _ (past_elements {tokens = tokens} token at a b) e = no_last tokens token e

pub none_added : {v : Plain} {all : List (List ℕ)} {w y : Option Plain} → Adds v all w y → HasNoPlace w all → ⊥
none_added {all = all} {w = w} adds none =
    elim (below adds) [
      | inl e ↦ no_place_whole w all none e
      | inr b ↦ place_there w all none b
    ]

-- a name that occurs twice
meets_none : {name : List ℕ} {x : Plain} {tokens : List (List ℕ)} → MeetsRepeated name x tokens → tokens ≡ [] → ⊥
meets_none (references.here {tokens = ts} r) e = cc
meets_none (references.in_member {token = t} {tokens = ts} p m) e = cc
meets_none (references.in_element {token = t} {tokens = ts} k p m) e = cc

repeats_here : {name : List ℕ} {x : Plain} {tokens : List (List ℕ)} → MeetsRepeated name x tokens → (token : List ℕ) → tokens ≡ token ∷ [] → (ms : Members) → x ≡ plain.object ms → IsRepeated token ms
repeats_here (references.here {tokens = ts} {ms = ns} r) token e ms is = (let a : ns ≡ ms = cc in let b : _ ≡ token = first_of e in subst (λ k. IsRepeated token k) a (subst (λ k. IsRepeated k ns) b r))
  where
    first_of : {s t : List ℕ} {us vs : List (List ℕ)} → s ∷ us ≡ t ∷ vs → s ≡ t
    first_of e = cc
repeats_here (references.in_member {token = t} {tokens = ts} p m) token e ms is = (let none : ts ≡ [] = cc in absurd (meets_none m none))
repeats_here (references.in_element {token = t} {tokens = ts} k p m) token e ms is = (let none : ts ≡ [] = cc in absurd (meets_none m none))

repeats_no_array : {name : List ℕ} {x : Plain} {tokens : List (List ℕ)} → MeetsRepeated name x tokens → (token : List ℕ) → tokens ≡ token ∷ [] → (vs : Items) → x ≡ plain.array vs → ⊥
repeats_no_array (references.here {ms = ns} r) token e vs is = no_array vs ns (sym is)
repeats_no_array (references.in_member {token = t} {tokens = ts} {ms = ns} p m) token e vs is = no_array vs ns (sym is)
repeats_no_array (references.in_element {token = t} {tokens = ts} k p m) token e vs is = (let none : ts ≡ [] = cc in meets_none m none)

all_lack : (name : List ℕ) (es : List Named) → All (λ e. e.name ≢ name) es → LacksMember name (members es)
all_lack name [] others = no_more
all_lack name (e ∷ es) others = other_name (All-head (λ (e : Named). e.name ≢ name) e es others) (all_lack name es (All-tail (λ (e : Named). e.name ≢ name) e es others))

fails_in : (w : Option Plain) (tokens : List (List ℕ)) (token path name : List ℕ) (x : Plain) → RefersAlong w tokens path x → FailsAt w (tokens ++ token ∷ []) name → MeetsRepeated name x (token ∷ [])
fails_in w tokens token path name x (v, is, r) (u, so, m) =
    let both : Some u ≡ Some v = sym so ∙ is in
    let same : u ≡ v = cc in
    fails_behind (token ∷ []) r (subst (λ k. MeetsRepeated name k (tokens ++ token ∷ [])) same m)

pub fails_whole : (w : Option Plain) (name : List ℕ) → FailsAt w [] name → ⊥
fails_whole w name (u, so, m) = meets_none m refl

pub none_added_twice : {v : Plain} {all : List (List ℕ)} {w y : Option Plain} (name : List ℕ) → Adds v all w y → FailsAt w all name → ⊥
none_added_twice {w = w} name as_whole fails = fails_whole w name fails
none_added_twice {w = w} name (as_element {tokens = tokens} {token = token} {path = path} front back stands place b) fails =
    repeats_no_array (fails_in w tokens token path name (of an_array (front ++ back)) stands fails) token refl (items (front ++ back)) refl
none_added_twice {w = w} name (as_member {tokens = tokens} {path = path} last front stands others b) fails =
    repeated_lacks (repeats_here (fails_in w tokens last path name (of an_object front) stands fails) last refl (members front) refl) (all_lack last front others)
none_added_twice {w = w} name (in_member {tokens = tokens} {place = place} {x = x} last ms stands inner b) fails = none_fails w (tokens ++ last ∷ []) place x name inner fails
