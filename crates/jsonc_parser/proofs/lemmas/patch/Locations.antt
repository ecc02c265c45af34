-- From a node of a document by the token that leads to the next one on its path.
use Rattle.std.proofs.Common.{ℕ, zero, suc, ◌≡◌, ◌<◌, ◌≤◌, ◌+◌, ◌^◌, ◌++◌, ◌∙◌, sym, ap, subst, refl, true, false, inl, inr, List, [], ◌∷◌, Option, Some, None, length, map, drop, filter, get_or, slice_get, slice_index, string_bytes, chars, arith}
use Rattle.std.specs.Fmt.{decimal, digits}
use Rattle.std.specs.Int.Digits.{digits_of}
use Rattle.std.specs.List.{All}
use Rattle.std.proofs.lemmas.Bool.{cases_lt}
use Rattle.std.proofs.lemmas.Fmt.{decimal-digits_of, decimal_is_IsNumeral, IsAscii-decimal}
use Rattle.std.proofs.lemmas.Int.Digits.{first_digits_of}
use Rattle.std.proofs.lemmas.Str.{chars-IsAscii}
use Rattle.jsonc_text.specs.Options.{Options}
use Rattle.jsonc_text.specs.Plain.{Plain, Items, Members, member, no_members, array, object}
use Rattle.jsonc_text.specs.Text.{next}
use Rattle.jsonc_tree.specs.Content as content
use Rattle.jsonc_tree.specs.OrderedTree.{OrderedTree, more, Shows, shows_none, shows_more}
use Rattle.jsonc_tree.specs.Tree.{Node, content_at, children_at}
use Rattle.jsonc_tree.specs.Values as values
use Rattle.jsonc_tree.specs.Values.{MembersOf, PropertyOf}
use Rattle.jsonc_sound.specs.Alone.{PropertyAlone}
use Rattle.jsonc_layout.specs.nodes.Kinds.{is_element, is_element_at}
use Rattle.jsonc_layout.specs.nodes.Names as names
use Rattle.jsonc_layout.specs.nodes.Names.{FirstNamed, HasName, IsNamed}
use Rattle.jsonc_edit.proofs.Elements.{taken, left}
use Rattle.jsonc_edit.specs.Paths.{LeadsTo, itself, step}
use Rattle.jsonc_insert.proofs.lemmas.named.Names.{IsWhole}
use Rattle.jsonc_insert.proofs.lemmas.named.PathValues.{value_once}
use Rattle.jsonc_parser.specs.patch.Lookups.{IsLookedUp, past, alone}
use Rattle.jsonc_parser.specs.patch.References.{IsIndex, IsItem, IsOnly, this_only, later_only, Refers, whole, to_member, to_element}
use Rattle.jsonc_parser.specs.declared.patch.reference.Lookup.TheVariants.{Once}
use Rattle.jsonc_parser.proofs.lemmas.patch.Evaluation.{index_once, item_once, only_of_more, only_once, refers_changed}
use Rattle.jsonc_parser.proofs.lemmas.patch.Rows.{has_name, name_leaf, others_whole, passed_over, NameLeaf}

-- a member of a name is at one place
only_place : {name : List ℕ} {v w : Plain} {i j : ℕ} {ms : Members} → IsOnly name v i ms → IsOnly name w j ms → i ≡ j
only_place {name} {v} (this_only {ms = rest} l) q =
    elim (only_of_more q name v rest refl) [
      | inl is ↦ sym is.2
      | inr other ↦ absurd (other.2 refl)
    ]
only_place {name} (later_only {n = n} {w = x} {ms = rest} ne p) q =
    elim (only_of_more q n x rest refl) [
      | inl is ↦ absurd (ne is.0)
      | inr other ↦ ap suc (only_place p other.3) ∙ sym other.1
    ]

-- the first token of some, in an object and in an array
record MemberLeads (token : List ℕ) (tokens : List (List ℕ)) (whole_path : List ℕ) (ms : Members) (v : Plain) : Type 0 where
  place : ℕ
  there : Plain
  path : List ℕ
  only : IsOnly token there place ms
  refers : Refers there tokens path v
  is : whole_path ≡ place ∷ path

member_leads : {token : List ℕ} {tokens : List (List ℕ)} {path : List ℕ} {ms : Members} {w v : Plain} → Refers w (token ∷ tokens) path v → w ≡ object ms → MemberLeads token tokens path ms v
member_leads {token} {ms = ms} (to_member {i = i} {path = path} {ms = ns} {x = x} only r) e =
    let same : ns ≡ ms = cc in
    record { place = i; there = x; path = path; only = subst (IsOnly token x i) same only; refers = r; is = refl }
member_leads (to_element index item r) e = cc

record ElementLeads (token : List ℕ) (tokens : List (List ℕ)) (whole_path : List ℕ) (vs : Items) (v : Plain) : Type 0 where
  place : ℕ
  there : Plain
  path : List ℕ
  index : IsIndex token place
  item : IsItem there place vs
  refers : Refers there tokens path v
  is : whole_path ≡ place ∷ path

element_leads : {token : List ℕ} {tokens : List (List ℕ)} {path : List ℕ} {vs : Items} {w v : Plain} → Refers w (token ∷ tokens) path v → w ≡ array vs → ElementLeads token tokens path vs v
element_leads {vs = vs} (to_element {i = i} {path = path} {vs = us} {x = x} index item r) e =
    let same : us ≡ vs = cc in
    record { place = i; there = x; path = path; index = index; item = subst (IsItem x i) same item; refers = r; is = refl }
element_leads (to_member only r) e = cc

-- one step alone, in an object
pub step_only : {token : List ℕ} {i : ℕ} {w x : Plain} {ms : Members} → Refers w (token ∷ []) (i ∷ []) x → w ≡ object ms → (y : Plain) × IsOnly token y i ms
step_only {token} {i} {ms = ms} r e =
    let o = member_leads r e in
    let place : o.place ≡ i = first_same o.is in
    (o.there, subst (λ k. IsOnly token o.there k ms) place o.only)
  where
    first_same : {j k : ℕ} {p q : List ℕ} → k ∷ q ≡ j ∷ p → j ≡ k
    first_same e = cc

-- tokens lead over one path
pub only_path : {x v w : Plain} {tokens : List (List ℕ)} {p q : List ℕ} → Refers x tokens p v → Refers x tokens q w → p ≡ q
only_path whole whole = refl
only_path {w = w} (to_member {tokens = tokens} {i = i} {path = path} only r) a =
    let o = member_leads a refl in
    ap (λ k. k ∷ path) (only_place only o.only) ∙ ap (λ l. o.place ∷ l) (only_path r (subst (λ k. Refers k tokens o.path w) (only_once o.only only) o.refers)) ∙ sym o.is
only_path {w = w} (to_element {tokens = tokens} {i = i} {path = path} {vs = vs} {x = x} index item r) a =
    let o = element_leads a refl in
    let place : i ≡ o.place = index_once index o.index in
    let same : IsItem o.there i vs = subst (λ n. IsItem o.there n vs) (sym place) o.item in
    ap (λ k. k ∷ path) place ∙ ap (λ l. o.place ∷ l) (only_path r (subst (λ k. Refers k tokens o.path w) (item_once same item) o.refers)) ∙ sym o.is

-- the first step of a path after another, and the tokens up to there
pub record Parted (x : Plain) (tokens : List (List ℕ)) (path : List ℕ) (i : ℕ) : Type 0 where
  pub front : List (List ℕ)
  pub token : List ℕ
  pub there : Plain
  pub next : Plain
  pub leads : Refers x front path there
  pub on : Refers there (token ∷ []) (i ∷ []) next

pub parted : {x v : Plain} {tokens : List (List ℕ)} (path : List ℕ) (i : ℕ) (rest : List ℕ) → Refers x tokens (path ++ i ∷ rest) v → Parted x tokens path i
parted [] i rest (to_member {token = token} {ms = ms} {x = x} only r) = record { front = []; token = token; there = object ms; next = x; leads = whole; on = to_member only whole }
parted [] i rest (to_element {token = token} {vs = vs} {x = x} index item r) = record { front = []; token = token; there = array vs; next = x; leads = whole; on = to_element index item whole }
parted (j ∷ path) i rest (to_member {token = token} only r) =
    let p = parted path i rest r in
    record { front = token ∷ p.front; token = p.token; there = p.there; next = p.next; leads = to_member only p.leads; on = p.on }
parted (j ∷ path) i rest (to_element {token = token} index item r) =
    let p = parted path i rest r in
    record { front = token ∷ p.front; token = p.token; there = p.there; next = p.next; leads = to_element index item p.leads; on = p.on }

-- over one path tokens refer to one value
pub over_path : {x v w : Plain} {s t : List (List ℕ)} {path : List ℕ} → Refers x s path v → Refers x t path w → v ≡ w
over_path r q = value_once (refers_changed r) (refers_changed q)

-- one path on from another
pub leads_on : (ns : List Node) (n m : ℕ) {v : ℕ} {path : List ℕ} (rest : List ℕ) → LeadsTo ns n v path → LeadsTo ns m n rest → LeadsTo ns m v (path ++ rest)
leads_on ns n m rest itself l = l
leads_on ns n m rest (step s k) l = step s (leads_on ns n m rest k l)

-- an index as it is written
no_nought : (n : ℕ) → 0 < n → n < 2 ^ 64 → next (decimal n) ≡ Some 0x30 → ⊥
no_nought n h fits e = go (digits_of 10 n) (first_digits_of 10 n (omega arith) h) (subst (λ l. next l ≡ Some 0x30) (decimal-digits_of n h fits) e)
  where
    go : (l : List ℕ) → 0 < get_or l 0 0 → next (map (λ d. 48 + d) l) ≡ Some 0x30 → ⊥
    go [] p e = absurd (omega (arith, p))
    go (c ∷ r) p e = let same : 48 + c ≡ 0x30 = cc in absurd (omega (arith, same, p))

nought : next (decimal 0) ≡ Some 0x30 → length (decimal 0) ≡ 1
unfolding digits
nought e = refl

alone_there : (n : ℕ) → n < 2 ^ 64 → next (decimal n) ≡ Some 0x30 → length (decimal n) ≡ 1
alone_there zero fits e = nought e
alone_there (suc n) fits e = absurd (no_nought (suc n) (omega arith) fits e)

pub written_index : (bytes : List ℕ) (n : ℕ) → bytes ≡ decimal n → n < 2 ^ 64 → IsIndex (chars bytes) n
written_index bytes n e fits =
    let both = decimal_is_IsNumeral n fits in
    let it : IsIndex (decimal n) n = record { digits = both.0; leading = alone_there n fits; is = both.1 } in
    subst (λ l. IsIndex l n) (sym (ap chars e ∙ chars-IsAscii (decimal n) (IsAscii-decimal n fits))) it

-- a property of the name that was looked up is the one that was found
none_named : (ns : List Node) (name : List ℕ) {xs : List ℕ} {found : Option ℕ} → FirstNamed ns name xs found → found ≡ None → (k r : ℕ) → slice_get xs k ≡ Some r → IsNamed ns name r → ⊥
none_named ns name names.none e k r at named = let wrong : None ≡ Some r = at in cc
none_named ns name (names.here f) e k r at named = cc
none_named ns name (names.later {n = n} other f) e zero r at named = let same : n ≡ r = cc in other (subst (IsNamed ns name) (sym same) named)
none_named ns name (names.later other f) e (suc k) r at named = none_named ns name f e k r at named

pub only_named : (ns : List Node) (name : List ℕ) {xs : List ℕ} (only : ℕ) → IsLookedUp ns name xs (Once only) → (k r : ℕ) → slice_get xs k ≡ Some r → IsNamed ns name r → only ≡ r
only_named ns name only (past {n = n} other f) zero r at named = let same : n ≡ r = cc in absurd (other (subst (IsNamed ns name) (sym same) named))
only_named ns name only (past other f) (suc k) r at named = only_named ns name only f k r at named
only_named ns name only (alone {n = n} first f) zero r at named = let same : n ≡ r = cc in same
only_named ns name only (alone first f) (suc k) r at named = absurd (none_named ns name f refl k r at named)

module _ (o : Options) (ns : List Node) where
  -- the node at a member's place is a property of its name
  abbrev pub NamedThere : List ℕ → List ℕ → ℕ → Type 0
  NamedThere xs name i = (r : ℕ) × (slice_get (filter (is_element_at ns) xs) i ≡ Some r) × HasName ns r name

  passed_by : (n : ℕ) (xs name : List ℕ) (i : ℕ) → is_element_at ns n ≡ false → NamedThere xs name i → NamedThere (n ∷ xs) name i
  passed_by n xs name i is (r, e, named) = (r, ap (λ l. slice_get l i) (left (is_element_at ns) n xs is) ∙ e, named)

  behind_one : (n : ℕ) (xs name : List ℕ) (i : ℕ) → is_element_at ns n ≡ true → NamedThere xs name i → NamedThere (n ∷ xs) name (suc i)
  behind_one n xs name i is (r, e, named) = (r, ap (λ l. slice_get l (suc i)) (taken (is_element_at ns) n xs is) ∙ e, named)

  first_named : (n : ℕ) (xs name : List ℕ) → is_element_at ns n ≡ true → HasName ns n name → NamedThere (n ∷ xs) name 0
  first_named n xs name is named = (n, ap (λ l. slice_get l 0) (taken (is_element_at ns) n xs is), named)

  pub named_there : (xs : List ℕ) (row same : OrderedTree) (ms : Members) (name : List ℕ) (v : Plain) (i : ℕ) → Shows ns xs row → MembersOf o same ms → row ≡ same → All (IsWhole o ns) xs → IsOnly name v i ms → NamedThere xs name i
  named_there _ _ _ _ name v i p values.no_more_members e all only = elim only [ ]
  named_there _ _ _ _ name v i shows_none (values.pass_to_members h g) e all only = cc
  named_there _ _ _ _ name v i shows_none (values.one_member h g) e all only = cc
  named_there _ _ _ ms name v i (shows_more {n = n} {rest = rest} {below = below} {after = after} p q) (values.pass_to_members {content = w} {below = b} {after = a} h g) e all only =
      let kind : content_at ns n ≡ w = cc in
      let tail : after ≡ a = cc in
      passed_by n rest name i (ap is_element kind ∙ (passed_over w h).0) (named_there rest after a ms name v i q g tail (others_whole o ns n rest all) only)
  named_there _ _ _ _ name v i (shows_more {n = n} {rest = rest} {below = below} {after = after} p q) (values.one_member {below = b} {after = a} {name = m} {v = u} {ms = ms} h g) e all only =
      let kind : content_at ns n ≡ content.property = cc in
      let tail : after ≡ a = cc in
      let inner : below ≡ b = cc in
      let whole_here : PropertyAlone o below = all 0 n (omega arith) kind below p in
      let leaf : NameLeaf o ns (children_at ns n) m = name_leaf o ns (children_at ns n) below m u p whole_here (subst (λ t. PropertyOf o t m u) (sym inner) h) in
      elim (only_of_more only m u ms refl) [
        | inl is ↦ subst (NamedThere (n ∷ rest) name) (sym is.2) (first_named n rest name (ap is_element kind) (subst (HasName ns n) is.0 (has_name o ns n m leaf)))
        | inr other ↦ subst (NamedThere (n ∷ rest) name) (sym other.1) (behind_one n rest name other.0 (ap is_element kind) (named_there rest after a ms name v other.0 q g tail (others_whole o ns n rest all) other.3))
      ]
