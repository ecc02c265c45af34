-- Where an element stands in a row that has its brackets: before the last of them.
use Rattle.std.proofs.Common.{◌≡◌, ◌<◌, ◌≤◌, ◌+◌, ◌-◌, ◌&&◌, ◌⊎◌, inl, inr, ℕ, zero, suc, Bool, true, false, cond, List, [], ◌∷◌, length, reverse, get_or, slice_get, slice_index, nat_lt, Some, None, refl, sym, ap, subst, ◌∙◌, arith, rules}
use Rattle.std.specs.List.{find, prefix_len}
use Rattle.std.specs.Option.{option_or}
use Rattle.std.proofs.lemmas.List.Elements.{All-filter, filter_passes}
use Rattle.std.proofs.lemmas.List.Folds.{length-prefix_len}
use Rattle.std.proofs.lemmas.Option.{slice_get_cases}
use Rattle.std.proofs.lemmas.List.{get_or_default}
use Rattle.jsonc_tree.specs.Content as content
use Rattle.jsonc_tree.specs.Content.{Content}
use Rattle.jsonc_tree.specs.Tree.{Node, content_at}
use Rattle.jsonc_layout.specs.nodes.Kinds.{is_element, is_element_at, is_token}
use Rattle.jsonc_layout.proofs.lemmas.nodes.InTree.{All-reverse}
use Rattle.jsonc_edit.proofs.Elements.{Some_same}
use Rattle.jsonc_insert.specs.Planned.{element_before, elements, has_brackets, is_other, place_in}

not_other : (m : ℕ) → is_other m m ≡ false
not_other m = search rules

first_by : (r : ℕ) (b : Bool) → b ≡ false → cond b (1 + r) 0 ≤ 0
first_by r false e = omega arith
first_by r true e = absurd (let wrong : true ≡ false = e in cc)

later_by : (r k : ℕ) (b : Bool) → r ≤ k → cond b (1 + r) 0 ≤ suc k
later_by r k false h = omega arith
later_by r k true h = omega (arith, h)

others_at_most : (xs : List ℕ) (k d : ℕ) → k < length xs → prefix_len (is_other (get_or xs k d)) xs ≤ k
others_at_most [] k d h = absurd (omega arith)
others_at_most (x ∷ xs) zero d h = first_by (prefix_len (is_other x) xs) (is_other x x) (not_other x)
others_at_most (x ∷ xs) (suc k) d h =
    let n = get_or xs k d in
    later_by (prefix_len (is_other n) xs) k (is_other n x) (others_at_most xs k d (omega arith))

-- a node's place is no later than where it stands
pub place_at_most : (xs : List ℕ) (k d : ℕ) → k < length xs → place_in (get_or xs k d) xs ≤ k
place_at_most xs k d h = subst (λ n. n ≤ k) (sym (length-prefix_len (is_other (get_or xs k d)) xs)) (others_at_most xs k d h)

-- a token is no element
pub token_no_element : (c : Content) → is_token c ≡ true → is_element c ≡ true → ⊥
token_no_element (content.token c) e f = let wrong : false ≡ true = f in cc
token_no_element content.root e f = let wrong : false ≡ true = e in cc
token_no_element content.array e f = let wrong : false ≡ true = e in cc
token_no_element content.object e f = let wrong : false ≡ true = e in cc
token_no_element content.property e f = let wrong : false ≡ true = e in cc
token_no_element content.null e f = let wrong : false ≡ true = e in cc
token_no_element (content.boolean b) e f = let wrong : false ≡ true = e in cc
token_no_element (content.number s) e f = let wrong : false ≡ true = e in cc
token_no_element (content.string s) e f = let wrong : false ≡ true = e in cc
token_no_element (content.word s) e f = let wrong : false ≡ true = e in cc
token_no_element (content.whitespace s) e f = let wrong : false ≡ true = e in cc
token_no_element (content.newline k) e f = let wrong : false ≡ true = e in cc
token_no_element (content.comment s) e f = let wrong : false ≡ true = e in cc

both : (a b : Bool) → (a && b) ≡ true → b ≡ true
both true b e = e
both false b e = absurd (let wrong : false ≡ true = e in cc)

otherwise : (a b : Bool) → cond a false b ≡ true → (a ≡ false) × (b ≡ true)
otherwise true b e = absurd (let wrong : false ≡ true = e in cc)
otherwise false b e = (refl, e)

-- what holds of each holds of what is found, and that passes
pub holds_found : (p : ℕ → Bool) (P : ℕ → Type 0) (xs : List ℕ) → ((k d : ℕ) → k < length xs → P (get_or xs k d)) → (n : ℕ) → find p xs ≡ Some n → P n × (p n ≡ true)
holds_found p P [] h n e = absurd (let wrong : None ≡ Some n = e in cc)
holds_found p P (x ∷ xs) h n e = found_by (p x) refl e (holds_found p P xs (λ k d l. h (suc k) d (omega (arith, l))) n)
  where
    found_by : (b : Bool) → p x ≡ b → cond b (Some x) (find p xs) ≡ Some n → (find p xs ≡ Some n → P n × (p n ≡ true)) → P n × (p n ≡ true)
    found_by true q f rest = let same : x ≡ n = Some_same x n f in (subst P same (h 0 0 (omega arith)), subst (λ m. p m ≡ true) same q)
    found_by false q f rest = rest f

module _ (ns : List Node) (row : List ℕ) (brackets : has_brackets ns row ≡ true) where
  -- an element is not the last node of the row
  abbrev Inner : ℕ → Type 0
  Inner m = is_element_at ns m ≡ true → place_in m row + 1 < length row

  last_token : is_token (content_at ns (slice_index row (length row - 1))) ≡ true
  last_token = both _ _ (otherwise (nat_lt (length row) 2) _ brackets).1

  each : (k d : ℕ) → k < length row → Inner (get_or row k d)
  each k d h el = by_end (slice_get_cases row (k + 1)).1
    where
      by_end : ((x : ℕ) × (k + 1 < length row) × (slice_get row (k + 1) ≡ Some x) × (get_or row (k + 1) x ≡ x)) ⊎ ((length row ≤ k + 1) × (slice_get row (k + 1) ≡ None)) → place_in (get_or row k d) row + 1 < length row
      by_end (inl (x, lt, e, g)) = omega (arith, place_at_most row k d h, lt)
      by_end (inr (ge, e)) =
          let last : length row - 1 ≡ k = omega (arith, h, ge) in
          let token : is_token (content_at ns (get_or row k d)) ≡ true =
          ap (λ m. is_token (content_at ns m)) (get_or_default row k d 0 h) ∙ ap (λ i. is_token (content_at ns (slice_index row i))) (sym last) ∙ last_token in
          absurd (token_no_element (content_at ns (get_or row k d)) token el)

  by_found : (i n : ℕ) → ((x : ℕ) × (i < length (elements ns row)) × (slice_get (elements ns row) i ≡ Some x) × (get_or (elements ns row) i x ≡ x)) ⊎ ((length (elements ns row) ≤ i) × (slice_get (elements ns row) i ≡ None))
      → option_or (slice_get (elements ns row) i) (find (is_element_at ns) (reverse row)) ≡ Some n → place_in n row + 1 < length row
  by_found i n (inl (x, lt, e, g)) f =
      let same : x ≡ n = Some_same x n (sym (ap (λ o. option_or o (find (is_element_at ns) (reverse row))) e) ∙ f) in
      subst (λ m. place_in m row + 1 < length row) (g ∙ same) (All-filter (is_element_at ns) Inner row each i x lt (filter_passes (is_element_at ns) row i x lt))
  by_found i n (inr (ge, e)) f =
      let found = holds_found (is_element_at ns) Inner (reverse row) (All-reverse Inner row each) n (sym (ap (λ o. option_or o (find (is_element_at ns) (reverse row))) e) ∙ f) in
      found.0 found.1

  -- what an element comes behind stands before the last bracket
  pub stands_inside : (i n : ℕ) → element_before ns row i ≡ Some n → place_in n row + 1 < length row
  stands_inside zero n e = absurd (let wrong : None ≡ Some n = e in cc)
  stands_inside (suc i) n e = by_found i n (slice_get_cases (elements ns row) i).1 e
