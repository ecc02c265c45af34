-- The comments of entries, part by part: those that a sort moves, and those that are around an element.
use Rattle.std.proofs.Common.{◌≡◌, ◌≢◌, ℕ, suc, ◌+◌, Bool, true, false, not, ◌||◌, List, [], ◌∷◌, ◌++◌, drop, map, refl, sym, ap, ◌∙◌, arith, reverse, filter, eq-eqb}
use Rattle.std.specs.Prelude.{if◌then◌else◌}
use Rattle.std.specs.List.{list_any, prefix_len, take_while}
use Rattle.std.proofs.lemmas.Bool.{ne_eqb}
use Rattle.std.proofs.lemmas.List.{append-nil, reverse-append, reverse-reverse}
use Rattle.std.proofs.lemmas.List.Elements.{filter-append}
use Rattle.std.proofs.lemmas.List.Folds.{list_any-append}
use Rattle.jsonc_tree.specs.Content.{Content}
use Rattle.jsonc_layout.specs.nodes.Kinds.{is_element}
use Rattle.jsonc_sort.proofs.Choices.{Each}
use Rattle.jsonc_sort.specs.Above.{leads_from}
use Rattle.jsonc_sort.specs.Leads.{is_comment_at, lead_parts, own_lead}
use Rattle.jsonc_sort.specs.Parts.{Part, Parts, is_none, part_with, parts, tail_length, with_node}
use Rattle.jsonc_sort.specs.Sorting.{entries_from}
use Rattle.jsonc_cst.specs.EntryComments.{comments_around, comments_in, comments_of_part, moved_comments}
use Rattle.jsonc_cst.proofs.lemmas.comments.Leads.{pin_above, travels_own}

-- no two are the same
abbrev pub Apart : List ℕ → Type 0
Apart [] = Unit {0}
Apart (n ∷ row) = Each (λ m. n ≢ m) row × Apart row

abbrev pub elements : List Part → List ℕ
elements ps = map (λ p. p.element) ps

module _ (at : ℕ → Content) where
  -- of the part itself, and of a part after it
  here : (n : ℕ) (lead : List ℕ) (p : Part) (ps : List Part) → p.element ≡ n → comments_of_part at n lead (p ∷ ps) ≡ comments_around at lead p.tail
  here n lead p ps e = rw (eq-eqb p.element n e) refl

  later : (n : ℕ) (lead : List ℕ) (p : Part) (ps : List Part) → p.element ≢ n → comments_of_part at n lead (p ∷ ps) ≡ comments_of_part at n p.behind ps
  later n lead p ps e = rw (ne_eqb p.element n e) refl

  -- the comments of an entry are those that move with it
  moved_own : (n : ℕ) (lead tail : List ℕ) → comments_around at lead tail ≡ moved_comments at (record { lead = lead_parts at false (pin_above at lead) lead; element = n; tail = tail })
  moved_own n lead tail =
      let travels : List ℕ = (lead_parts at false (pin_above at lead) lead).travels in
      filter-append (is_comment_at at) (own_lead at lead) tail ∙ ap (λ l. l ++ filter (is_comment_at at) tail) (sym (travels_own at lead)) ∙ sym (filter-append (is_comment_at at) travels tail)

  each_later : (F : ℕ → List ℕ) (lead : List ℕ) (p : Part) (ps : List Part) (ns : List ℕ) → Each (λ m. p.element ≢ m) ns → Each (λ n. F n ≡ comments_of_part at n lead (p ∷ ps)) ns → Each (λ n. F n ≡ comments_of_part at n p.behind ps) ns
  each_later F lead p ps [] d h = tt
  each_later F lead p ps (n ∷ ns) d h = (h.0 ∙ later n lead p ps d.0, each_later F lead p ps ns d.1 h.1)

  pub moved_each : (F : ℕ → List ℕ) (lead : List ℕ) (ps : List Part) → Apart (elements ps) → Each (λ n. F n ≡ comments_of_part at n lead ps) (elements ps)
      → Each (λ e. F e.element ≡ moved_comments at e) (entries_from at false (map (pin_above at) (leads_from lead ps)) lead ps)
  moved_each F lead [] d h = tt
  moved_each F lead (p ∷ ps) d h = (h.0 ∙ here p.element lead p ps refl ∙ moved_own p.element lead p.tail, moved_each F p.behind ps d.1 (each_later F lead p ps (elements ps) d.0 h.1))

  abbrev elem : ℕ → Bool
  elem n = is_element (at n)

  -- what is before an element, of all children in front of it
  abbrev pub lead_in : List ℕ → List ℕ
  lead_in [] = []
  lead_in (m ∷ xs) = if list_any elem xs then lead_in xs else (if elem m then drop (tail_length at false xs) xs else m ∷ xs)

  -- the part of an element, by the children after it
  abbrev pub own_part : ℕ → List ℕ → Part
  own_part n ys = part_with at n (is_none (parts at ys).rest) (parts at ys).lead

  record Reads (n : ℕ) (xs ys : List ℕ) (p : Parts) : Type 0 where
    none : is_none p.rest ≡ false
    free : list_any elem xs ≡ false → (p.lead ≡ xs) × (p.rest ≡ own_part n ys ∷ (parts at ys).rest)
    some : list_any elem xs ≡ true → (lead : List ℕ) → comments_of_part at n lead p.rest ≡ comments_around at (lead_in xs) (own_part n ys).tail

  -- after one more element
  behind_one : (n m : ℕ) (xs ys : List ℕ) (p : Parts) → Reads n xs ys p → elem m ≡ true → (b : Bool) → list_any elem xs ≡ b
      → comments_of_part at n (part_with at m (is_none p.rest) p.lead).behind p.rest ≡ comments_around at (lead_in (m ∷ xs)) (own_part n ys).tail
  behind_one n m xs ys p r e true f =
      let same : lead_in (m ∷ xs) ≡ lead_in xs = rw f refl in
      r.some f (part_with at m (is_none p.rest) p.lead).behind ∙ ap (λ l. comments_around at l (own_part n ys).tail) (sym same)
  behind_one n m xs ys p r e false f =
      let behind : List ℕ = (part_with at m (is_none p.rest) p.lead).behind in
      let cut : behind ≡ drop (tail_length at false xs) xs = ap (λ b. (part_with at m b p.lead).behind) r.none ∙ ap (λ l. (part_with at m false l).behind) (r.free f).0 in
      let same : lead_in (m ∷ xs) ≡ drop (tail_length at false xs) xs = rw (f, e) refl in
      ap (comments_of_part at n behind) (r.free f).1 ∙ here n behind (own_part n ys) (parts at ys).rest refl ∙ ap (λ l. comments_around at l (own_part n ys).tail) (cut ∙ sym same)

  reads_more : (n m : ℕ) (xs ys : List ℕ) (p : Parts) → m ≢ n → Reads n xs ys p → Reads n (m ∷ xs) ys (with_node at m p)
  reads_more n m xs ys p ne r = by (elem m) refl
    where
      by : (a : Bool) → elem m ≡ a → Reads n (m ∷ xs) ys (if a then record { lead = []; rest = part_with at m (is_none p.rest) p.lead ∷ p.rest } else record { lead = m ∷ p.lead; rest = p.rest })
      by true e = record {
        none = refl;
        free = λ g. (let wrong : true || list_any elem xs ≡ false = rw e at g in cc);
        some = λ g lead. later n lead (part_with at m (is_none p.rest) p.lead) p.rest ne ∙ behind_one n m xs ys p r e (list_any elem xs) refl;
      }
      by false e = record {
        none = r.none;
        free = λ g. (let f : list_any elem xs ≡ false = rw e at g in (ap (λ l. m ∷ l) (r.free f).0, (r.free f).1));
        some = λ g lead. (
            let f : list_any elem xs ≡ true = rw e at g in
            let same : lead_in (m ∷ xs) ≡ lead_in xs = rw f refl in
            r.some f lead ∙ ap (λ l. comments_around at l (own_part n ys).tail) (sym same)
            );
      }

  reads : (n : ℕ) (xs ys : List ℕ) → elem n ≡ true → Each (λ m. m ≢ n) xs → Reads n xs ys (parts at (xs ++ n ∷ ys))
  reads n [] ys e h = rw e (record {
    none = refl;
    free = λ f. (refl, refl);
    some = λ f. cc;
  })
  reads n (m ∷ xs) ys e h = reads_more n m xs ys (parts at (xs ++ n ∷ ys)) h.0 (reads n xs ys e h.1)

  -- all is the lead of the first element
  pub lead_of_first : (xs : List ℕ) → list_any elem xs ≡ false → lead_in xs ≡ xs
  lead_of_first [] e = refl
  lead_of_first (m ∷ xs) e = by (elem m) refl (list_any elem xs) refl e
    where
      by : (a : Bool) → elem m ≡ a → (b : Bool) → list_any elem xs ≡ b → a || b ≡ false → lead_in (m ∷ xs) ≡ m ∷ xs
      by true f b g h = cc
      by false f true g h = cc
      by false f false g h = rw (g, f) refl

  -- the comments of an element are those around it
  pub comments_around_it : (n : ℕ) (xs ys : List ℕ) → elem n ≡ true → Each (λ m. m ≢ n) xs → comments_in at (xs ++ n ∷ ys) n ≡ comments_around at (lead_in xs) (own_part n ys).tail
  comments_around_it n xs ys e h = by (list_any elem xs) refl (reads n xs ys e h)
    where
      by : (b : Bool) → list_any elem xs ≡ b → Reads n xs ys (parts at (xs ++ n ∷ ys)) → comments_in at (xs ++ n ∷ ys) n ≡ comments_around at (lead_in xs) (own_part n ys).tail
      by true f r = r.some f (parts at (xs ++ n ∷ ys)).lead
      by false f r =
          ap (λ l. comments_of_part at n l (parts at (xs ++ n ∷ ys)).rest) (r.free f).0 ∙ ap (comments_of_part at n xs) (r.free f).1 ∙ here n xs (own_part n ys) (parts at ys).rest refl
          ∙ ap (λ l. comments_around at l (own_part n ys).tail) (sym (lead_of_first xs f))

  -- as nodes are read along their siblings
  abbrev pub no_elem : ℕ → Bool
  no_elem n = not (elem n)

  pub while_all : (zs ws : List ℕ) → list_any elem zs ≡ false → take_while no_elem (zs ++ ws) ≡ zs ++ take_while no_elem ws
  while_all [] ws e = refl
  while_all (m ∷ zs) ws e = by (elem m) refl e (while_all zs ws)
    where
      by : (a : Bool) → elem m ≡ a → a || list_any elem zs ≡ false → (list_any elem zs ≡ false → take_while no_elem (zs ++ ws) ≡ zs ++ take_while no_elem ws) → take_while no_elem (m ∷ (zs ++ ws)) ≡ m ∷ (zs ++ take_while no_elem ws)
      by true f g k = cc
      by false f g k = let one : 1 + prefix_len no_elem (zs ++ ws) ≡ suc (prefix_len no_elem (zs ++ ws)) = omega arith in rw (f, one) (ap (λ l. m ∷ l) (k g))

  pub while_some : (zs ws : List ℕ) → list_any elem zs ≡ true → take_while no_elem (zs ++ ws) ≡ take_while no_elem zs
  while_some [] ws e = cc
  while_some (m ∷ zs) ws e = by (elem m) refl e (while_some zs ws)
    where
      by : (a : Bool) → elem m ≡ a → a || list_any elem zs ≡ true → (list_any elem zs ≡ true → take_while no_elem (zs ++ ws) ≡ take_while no_elem zs) → take_while no_elem (m ∷ (zs ++ ws)) ≡ take_while no_elem (m ∷ zs)
      by true f g k = rw f refl
      by false f g k =
          let one : 1 + prefix_len no_elem (zs ++ ws) ≡ suc (prefix_len no_elem (zs ++ ws)) = omega arith in
          let two : 1 + prefix_len no_elem zs ≡ suc (prefix_len no_elem zs) = omega arith in
          rw (f, one, two) (ap (λ l. m ∷ l) (k g))

  -- what is after an element up to the next one
  pub parts_lead : (ys : List ℕ) → (parts at ys).lead ≡ take_while no_elem ys
  parts_lead [] = refl
  parts_lead (m ∷ ys) = by (elem m) refl (parts_lead ys)
    where
      by : (a : Bool) → elem m ≡ a → (parts at ys).lead ≡ take_while no_elem ys → (with_node at m (parts at ys)).lead ≡ take_while no_elem (m ∷ ys)
      by true f k = rw f refl
      by false f k = let one : 1 + prefix_len no_elem ys ≡ suc (prefix_len no_elem ys) = omega arith in rw (f, one) (ap (λ l. m ∷ l) k)

  pub parts_none : (ys : List ℕ) → is_none (parts at ys).rest ≡ not (list_any elem ys)
  parts_none [] = refl
  parts_none (m ∷ ys) = by (elem m) refl (parts_none ys)
    where
      by : (a : Bool) → elem m ≡ a → is_none (parts at ys).rest ≡ not (list_any elem ys) → is_none (with_node at m (parts at ys)).rest ≡ not (elem m || list_any elem ys)
      by true f k = rw f refl
      by false f k = rw f k

  -- what is before an element after the one before it
  abbrev pub gap_in : List ℕ → List ℕ
  gap_in [] = []
  gap_in (m ∷ xs) = if list_any elem xs then gap_in xs else (if elem m then xs else m ∷ xs)

  pub lead_is_cut : (xs : List ℕ) → list_any elem xs ≡ true → lead_in xs ≡ drop (tail_length at false (gap_in xs)) (gap_in xs)
  lead_is_cut [] e = cc
  lead_is_cut (m ∷ xs) e = by (elem m) refl (list_any elem xs) refl e (lead_is_cut xs)
    where
      by : (a : Bool) → elem m ≡ a → (b : Bool) → list_any elem xs ≡ b → a || b ≡ true → (list_any elem xs ≡ true → lead_in xs ≡ drop (tail_length at false (gap_in xs)) (gap_in xs))
          → lead_in (m ∷ xs) ≡ drop (tail_length at false (gap_in (m ∷ xs))) (gap_in (m ∷ xs))
      by a f true g h k =
          let one : lead_in (m ∷ xs) ≡ lead_in xs = rw g refl in
          let two : gap_in (m ∷ xs) ≡ gap_in xs = rw g refl in
          one ∙ k g ∙ ap (λ l. drop (tail_length at false l) l) (sym two)
      by true f false g h k =
          let one : lead_in (m ∷ xs) ≡ drop (tail_length at false xs) xs = rw (g, f) refl in
          let two : gap_in (m ∷ xs) ≡ xs = rw (g, f) refl in
          one ∙ ap (λ l. drop (tail_length at false l) l) (sym two)
      by false f false g h k = cc

  pub any_reverse : (xs : List ℕ) → list_any elem (reverse xs) ≡ list_any elem xs
  any_reverse [] = refl
  any_reverse (m ∷ xs) = ap (list_any elem) (reverse-append (m ∷ []) xs) ∙ list_any-append elem (reverse xs) (m ∷ []) ∙ ap (λ b. b || list_any elem (m ∷ [])) (any_reverse xs) ∙ turn (list_any elem xs) (elem m)
    where
      turn : (a b : Bool) → a || (b || false) ≡ b || a
      turn true true = refl
      turn true false = refl
      turn false true = refl
      turn false false = refl

  -- read backward
  pub gap_back : (xs : List ℕ) → reverse (take_while no_elem (reverse xs)) ≡ gap_in xs
  gap_back [] = refl
  gap_back (m ∷ xs) = ap (λ l. reverse (take_while no_elem l)) (reverse-append (m ∷ []) xs) ∙ by (elem m) refl (list_any elem xs) refl (gap_back xs)
    where
      by : (a : Bool) → elem m ≡ a → (b : Bool) → list_any elem xs ≡ b → reverse (take_while no_elem (reverse xs)) ≡ gap_in xs → reverse (take_while no_elem (reverse xs ++ m ∷ [])) ≡ gap_in (m ∷ xs)
      by a f true g k =
          let two : gap_in (m ∷ xs) ≡ gap_in xs = rw g refl in
          ap (λ (l : List ℕ). reverse l) (while_some (reverse xs) (m ∷ []) (any_reverse xs ∙ g)) ∙ k ∙ sym two
      by true f false g k =
          let two : gap_in (m ∷ xs) ≡ xs = rw (g, f) refl in
          let one : take_while no_elem (m ∷ []) ≡ [] = rw f refl in
          ap (λ (l : List ℕ). reverse l) (while_all (reverse xs) (m ∷ []) (any_reverse xs ∙ g) ∙ ap (λ l. reverse xs ++ l) one ∙ append-nil (reverse xs)) ∙ reverse-reverse xs ∙ sym two
      by false f false g k =
          let two : gap_in (m ∷ xs) ≡ m ∷ xs = rw (g, f) refl in
          let one : take_while no_elem (m ∷ []) ≡ m ∷ [] = rw f refl in
          ap (λ (l : List ℕ). reverse l) (while_all (reverse xs) (m ∷ []) (any_reverse xs ∙ g) ∙ ap (λ l. reverse xs ++ l) one) ∙ reverse-append (reverse xs) (m ∷ []) ∙ ap (λ l. m ∷ l) (reverse-reverse xs) ∙ sym two
