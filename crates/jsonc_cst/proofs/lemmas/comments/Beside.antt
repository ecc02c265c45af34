-- The comments of an entry, by the nodes beside it.
use Rattle.std.proofs.Common.{◌≡◌, ◌≢◌, ◌∙◌, refl, sym, ap, arith, ℕ, suc, ◌+◌, ◌-◌, ◌≤◌, Bool, true, false, not, ◌&&◌, ◌||◌, List, [], ◌∷◌, ◌++◌, length, drop, take, reverse, slice_index, Option, Some, None, inl, inr}
use Rattle.std.specs.Prelude.{is_some}
use Rattle.std.specs.List.{find, list_any, take_while}
use Rattle.std.proofs.lemmas.Bool.{cases_Bool}
use Rattle.std.proofs.lemmas.List.Folds.{list_any-append}
use Rattle.std.proofs.lemmas.List.{append-nil, get_or_append_left, length-append}
use Rattle.std.proofs.Math.Seq.{take-append_seam, take-length}
use Rattle.jsonc_tree.specs.Content.{Content}
use Rattle.jsonc_tree.specs.Tree.{Node, children_at, content_at, parent_at, place_at, IsTree}
use Rattle.jsonc_layout.specs.nodes.Kinds.{is_element, is_element_at}
use Rattle.jsonc_layout.specs.nodes.Siblings.{first, next_element_at, previous_element_at, siblings_after, siblings_before}
use Rattle.jsonc_sort.specs.Parts.{is_none, parts, tail_length}
use Rattle.jsonc_edit.specs.multiline.Lines.{between}
use Rattle.jsonc_edit.specs.remove.Removed.{has_brackets, has_two, is_token_at}
use Rattle.jsonc_cst.specs.EntryComments.{comments_around, comments_at, comments_in, is_entry_at, is_entry_in, row_at, tail_of}
use Rattle.jsonc_layout.specs.lines.Kinds.{is_array_or_object}
use Rattle.jsonc_cst.proofs.lemmas.comments.Inside.{Inside, between_is, each_from, inside, tok}
use Rattle.jsonc_edit.proofs.lemmas.remove.Places.{after_in, before_in, place_in, row_split}
use Rattle.jsonc_sort.proofs.Choices.{Each}
use Rattle.jsonc_cst.proofs.lemmas.comments.Parts.{comments_around_it, gap_back, gap_in, lead_in, lead_is_cut, lead_of_first, no_elem, parts_lead, parts_none, any_reverse, while_all, while_some}

find_none : (p : ℕ → Bool) (xs : List ℕ) → find p xs ≡ None → list_any p xs ≡ false
find_none p [] e = refl
find_none p (x ∷ xs) e = elim (cases_Bool (p x)) [
  | inl y ↦ (let wrong : Some x ≡ None = rw y at e in cc)
  | inr n ↦ (let rest : find p xs ≡ None = rw n at e in rw n (find_none p xs rest))
]

find_some : (p : ℕ → Bool) (xs : List ℕ) (n : ℕ) → find p xs ≡ Some n → list_any p xs ≡ true
find_some p [] n e = cc
find_some p (x ∷ xs) n e = elim (cases_Bool (p x)) [
  | inl y ↦ rw y refl
  | inr f ↦ (let rest : find p xs ≡ Some n = rw f at e in rw f (find_some p xs n rest))
]

module _ (at : ℕ → Content) where
  abbrev elem : ℕ → Bool
  elem m = is_element (at m)

  module _ (open_ : ℕ) (bs : List ℕ) (opens : elem open_ ≡ false) where
    -- what is before, as it was read
    abbrev pub near : List ℕ
    near = reverse (take_while (no_elem at) (reverse (open_ ∷ bs)))

    any_same : list_any elem (reverse (open_ ∷ bs)) ≡ list_any elem bs
    any_same = any_reverse at (open_ ∷ bs) ∙ (let e : list_any elem (open_ ∷ bs) ≡ list_any elem bs = rw opens refl in e)

    pub near_first : find elem (reverse (open_ ∷ bs)) ≡ None → near ≡ open_ ∷ bs
    near_first e =
        let none : list_any elem bs ≡ false = sym any_same ∙ find_none elem (reverse (open_ ∷ bs)) e in
        gap_back at (open_ ∷ bs) ∙ (let k : gap_in at (open_ ∷ bs) ≡ open_ ∷ bs = rw (none, opens) refl in k)

    pub lead_first : find elem (reverse (open_ ∷ bs)) ≡ None → drop 1 near ≡ lead_in at bs
    lead_first e =
        let none : list_any elem bs ≡ false = sym any_same ∙ find_none elem (reverse (open_ ∷ bs)) e in
        ap (drop 1) (near_first e) ∙ sym (lead_of_first at bs none)

    pub lead_next : (m : ℕ) → find elem (reverse (open_ ∷ bs)) ≡ Some m → drop (tail_length at false near) near ≡ lead_in at bs
    lead_next m e =
        let some : list_any elem bs ≡ true = sym any_same ∙ find_some elem (reverse (open_ ∷ bs)) m e in
        let same : near ≡ gap_in at bs = gap_back at (open_ ∷ bs) ∙ (let k : gap_in at (open_ ∷ bs) ≡ gap_in at bs = rw some refl in k) in
        ap (λ l. drop (tail_length at false l) l) same ∙ sym (lead_is_cut at bs some)

  module _ (ys : List ℕ) (close : ℕ) (closes : elem close ≡ false) where
    abbrev pub far : List ℕ
    far = take_while (no_elem at) (ys ++ close ∷ [])

    any_behind : list_any elem (ys ++ close ∷ []) ≡ list_any elem ys
    any_behind = list_any-append elem ys (close ∷ []) ∙ (let e : list_any elem (close ∷ []) ≡ false = rw closes refl in ap (λ b. list_any elem ys || b) e) ∙ or_none (list_any elem ys)
      where
        or_none : (b : Bool) → b || false ≡ b
        or_none true = refl
        or_none false = refl

    -- after the last
    pub far_last : find elem (ys ++ close ∷ []) ≡ None → far ≡ ys ++ close ∷ []
    far_last e =
        let none : list_any elem ys ≡ false = sym any_behind ∙ find_none elem (ys ++ close ∷ []) e in
        let one : take_while (no_elem at) (close ∷ []) ≡ close ∷ [] = rw closes refl in
        while_all at ys (close ∷ []) none ∙ ap (λ l. ys ++ l) one

    whole_gap : list_any elem ys ≡ false → (parts at ys).lead ≡ ys
    whole_gap none = parts_lead at ys ∙ ap (take_while (no_elem at)) (sym (append-nil ys)) ∙ while_all at ys [] none ∙ append-nil ys

    pub gap_last : find elem (ys ++ close ∷ []) ≡ None → (take (length far - 1) far ≡ (parts at ys).lead) × (is_none (parts at ys).rest ≡ true)
    gap_last e =
        let none : list_any elem ys ≡ false = sym any_behind ∙ find_none elem (ys ++ close ∷ []) e in
        let long : length far - 1 ≡ length ys = omega (arith, ap length (far_last e), length-append ys (close ∷ [])) in (
          ap (λ k. take k far) long ∙ ap (take (length ys)) (far_last e) ∙ take-append_seam ys (close ∷ []) ∙ sym (whole_gap none),
          parts_none at ys ∙ ap not none,
        )

    pub gap_next : (m : ℕ) → find elem (ys ++ close ∷ []) ≡ Some m → (take (length far) far ≡ (parts at ys).lead) × (is_none (parts at ys).rest ≡ false)
    gap_next m e =
        let some : list_any elem ys ≡ true = sym any_behind ∙ find_some elem (ys ++ close ∷ []) m e in (
          take-length far ∙ while_some at ys (close ∷ []) some ∙ sym (parts_lead at ys),
          parts_none at ys ∙ ap not some,
        )

  -- by the lead and the gap
  pub around : (cs : List ℕ) (n : ℕ) (i : Inside at cs n) → is_element (at n) ≡ true → Each (λ m. m ≢ n) i.before → (lead gap : List ℕ) (last : Bool) → lead ≡ lead_in at i.before → gap ≡ (parts at i.behind).lead → is_none (parts at i.behind).rest ≡ last
      → comments_around at lead (tail_of at last gap) ≡ comments_in at (between cs) n
  around cs n i e apart lead gap last f g h =
      ap (λ l. comments_around at l (tail_of at last gap)) f ∙ ap (λ l. comments_around at (lead_in at i.before) (tail_of at last l)) g ∙ ap (λ b. comments_around at (lead_in at i.before) (tail_of at b (parts at i.behind).lead)) (sym h)
      ∙ sym (comments_around_it at n i.before i.behind e apart) ∙ ap (λ l. comments_in at l n) (sym (between_is at cs n i))

-- a record of where an entry is
pub record Stands (ns : List Node) (n : ℕ) : Type 0 where
  pub c : ℕ
  pub said : parent_at ns n ≡ Some c
  pub element : is_element_at ns n ≡ true
  pub array : is_array_or_object (content_at ns c) ≡ true
  pub inner : Inside (content_at ns) (children_at ns c) n

three : (a b d : Bool) → a && (b && d) ≡ true → (a ≡ true) × (b ≡ true) × (d ≡ true)
three true true true e = (refl, refl, refl)
three true true false e = cc
three true false d e = cc
three false b d e = cc

pub brackets : (ns : List Node) (c : ℕ) → has_brackets ns c ≡ true → (is_token_at ns (first (children_at ns c)) ≡ true) × (is_token_at ns (first (reverse (children_at ns c))) ≡ true)
brackets ns c e = let all = three (has_two (children_at ns c)) (is_token_at ns (first (children_at ns c))) (is_token_at ns (first (reverse (children_at ns c)))) e in (all.1, all.2)

tok_same : (ns : List Node) (o : Option ℕ) → is_token_at ns o ≡ true → tok (content_at ns) o ≡ true
tok_same ns None e = e
tok_same ns (Some m) e = e

module _ (ns : List Node) (tree : IsTree ns) where
  pub stands_in : (n c : ℕ) → parent_at ns n ≡ Some c → is_element_at ns n ≡ true → has_brackets ns c ≡ true → Inside (content_at ns) (children_at ns c) n
  stands_in n c said e h =
      let ends = brackets ns c h in
      inside (content_at ns) (take (place_at ns n) (children_at ns c)) (drop (place_at ns n + 1) (children_at ns c)) (children_at ns c) n (row_split ns tree c n said) e (tok_same ns (first (children_at ns c)) ends.0) (tok_same ns (first (reverse (children_at ns c))) ends.1)

  pub stands : (n : ℕ) → is_entry_at ns n ≡ true → Stands ns n
  stands n e = by (parent_at ns n) refl e
    where
      by : (o : Option ℕ) → parent_at ns n ≡ o → is_entry_in ns n o ≡ true → Stands ns n
      by None f e = cc
      by (Some c) f e =
          let all = three (is_element_at ns n) (is_array_or_object (content_at ns c)) (has_brackets ns c) e in
          record { c = c; said = f; element = all.0; array = all.1; inner = stands_in n c f all.0 all.2 }

  module _ (n : ℕ) (s : Stands ns n) where
    pub before_is : siblings_before ns n ≡ reverse (s.inner.open_ ∷ s.inner.before)
    before_is = before_in ns tree s.c (s.inner.open_ ∷ s.inner.before) (s.inner.behind ++ s.inner.close ∷ []) n s.inner.split

    pub behind_is : siblings_after ns n ≡ s.inner.behind ++ s.inner.close ∷ []
    behind_is = after_in ns tree s.c (s.inner.open_ ∷ s.inner.before) (s.inner.behind ++ s.inner.close ∷ []) n s.inner.split

    -- no node before it is the node
    pub apart_before : Each (λ m. m ≢ n) s.inner.before
    apart_before = each_from (λ m. m ≢ n) s.inner.before (λ k l e.
        let cs : List ℕ = children_at ns s.c in
        let front : List ℕ = s.inner.open_ ∷ s.inner.before in
        let long : length cs ≡ length front + suc (length (s.inner.behind ++ s.inner.close ∷ [])) = ap length s.inner.split ∙ length-append front (n ∷ (s.inner.behind ++ s.inner.close ∷ [])) in
        let there : slice_index cs (suc k) ≡ slice_index s.inner.before k = ap (λ x. slice_index x (suc k)) s.inner.split ∙ get_or_append_left front (n ∷ (s.inner.behind ++ s.inner.close ∷ [])) 0 (suc k) (omega (arith, l)) in
        let mine : place_at ns n ≡ length front = place_in ns tree s.c front (s.inner.behind ++ s.inner.close ∷ []) n s.inner.split in
        let its : place_at ns (slice_index cs (suc k)) ≡ suc k = tree.placed s.c (suc k) (omega (arith, long, l)) in
        omega (arith, l, mine, its, ap (place_at ns) (there ∙ e)))

    -- its comments, by the lead and the gap
    pub comments_are : (lead gap : List ℕ) (last : Bool) → lead ≡ lead_in (content_at ns) s.inner.before → gap ≡ (parts (content_at ns) s.inner.behind).lead → is_none (parts (content_at ns) s.inner.behind).rest ≡ last
        → comments_around (content_at ns) lead (tail_of (content_at ns) last gap) ≡ comments_at ns n
    comments_are lead gap last f g h =
        around (content_at ns) (children_at ns s.c) n s.inner s.element apart_before lead gap last f g h ∙ sym (ap (λ o. comments_in (content_at ns) (row_at ns o) n) s.said)

    -- what was read before it and after it
    abbrev at : ℕ → Content
    at = content_at ns

    read_before : (items : List ℕ) → items ≡ reverse (take_while (no_elem at) (siblings_before ns n)) → items ≡ near at s.inner.open_ s.inner.before s.inner.opens
    read_before items e = e ∙ ap (λ l. reverse (take_while (no_elem at) l)) before_is

    pub front_first : (items : List ℕ) → items ≡ reverse (take_while (no_elem at) (siblings_before ns n)) → previous_element_at ns n ≡ None → (1 ≤ length items) × (drop 1 items ≡ lead_in at s.inner.before)
    front_first items e none =
        let first : find (elem at) (reverse (s.inner.open_ ∷ s.inner.before)) ≡ None = ap (find (elem at)) (sym before_is) ∙ none in (
          omega (arith, ap length (read_before items e ∙ near_first at s.inner.open_ s.inner.before s.inner.opens first)),
          ap (drop 1) (read_before items e) ∙ lead_first at s.inner.open_ s.inner.before s.inner.opens first,
        )

    pub front_next : (items : List ℕ) (m : ℕ) → items ≡ reverse (take_while (no_elem at) (siblings_before ns n)) → previous_element_at ns n ≡ Some m → drop (tail_length at false items) items ≡ lead_in at s.inner.before
    front_next items m e some =
        ap (λ l. drop (tail_length at false l) l) (read_before items e) ∙ lead_next at s.inner.open_ s.inner.before s.inner.opens m (ap (find (elem at)) (sym before_is) ∙ some)

    read_behind : (items : List ℕ) → items ≡ take_while (no_elem at) (siblings_after ns n) → items ≡ far at s.inner.behind s.inner.close s.inner.closes
    read_behind items e = e ∙ ap (take_while (no_elem at)) behind_is

    pub back_last : (items : List ℕ) → items ≡ take_while (no_elem at) (siblings_after ns n) → next_element_at ns n ≡ None
        → (1 ≤ length items) × (take (length items - 1) items ≡ (parts at s.inner.behind).lead) × (is_none (parts at s.inner.behind).rest ≡ true)
    back_last items e none =
        let last : find (elem at) (s.inner.behind ++ s.inner.close ∷ []) ≡ None = ap (find (elem at)) (sym behind_is) ∙ none in
        let all = gap_last at s.inner.behind s.inner.close s.inner.closes last in (
          omega (arith, ap length (read_behind items e ∙ far_last at s.inner.behind s.inner.close s.inner.closes last), length-append s.inner.behind (s.inner.close ∷ [])),
          ap (λ l. take (length l - 1) l) (read_behind items e) ∙ all.0,
          all.1,
        )

    pub back_next : (items : List ℕ) (m : ℕ) → items ≡ take_while (no_elem at) (siblings_after ns n) → next_element_at ns n ≡ Some m
        → (take (length items) items ≡ (parts at s.inner.behind).lead) × (is_none (parts at s.inner.behind).rest ≡ false)
    back_next items m e some =
        let all = gap_next at s.inner.behind s.inner.close s.inner.closes m (ap (find (elem at)) (sym behind_is) ∙ some) in
        (ap (λ l. take (length l) l) (read_behind items e) ∙ all.0, all.1)

-- what `is_none` determines
pub none_there : (o : Option ℕ) (b : Bool) → is_some o ≡ not b → b ≡ true → o ≡ None
none_there None b e f = refl
none_there (Some m) b e f = let wrong : true ≡ false = e ∙ ap not f in cc

pub some_there : (o : Option ℕ) (b : Bool) → is_some o ≡ not b → b ≡ false → (m : ℕ) × (o ≡ Some m)
some_there None b e f = let wrong : false ≡ true = e ∙ ap not f in cc
some_there (Some m) b e f = (m, refl)
