-- The comments of the entries of an array or object: comments of the document, and those that move with each.
use Rattle.std.proofs.Common.{◌≡◌, ◌∙◌, refl, sym, ap, subst, arith, ℕ, suc, ◌+◌, ◌-◌, ◌<◌, Bool, true, false, cond, ◌&&◌, nat_eq, List, [], ◌∷◌, ◌++◌, length, drop, map, filter, slice_index, length-take, length-drop, Some}
use Rattle.std.specs.Prelude.{if◌then◌else◌}
use Rattle.std.specs.List.{All}
use Rattle.std.proofs.lemmas.List.{get_or-drop, get_or-take}
use Rattle.std.proofs.lemmas.List.Elements.{All-cons, All-head, All-nil, All-tail}
use Rattle.jsonc_tree.specs.Content.{Content}
use Rattle.jsonc_tree.specs.Tree.{Node, children_at, content_at, parent_at, place_at, IsTree}
use Rattle.jsonc_layout.specs.lines.Kinds.{is_array_or_object}
use Rattle.jsonc_layout.specs.nodes.Kinds.{is_comment_at, is_element}
use Rattle.jsonc_edit.specs.multiline.Lines.{between}
use Rattle.jsonc_edit.specs.remove.Removed.{has_brackets}
use Rattle.jsonc_sort.specs.Above.{lead_read, leads, leads_read}
use Rattle.jsonc_sort.specs.Leads.{own_lead}
use Rattle.jsonc_sort.specs.Parts.{Part, parts}
use Rattle.jsonc_sort.specs.Sorting.{Entry, Headers, entries}
use Rattle.jsonc_sort.proofs.Choices.{Each, each_all}
use Rattle.jsonc_cst.specs.declared.cst.node.CstComment.{CstComment}
use Rattle.jsonc_cst.specs.EntryComments.{comments_around, comments_at, comments_in, comments_of_part, is_entry_at, is_entry_in, moved_comments, row_at}
use Rattle.jsonc_cst.specs.Nodes.{comment_node, number_of, typed_at, IsNodeOf}
use Rattle.jsonc_cst.specs.Readings.{comment_under}
use Rattle.jsonc_cst.proofs.Family.{number_of-typed}
use Rattle.jsonc_cst.proofs.Readings.{comment_held, made_of_passing}
use Rattle.jsonc_cst.proofs.lemmas.comments.Inside.{apart_filter, apart_from, elements_are}
use Rattle.jsonc_cst.specs.sorting.Pins.{header_pin}
use Rattle.jsonc_cst.proofs.lemmas.comments.Leads.{pin_above}
use Rattle.jsonc_cst.proofs.lemmas.comments.Parts.{Apart, elements, moved_each}

-- what is made of the members that pass
each_passing : (P : ℕ → Type 0) (p : ℕ → Bool) (xs : List ℕ) → ((k : ℕ) → k < length xs → p (slice_index xs k) ≡ true → P (slice_index xs k)) → Each P (filter p xs)
each_passing P p [] h = tt
each_passing P p (x ∷ xs) h = by (p x) refl (each_passing P p xs (λ k l. h (suc k) (omega (arith, l))))
  where
    by : (b : Bool) → p x ≡ b → Each P (filter p xs) → Each P (cond b (x ∷ filter p xs) (filter p xs))
    by true e rest = (h 0 (omega arith) e, rest)
    by false e rest = rest

each_more : {X : Type 0} (P Q : X → Type 0) → ((x : X) → P x → Q x) → (xs : List X) → Each P xs → Each Q xs
each_more P Q f [] h = tt
each_more P Q f (x ∷ xs) h = (f x h.0, each_more P Q f xs h.1)

module _ (ns : List Node) where
  abbrev at : ℕ → Content
  at = content_at ns

  abbrev Held : CstComment → Type 0
  Held c = IsNodeOf ns (comment_node c)

  nothing_held : All Held []
  nothing_held k d h = absurd (omega (arith, h))

  part_held : (n : ℕ) (lead : List ℕ) (ps : List Part) → All Held (map comment_under (comments_of_part at n lead ps))
  part_held n lead [] = nothing_held
  part_held n lead (p ∷ ps) = by (nat_eq p.element n) (part_held n p.behind ps)
    where
      by : (b : Bool) → All Held (map comment_under (comments_of_part at n p.behind ps)) → All Held (map comment_under (if b then comments_around at lead p.tail else comments_of_part at n p.behind ps))
      by true k = made_of_passing comment_under Held (is_comment_at ns) (comment_held ns) (own_lead at lead ++ p.tail)
      by false k = k

  -- they are comments of the document
  pub entry_held : (n : ℕ) (b : Bool) → All Held (if b then map comment_under (comments_at ns n) else [])
  entry_held n true = let row : List ℕ = row_at ns (parent_at ns n) in part_held n (parts at row).lead (parts at row).rest
  entry_held n false = nothing_held

  -- so their numbers are there
  numbers_held : (xs : List ℕ) → All Held (map comment_under xs) → All (λ m. m < length ns) xs
  numbers_held [] h = All-nil (λ m. m < length ns)
  numbers_held (x ∷ xs) h = All-cons (λ m. m < length ns) x xs (All-head Held (comment_under x) (map comment_under xs) h).0 (numbers_held xs (All-tail Held (comment_under x) (map comment_under xs) h))

  pub numbers_there : (n : ℕ) → All (λ m. m < length ns) (comments_at ns n)
  numbers_there n = numbers_held (comments_at ns n) (entry_held n true)

  abbrev own : ℕ → List ℕ
  own n = if is_entry_at ns n then comments_at ns n else []

  own_of : (n : ℕ) (b : Bool) → (if b then map comment_under (comments_at ns n) else []) ≡ map comment_under (if b then comments_at ns n else [])
  own_of n true = refl
  own_of n false = refl

  module _ (tree : IsTree ns) (c : ℕ) (array : is_array_or_object (content_at ns c) ≡ true) (closed : has_brackets ns c ≡ true) where
    abbrev row : List ℕ
    row = between (children_at ns c)

    short : (k : ℕ) → k < length row → k + 1 < length (children_at ns c)
    short k l = omega (arith, l, length-take (length (children_at ns c) - 1 - 1) (drop 1 (children_at ns c)), length-drop 1 (children_at ns c))

    child : (k : ℕ) → k < length row → slice_index row k ≡ slice_index (children_at ns c) (1 + k)
    child k l = get_or-take (length (children_at ns c) - 1 - 1) (drop 1 (children_at ns c)) k 0 (omega (arith, l, length-take (length (children_at ns c) - 1 - 1) (drop 1 (children_at ns c)))) ∙ get_or-drop 1 (children_at ns c) k 0

    placed : (k : ℕ) → k < length row → place_at ns (slice_index row k) ≡ 1 + k
    placed k l = ap (place_at ns) (child k l) ∙ tree.placed c (1 + k) (omega (arith, short k l))

    named : (k : ℕ) → k < length row → parent_at ns (slice_index row k) ≡ Some c
    named k l = ap (parent_at ns) (child k l) ∙ tree.named c (1 + k) (omega (arith, short k l))

    row_apart : Apart row
    row_apart = apart_from row (λ i j less l e. omega (arith, less, placed i (omega (arith, less, l)), placed j l, ap (place_at ns) e))

    -- each element among the children is an entry
    own_there : (n : ℕ) → parent_at ns n ≡ Some c → is_element (at n) ≡ true → own n ≡ comments_in at row n
    own_there n said e =
        let here : is_entry_in ns n (Some c) ≡ true = ap (λ b. b && (is_array_or_object (content_at ns c) && has_brackets ns c)) e ∙ ap (λ b. b && has_brackets ns c) array ∙ closed in
        let yes : is_entry_at ns n ≡ true = ap (is_entry_in ns n) said ∙ here in
        ap (λ b. if b then comments_at ns n else []) yes ∙ ap (λ o. comments_in at (row_at ns o) n) said

    -- of these parts all comments are pinned but those below the last blank lines
    abbrev headers : Headers
    headers = record { pinned = map (pin_above at) (leads at row); groups = false }

    moved : Each (λ e. own e.element ≡ moved_comments at e) (entries at headers row)
    moved =
        let same : elements (parts at row).rest ≡ filter (λ n. is_element (at n)) row = elements_are at row in
        moved_each at own (parts at row).lead (parts at row).rest (subst Apart (sym same) (apart_filter (λ n. is_element (at n)) row row_apart))
        (subst (Each (λ n. own n ≡ comments_in at row n)) (sym same) (each_passing (λ n. own n ≡ comments_in at row n) (λ n. is_element (at n)) row (λ k l e. own_there (slice_index row k) (named k l) e)))

    entries_own : All (λ e. (if is_entry_at ns (number_of (typed_at ns e.element)) then map comment_under (comments_at ns (number_of (typed_at ns e.element))) else []) ≡ map comment_under (moved_comments at e)) (entries at headers row)
    entries_own =
        each_all (λ e. (if is_entry_at ns (number_of (typed_at ns e.element)) then map comment_under (comments_at ns (number_of (typed_at ns e.element))) else []) ≡ map comment_under (moved_comments at e)) (entries at headers row)
        (each_more (λ e. own e.element ≡ moved_comments at e) (λ e. (if is_entry_at ns (number_of (typed_at ns e.element)) then map comment_under (comments_at ns (number_of (typed_at ns e.element))) else []) ≡ map comment_under (moved_comments at e))
        (λ (e : Entry) h.
        ap (λ n. if is_entry_at ns n then map comment_under (comments_at ns n) else []) (number_of-typed (at e.element) e.element)
        ∙ own_of e.element (is_entry_at ns e.element) ∙ ap (λ l. map comment_under l) h)
        (entries at headers row) moved)

    -- the same of the headers that are kept
    kept_join : (ls : List (List ℕ)) → map (pin_above at) ls ≡ map header_pin (map (lead_read at) ls)
    kept_join [] = refl
    kept_join (l ∷ ls) = ap (λ k. pin_above at l ∷ k) (kept_join ls)

    kept_as : map (pin_above at) (leads at row) ≡ map header_pin (leads_read ns c)
    kept_as = kept_join (leads at row) ∙ ap (λ b. map header_pin (map (lead_read at) (if b then leads at row else []))) (sym closed)

    abbrev MovesItsOwn : Entry → Type 0
    MovesItsOwn e =
        (if is_entry_at ns (number_of (typed_at ns e.element)) then map comment_under (comments_at ns (number_of (typed_at ns e.element))) else []) ≡ map comment_under (moved_comments at e)

    pub entries_kept : All MovesItsOwn (entries at (record { pinned = map header_pin (leads_read ns c); groups = false }) row)
    entries_kept = subst (λ k. All MovesItsOwn (entries at (record { pinned = k; groups = false }) row)) kept_as entries_own
