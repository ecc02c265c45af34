-- The row of an object on several lines: its brackets, and what stands between them.
use Rattle.std.proofs.Common.{◌≡◌, ◌<◌, ◌≤◌, ◌+◌, ◌-◌, ◌&&◌, inl, inr, ℕ, Bool, true, false, cond, List, [], ◌∷◌, ◌++◌, All, length, map, reverse, slice_index, nat_lt, Some, IsTrue, refl, sym, ap, subst, ◌∙◌, arith, length-append}
use Rattle.std.proofs.lemmas.Bool.{cases_Bool, ltb-true, false≢true}
use Rattle.std.proofs.lemmas.List.{get_or-reverse, length-reverse}
use Rattle.std.proofs.lemmas.List.Elements.{All-append, All-cons, All-from_get_or, All-nil}
use Rattle.std.proofs.Math.Seq.{get_or-append_seam}
use Rattle.jsonc_tree.specs.Changes.{EachOnce}
use Rattle.jsonc_tree.specs.Content as content
use Rattle.jsonc_tree.specs.Content.{Content}
use Rattle.jsonc_tree.specs.Siblings.{first}
use Rattle.jsonc_tree.specs.Tree.{Node, content_at, parent_at, children_at, place_at, IsTree}
use Rattle.jsonc_tree.proofs.Builder.{Keeps-same}
use Rattle.jsonc_tree.proofs.Order.{parent_there}
use Rattle.jsonc_edit.specs.Put.{Extends}
use Rattle.jsonc_edit.specs.remove.Removed as removed
use Rattle.jsonc_edit.specs.multiline.Slots.{Slot, stays, AreFilled, no_more, stayed}
use Rattle.jsonc_edit.specs.multiline.Lines.{lines_for, spread_row}
use Rattle.jsonc_edit.specs.multiline.Multiline.{has_line_end}
use Rattle.jsonc_edit.specs.multiline.Plans.{IsFrom, PlannedRow}
use Rattle.jsonc_insert.specs.Planned.{has_brackets}
use Rattle.jsonc_layout.specs.nodes.Kinds.{is_token}
use Rattle.jsonc_layout.proofs.lemmas.Building.{once_append}
use Rattle.jsonc_edit.proofs.lemmas.multiline.Planning.{filled_append}
use Rattle.jsonc_insert.proofs.NoDuplicates.{apart_by}
use Rattle.jsonc_insert.proofs.TrimmedRows.{front_token, has_two}
use Rattle.jsonc_insert.specs.members.Opened.{enclosed, opened, IsOfRow, IsOpened}
use Rattle.jsonc_insert.proofs.lemmas.elements.Containers.{both_true}

-- a row has brackets where its first and its last node are tokens, and two
not_less : (xs : List ℕ) → 2 ≤ length xs → nat_lt (length xs) 2 ≡ false
not_less xs l = elim (cases_Bool (nat_lt (length xs) 2)) [ inl e ↦ absurd (let less = ltb-true (length xs) 2 e in omega (arith, less, l)) | inr e ↦ e ]

pub bracketed : (ns : List Node) (row : List ℕ) → 2 ≤ length row → is_token (content_at ns (slice_index row 0)) ≡ true → is_token (content_at ns (slice_index row (length row - 1))) ≡ true → has_brackets ns row ≡ true
bracketed ns row two e f =
    ap (λ b. cond b false (is_token (content_at ns (slice_index row 0)) && is_token (content_at ns (slice_index row (length row - 1))))) (not_less row two) ∙ both_true _ _ e f

pub back_token : (ns : List Node) (row : List ℕ) → has_brackets ns row ≡ true → is_token (content_at ns (slice_index row (length row - 1))) ≡ true
back_token ns row e = by (nat_lt (length row) 2) (is_token (content_at ns (slice_index row 0))) e
  where
    by : (b t : Bool) → cond b false (t && is_token (content_at ns (slice_index row (length row - 1)))) ≡ true → is_token (content_at ns (slice_index row (length row - 1))) ≡ true
    by true t h = absurd (false≢true h)
    by false true h = h
    by false false h = absurd (false≢true h)

-- the same of a container by its number
same_token : (c : Content) → is_token c ≡ is_token c
same_token (content.token c) = refl
same_token content.root = refl
same_token content.array = refl
same_token content.object = refl
same_token content.property = refl
same_token content.null = refl
same_token (content.boolean b) = refl
same_token (content.number s) = refl
same_token (content.string s) = refl
same_token (content.word s) = refl
same_token (content.whitespace s) = refl
same_token (content.newline k) = refl
same_token (content.comment s) = refl

two_is : (xs : List ℕ) → 2 ≤ length xs → removed.has_two xs ≡ true
two_is [] h = absurd (omega (arith, h))
two_is (x ∷ []) h = absurd (omega (arith, h))
two_is (x ∷ y ∷ rest) h = refl

first_is : (ns : List Node) (ys : List ℕ) → 0 < length ys → removed.is_token_at ns (first ys) ≡ is_token (content_at ns (slice_index ys 0))
first_is ns [] h = absurd (omega (arith, h))
first_is ns (y ∷ ys) h = refl

pub brackets_there : (ns : List Node) (c : ℕ) → has_brackets ns (children_at ns c) ≡ true → IsTrue (removed.has_brackets ns c)
brackets_there ns c e =
    let row = children_at ns c in
    let two = has_two ns row e in
    let back : slice_index (reverse row) 0 ≡ slice_index row (length row - 1) = get_or-reverse row 0 0 (omega (arith, two)) ∙ ap (slice_index row) (omega arith) in
    both_true (removed.has_two row) _ (two_is row two)
    (both_true (removed.is_token_at ns (first row)) (removed.is_token_at ns (first (reverse row))) (first_is ns row (omega (arith, two)) ∙ sym (same_token (content_at ns (slice_index row 0))) ∙ front_token ns row e)
    (first_is ns (reverse row) (omega (arith, two, length-reverse row)) ∙ ap (λ n. is_token (content_at ns n)) back ∙ sym (same_token (content_at ns (slice_index row (length row - 1)))) ∙ back_token ns row e))

-- a row that stays
pub filled_as : (old now : List Node) (xs : List ℕ) → AreFilled old now (map stays xs) xs
filled_as old now [] = no_more
filled_as old now (x ∷ xs) = stayed (filled_as old now xs)

module _ (old : List Node) (tree : IsTree old) (c : ℕ) where
  abbrev kids : List ℕ
  kids = children_at old c

  pub stays_open : (row : List ℕ) → row ≡ kids → has_brackets old kids ≡ true → has_line_end old c ≡ true → IsOpened old old c row
  stays_open row is brackets ended =
      subst (IsOpened old old c) (sym is)
      (record {
        prepared = record { keeps = Keeps-same (length old) old; tree = tree };
        filled = subst (λ l. AreFilled old old l kids) (sym (ap (λ b. cond b (map stays kids) (enclosed kids (spread_row (lines_for old c) old c))) ended)) (filled_as old old kids);
        from = All-from_get_or (IsOfRow old old c) kids 0 (λ k h. inl (tree.named c k h));
        once = λ a b ha hb e. sym (tree.placed c a ha) ∙ ap (place_at old) e ∙ tree.placed c b hb;
        brackets = brackets;
      })

  -- a row between its first and last node
  pub enclosed_as : (row inside xs : List ℕ) (v : List ℕ) → row ≡ kids → inside ≡ xs → v ≡ slice_index row 0 ∷ (inside ++ slice_index row (length row - 1) ∷ []) → v ≡ slice_index kids 0 ∷ (xs ++ slice_index kids (length kids - 1) ∷ [])
  enclosed_as row inside xs v e f h = h ∙ ap (λ (l : List ℕ). slice_index l 0 ∷ (inside ++ slice_index l (length l - 1) ∷ [])) e ∙ ap (λ l. slice_index kids 0 ∷ (l ++ slice_index kids (length kids - 1) ∷ [])) f

  -- one of several lines, between the brackets
  module _ (lined : List Node) (slots : List Slot) (inside : List ℕ) (brackets : has_brackets old kids ≡ true) (p : PlannedRow old lined c slots inside) where
    abbrev last : ℕ
    last = length kids - 1

    abbrev front : ℕ
    front = slice_index kids 0

    abbrev back : ℕ
    back = slice_index kids (length kids - 1)

    two : 2 ≤ length kids
    two = has_two old kids brackets

    front_said : parent_at old front ≡ Some c
    front_said = tree.named c 0 (omega (arith, two))

    back_said : parent_at old back ≡ Some c
    back_said = tree.named c last (omega (arith, two))

    front_there : front < length old
    front_there = (parent_there old tree front c front_said).0

    back_there : back < length old
    back_there = (parent_there old tree back c back_said).0

    front_place : place_at old front ≡ 0
    front_place = tree.placed c 0 (omega (arith, two))

    back_place : place_at old back ≡ last
    back_place = tree.placed c last (omega (arith, two))

    -- an old node of the row stands behind the first bracket, and before the last
    abbrev Behind : ℕ → Type 0
    Behind n = n < length old → 0 < place_at old n

    abbrev Before : ℕ → Type 0
    Before n = n < length old → place_at old n < last

    from_behind : (n : ℕ) → IsFrom old lined c last n → Behind n
    from_behind n (inl f) there = f.1
    from_behind n (inr f) there = absurd (omega (arith, f.0, there))

    from_before : (n : ℕ) → IsFrom old lined c last n → Before n
    from_before n (inl f) there = f.2
    from_before n (inr f) there = absurd (omega (arith, f.0, there))

    of_row : (n : ℕ) → IsFrom old lined c last n → IsOfRow old lined c n
    of_row n (inl f) = inl f.0
    of_row n (inr f) = inr (record { later = f.0; in_tree = f.1; alone = f.2 })

    abbrev behind : List ℕ
    behind = inside ++ back ∷ []

    all_behind : All Behind behind
    all_behind =
        All-append Behind inside (back ∷ []) (All-from_get_or Behind inside 0 (λ k h. from_behind (slice_index inside k) (p.from k h)))
        (All-cons Behind back [] (λ there. omega (arith, back_place, two)) (All-nil Behind))

    all_before : All Before inside
    all_before = All-from_get_or Before inside 0 (λ k h. from_before (slice_index inside k) (p.from k h))

    alone : (n : ℕ) → EachOnce (n ∷ [])
    alone n a b ha hb e = omega (arith, ha, hb)

    same_as : (n : ℕ) → All (λ m. m ≡ n) (n ∷ [])
    same_as n = All-cons (λ m. m ≡ n) n [] refl (All-nil (λ m. m ≡ n))

    no_back : (n : ℕ) → Before n → n ≡ back → ⊥
    no_back n less e = let l : place_at old n < last = less (subst (λ m. m < length old) (sym e) back_there) in omega (arith, l, back_place, ap (place_at old) e)

    no_front : (n : ℕ) → n ≡ front → Behind n → ⊥
    no_front n e more = let l : 0 < place_at old n = more (subst (λ m. m < length old) (sym e) front_there) in omega (arith, l, front_place, ap (place_at old) e)

    once_behind : EachOnce behind
    once_behind = once_append inside (back ∷ []) p.once (alone back) (apart_by Before (λ m. m ≡ back) no_back inside (back ∷ []) all_before (same_as back))

    abbrev whole : List ℕ
    whole = front ∷ behind

    once_whole : EachOnce whole
    once_whole = once_append (front ∷ []) behind (alone front) once_behind (apart_by (λ m. m ≡ front) Behind no_front (front ∷ []) behind (same_as front) all_behind)

    from_whole : All (IsOfRow old lined c) whole
    from_whole =
        let P = IsOfRow old lined c in
        All-cons P front behind (inl front_said)
        (All-append P inside (back ∷ []) (All-from_get_or P inside 0 (λ k h. of_row (slice_index inside k) (p.from k h))) (All-cons P back [] (inl back_said) (All-nil P)))

    long : length whole ≡ length (front ∷ inside) + 1
    long = length-append (front ∷ inside) (back ∷ [])

    back_at : slice_index whole (length whole - 1) ≡ back
    back_at = let at : length whole - 1 ≡ length (front ∷ inside) = omega (arith, long) in ap (slice_index whole) at ∙ get_or-append_seam (front ∷ inside) back [] 0

    brackets_whole : has_brackets lined whole ≡ true
    brackets_whole =
        bracketed lined whole (omega (arith, long)) (ap is_token (p.keeps.content front front_there) ∙ front_token old kids brackets)
        (ap (λ n. is_token (content_at lined n)) back_at ∙ ap is_token (p.keeps.content back back_there) ∙ back_token old kids brackets)

    pub opens_lines : slots ≡ spread_row (lines_for old c) old c → has_line_end old c ≡ false → Extends old lined → (row : List ℕ) → row ≡ whole → IsOpened old lined c row
    opens_lines told none prepared row is =
        let slots_are : opened old c ≡ enclosed kids slots =
        ap (λ b. cond b (map stays kids) (enclosed kids (spread_row (lines_for old c) old c))) none ∙ ap (enclosed kids) (sym told) in
        subst (IsOpened old lined c) (sym is)
        (record {
          prepared = prepared;
          filled = subst (λ l. AreFilled old lined l whole) (sym slots_are) (stayed (filled_append old lined slots inside (stays back ∷ []) (back ∷ []) p.filled (stayed no_more)));
          from = from_whole;
          once = once_whole;
          brackets = brackets_whole;
        })
