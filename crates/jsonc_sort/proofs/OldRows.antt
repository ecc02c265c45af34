-- The parts of a row of a sound document.
use Rattle.std.proofs.Common.{◌≡◌, ℕ, ◌≤◌, true, false, not, ◌++◌, List, [], ◌∷◌, Option, None, IsTrue, refl, sym, ap, subst, arith}
use Rattle.jsonc_text.specs.Options.{Options}
use Rattle.jsonc_tree.specs.Content.{Content, token}
use Rattle.jsonc_tree.specs.OrderedTree.{OrderedTree, Top, none, more, leaves}
use Rattle.jsonc_tree.proofs.OrderedTrees.{leaves-followed_by}
use Rattle.jsonc_layout.specs.nodes.Kinds.{is_element, is_comma}
use Rattle.jsonc_sound.specs.TreeChanges.{IsElement}
use Rattle.jsonc_sound.specs.Shape.{IsTrivia}
use Rattle.jsonc_sound.specs.Adjacent.{follower, last_printed, LeavesEnd}
use Rattle.jsonc_sound.specs.Alone as alone
use Rattle.jsonc_sound.specs.Alone.{may_stand, PartAlone, RowAlone, StretchAlone}
use Rattle.jsonc_sound.specs.Rows as rows
use Rattle.jsonc_sound.specs.Rows.{Last, RowKind, closing, may_end}
use Rattle.jsonc_sound.proofs.Changed.{part_element}
use Rattle.jsonc_sound.proofs.FirstNodes.{trivia_over}
use Rattle.jsonc_sound.proofs.Leaves.{last_serves, parted_leaves}
use Rattle.jsonc_sound.proofs.Spaces.{last_of, serves_unless, stretch_no_word}
use Rattle.jsonc_sort.specs.Slots.{all_stay}
use Rattle.jsonc_sort.specs.Parts.{Parts, is_none, part_with, parts, tail_length, through_comma, with_node}
use Rattle.jsonc_sort.specs.Laws.{closed, content_of, is_filling}
use Rattle.jsonc_sort.proofs.Choices.{Each}
use Rattle.jsonc_sort.proofs.Runs as runs
use Rattle.jsonc_sort.proofs.Runs.{IsQuiet, IsComma, IsWhole, Gap, cut_gap}
use Rattle.jsonc_sort.proofs.Entries.{IsPart, IsRow}

closing_no_comma : (kind : RowKind) → token 0x2C ≡ token (closing kind) → ⊥
closing_no_comma rows.of_values e = let wrong : true ≡ false = ap is_comma e in cc
closing_no_comma rows.of_properties e = let wrong : true ≡ false = ap is_comma e in cc

module _ (o : Options) (kind : RowKind) where
  -- what is first in a row
  data First (last : Last) (content : Content) (below after : OrderedTree) : Type 0 where
    first_trivia : IsTrivia o content → below ≡ none → RowAlone o kind last after → First last content below after
    first_whole : IsTrue (may_stand o last) → PartAlone o kind content below → RowAlone o kind rows.an_element after → First last content below after
    first_comma : content ≡ token 0x2C → below ≡ none → last ≡ rows.an_element → RowAlone o kind rows.a_comma after → First last content below after
    first_bracket : after ≡ none → First last content below after

  first_is : {last : Last} {content : Content} {below after : OrderedTree} → RowAlone o kind last (more content below after) → First last content below after
  first_is (alone.closes m) = first_bracket refl
  first_is (alone.trivia t g) = first_trivia t refl g
  first_is (alone.element m p g) = first_whole m p g
  first_is (alone.comma g) = first_comma refl refl refl g

  may_close : {last : Last} {content : Content} {below : OrderedTree} → content ≡ token (closing kind) → RowAlone o kind last (more content below none) → IsTrue (may_end o last)
  may_close e (alone.closes m) = m
  may_close e (alone.trivia t g) = absurd (subst (IsTrivia o) e t)
  may_close e (alone.element m p g) = let wrong : IsElement (token (closing kind)) = subst IsElement e (part_element o p) in cc
  may_close e (alone.comma g) = absurd (closing_no_comma kind e)

module _ (o : Options) (kind : RowKind) (top : ℕ → Top) where
  abbrev at : ℕ → Content
  at = content_of top

  never_none : (row : List ℕ) → closed kind top (all_stay row) ≡ none → ⊥
  never_none [] e = cc
  never_none (n ∷ row) e = cc

  with_other : (n : ℕ) (p : Parts) → is_element (at n) ≡ false → with_node at n p ≡ record { lead = n ∷ p.lead; rest = p.rest }
  with_other n p e = rw e refl

  with_element : (n : ℕ) (p : Parts) → is_element (at n) ≡ true → with_node at n p ≡ record { lead = []; rest = part_with at n (is_none p.rest) p.lead ∷ p.rest }
  with_element n p e = rw e refl

  trivia_other : (n : ℕ) → IsTrivia o (at n) → is_element (at n) ≡ false
  trivia_other n t = ap not (trivia_over o (at n) t)

  -- a whole element's leaves end by themselves
  whole_is : (last : Last) (t : Top) (after : OrderedTree) (n : Option ℕ) → IsTrue (may_stand o last) → PartAlone o kind t.content t.below → LeavesEnd o (leaves (more t.content t.below after)) n → IsWhole o kind top t
  whole_is last t after n m p h =
      let first : OrderedTree = more t.content t.below none in
      let both : LeavesEnd o (leaves first ++ leaves after) n = subst (λ ls. LeavesEnd o ls n) (leaves-followed_by first after) h in
      let ends = (parted_leaves o (leaves first) (leaves after) n both).0 in
      let stretch : StretchAlone o kind last first rows.an_element = alone.past_element m p alone.stays in
      record {
        part = p;
        ends = last_serves o (leaves first) (follower (leaves after) n) None ends (serves_unless o (last_printed (leaves first)) (follower (leaves after) n) None (stretch_no_word o stretch) (λ b. refl) (last_of o (leaves first) (follower (leaves after) n) ends));
      }

  rest_ends : (t : Top) (after : OrderedTree) (n : Option ℕ) → LeavesEnd o (leaves (more t.content t.below after)) n → LeavesEnd o (leaves after) n
  rest_ends t after n h =
      let first : OrderedTree = more t.content t.below none in
      (parted_leaves o (leaves first) (leaves after) n (subst (λ ls. LeavesEnd o ls n) (leaves-followed_by first after) h)).1

  by_first : (last : Last) (m : ℕ) (row : List ℕ) (n : Option ℕ) → LeavesEnd o (leaves (closed kind top (all_stay (m ∷ row)))) n → ((l : Last) → RowAlone o kind l (closed kind top (all_stay row)) → IsRow o kind top l (parts at row))
      → First o kind last (top m).content (top m).below (closed kind top (all_stay row)) → IsRow o kind top last (parts at (m ∷ row))
  by_first last m row n h others (first_trivia t b r) =
      let rest = others last r in
      subst (IsRow o kind top last) (sym (with_other m (parts at row) (trivia_other m t)))
      (record { to = rest.to; lead = runs.gap_quiet (record { trivia = t; bare = b }) rest.lead; ends = rest.ends; rest = rest.rest })
  by_first last m row n h others (first_whole s p r) =
      let rest = others rows.an_element r in
      let q : Parts = parts at row in
      let k : ℕ = tail_length at (is_none q.rest) q.lead in
      let far : through_comma at q.lead ≤ k = omega arith in
      let cut = cut_gap o kind top q.lead k rest.lead far in
      let part : IsPart o kind top (is_none q.rest) (part_with at m (is_none q.rest) q.lead) = record { element = whole_is last (top m) (closed kind top (all_stay row)) n s p h; to = rest.to; tail = cut.0; behind = cut.1; ends = rest.ends } in
      subst (IsRow o kind top last) (sym (with_element m q (part_element o p)))
      (record { to = last; lead = runs.gap_over; ends = λ x. cc; rest = (part, rest.rest) })
  by_first last m row n h others (first_comma c b e r) =
      let rest = others rows.a_comma r in
      let gap : Gap o kind top rows.an_element (m ∷ (parts at row).lead) rest.to = runs.gap_comma (record { is = c; bare = b }) rest.lead in
      subst (IsRow o kind top last) (sym (with_other m (parts at row) (ap is_element c)))
      (record { to = rest.to; lead = subst (λ l. Gap o kind top l (m ∷ (parts at row).lead) rest.to) (sym e) gap; ends = rest.ends; rest = rest.rest })
  by_first last m row n h others (first_bracket e) = absurd (never_none row e)

  pub row_is : {last : Last} (row : List ℕ) (n : Option ℕ) → RowAlone o kind last (closed kind top (all_stay row)) → LeavesEnd o (leaves (closed kind top (all_stay row))) n → IsRow o kind top last (parts at row)
  row_is {last} [] n g h = record { to = last; lead = runs.gap_over; ends = λ x. may_close o kind refl g; rest = tt }
  row_is {last} (m ∷ row) n g h = by_first last m row n h (λ l r. row_is row n r (rest_ends (top m) (closed kind top (all_stay row)) n h)) (first_is o kind g)

  -- in such a row nothing is below what is no element
  abbrev pub IsBare : ℕ → Type 0
  IsBare n = IsTrue (is_filling (at n)) → (top n).below ≡ none

  element_no_filling : (c : Content) → IsElement c → IsTrue (is_filling c) → ⊥
  element_no_filling (Content.whitespace s) h k = cc
  element_no_filling (Content.newline s) h k = cc
  element_no_filling (Content.comment s) h k = cc
  element_no_filling (Content.token s) h k = cc
  element_no_filling c h k = cc

  bare_first : (m : ℕ) (row : List ℕ) {last : Last} → First o kind last (top m).content (top m).below (closed kind top (all_stay row)) → IsBare m
  bare_first m row (first_trivia t b r) k = b
  bare_first m row (first_whole s p r) k = absurd (element_no_filling (at m) (part_element o p) k)
  bare_first m row (first_comma c b e r) k = b
  bare_first m row (first_bracket e) k = absurd (never_none row e)

  rest_alone : (m : ℕ) (row : List ℕ) {last : Last} → First o kind last (top m).content (top m).below (closed kind top (all_stay row)) → (l : Last) × RowAlone o kind l (closed kind top (all_stay row))
  rest_alone m row {last} (first_trivia t b r) = (last, r)
  rest_alone m row (first_whole s p r) = (rows.an_element, r)
  rest_alone m row (first_comma c b e r) = (rows.a_comma, r)
  rest_alone m row (first_bracket e) = absurd (never_none row e)

  pub bare_row : (row : List ℕ) (last : Last) → RowAlone o kind last (closed kind top (all_stay row)) → Each IsBare row
  bare_row [] last g = tt
  bare_row (m ∷ row) last g = let rest = rest_alone m row (first_is o kind g) in (bare_first m row (first_is o kind g), bare_row row rest.0 rest.1)
