-- A comment comes above an entry of a sound document.
use Rattle.std.proofs.Common.{◌≡◌, ◌∙◌, ℕ, ◌+◌, ◌<◌, ◌&&◌, Bool, true, false, inl, inr, List, [], ◌∷◌, ◌++◌, length, take, drop, reverse, slice_index, Option, Some, None, option_and_then, IsTrue, refl, sym, ap, subst}
use Rattle.std.specs.List.{list_all, take_while}
use Rattle.std.proofs.lemmas.List.{drop_more, reverse-append, reverse-reverse}
use Rattle.std.proofs.lemmas.List.Folds.{list_all-append}
use Rattle.jsonc_text.specs.Options.{Options}
use Rattle.jsonc_text.specs.Gaps.{IsComment}
use Rattle.jsonc_text.proofs.Basics.{and_both}
use Rattle.jsonc_tree.specs.Content.{Content, token}
use Rattle.jsonc_tree.specs.Order.{with_parent}
use Rattle.jsonc_tree.specs.OrderedTree.{OrderedTree, more, leaves, ordered_tree, Shows}
use Rattle.jsonc_tree.specs.Siblings.{first, siblings_before}
use Rattle.jsonc_tree.specs.Tree.{Node, content_at, children_at, parent_at, place_at, IsOver, IsTree}
use Rattle.jsonc_tree.specs.declared.node.CstNewlineKind.{CstNewlineKind}
use Rattle.jsonc_layout.specs.lines.Breadth.{newline_kind_at}
use Rattle.jsonc_layout.specs.lines.Kinds.{blank_at, blank_of, is_array_or_object}
use Rattle.jsonc_layout.specs.nodes.Kinds.{is_whitespace_at}
use Rattle.jsonc_layout.specs.nodes.Siblings.{is_no_newline_at}
use Rattle.jsonc_sound.specs.Lines.{ends_loosely}
use Rattle.jsonc_sound.specs.Shape.{IsText}
use Rattle.jsonc_sound.specs.SoundTrees.{SoundTree}
use Rattle.jsonc_sound.specs.TriviaChanges.{leaves_then}
use Rattle.jsonc_sound.proofs.LooseChanges.{element_no_end}
use Rattle.jsonc_sound.proofs.Commas.{and_false}
use Rattle.jsonc_edit.specs.Writing.{IsIndent}
use Rattle.jsonc_edit.specs.commenting.Above.{begins_own_line, indent_in, new_line, own_indent, own_line, seam_at, seam_behind, seam_by, without_end, ComesAboveBy, ComesAtSeam, Seam}
use Rattle.jsonc_edit.specs.commenting.Come.{LeavesCome}
use Rattle.jsonc_edit.specs.commenting.Laws.{IsEntry}
use Rattle.jsonc_edit.proofs.FittingIndents.{trivia_blank}
use Rattle.jsonc_edit.proofs.InsertedSpaces.{first_of}
use Rattle.jsonc_edit.proofs.RowEnds.{before_is, previous_at}
use Rattle.jsonc_edit.proofs.lemmas.commenting.Arriving.{arrival}
use Rattle.jsonc_edit.proofs.lemmas.commenting.Coming.{cut_at, Cut}
use Rattle.jsonc_edit.proofs.lemmas.commenting.Ends.{calm_behind, newline_first, none_last, quiet, Quiet}
use Rattle.jsonc_edit.proofs.lemmas.commenting.Indents.{ahead_fits, indent_fits, own_fits}
use Rattle.jsonc_edit.proofs.lemmas.commenting.Lines.{lines_before, never, new_line_ends, own_line_ends}
use Rattle.jsonc_edit.proofs.lemmas.commenting.Rows.{behind_first, container_is, container_over, element_opens, entry_there, opened}
use Rattle.jsonc_edit.proofs.lemmas.commenting.Sound.{Arrival, EndsAhead}

-- all pass a test in the one order, where they do in the other
reversed_all : (p : ℕ → Bool) (xs : List ℕ) → IsTrue (list_all p (reverse xs)) → IsTrue (list_all p xs)
reversed_all p [] h = refl
reversed_all p (x ∷ xs) h =
    let parts : list_all p (reverse (x ∷ xs)) ≡ (list_all p (reverse xs) && list_all p (x ∷ [])) = ap (list_all p) (reverse-append (x ∷ []) xs) ∙ list_all-append p (reverse xs) (x ∷ []) in
    let k = and_both (list_all p (reverse xs)) (list_all p (x ∷ [])) (sym parts ∙ h) in
    ap (λ b. b && list_all p xs) (and_both (p x) true k.1).0 ∙ reversed_all p xs k.0

no_blank_first : (p : ℕ → Bool) (xs rest : List ℕ) (x : ℕ) → xs ≡ x ∷ rest → p x ≡ false → IsTrue (list_all p xs) → ⊥
no_blank_first p xs rest x e f h = let wrong : false ≡ true = sym (ap (λ b. b && list_all p rest) f) ∙ ap (list_all p) (sym e) ∙ h in cc

pub is_blank_text : (content : Content) (s : List ℕ) → blank_of content ≡ Some s → content ≡ Content.whitespace s
is_blank_text (Content.whitespace t) s e = let same : t ≡ s = (let both : Some t ≡ Some s = e in cc) in ap Content.whitespace same
is_blank_text content s e = cc

module _ (o : Options) (old new : List Node) (n : ℕ) (text : List ℕ) (tree : IsTree old) (sound : SoundTree o (ordered_tree old 0)) (allowed : IsTrue o.comments) (whole : IsText IsComment text) (e : IsEntry old n) where
  abbrev c : ℕ
  c = e.container

  abbrev kids : List ℕ
  kids = children_at old c

  abbrev kind : CstNewlineKind
  kind = newline_kind_at old c

  there : c < length old
  there = (entry_there old tree n e).1

  over : IsOver old 0 c
  over = container_over old tree n e

  -- what stands from the entry on ends no line
  from_entry : (back : OrderedTree) → Shows old (drop (place_at old n) kids) back → (loose at_end : Bool) → ends_loosely loose at_end back ≡ false
  from_entry back shown loose at_end =
      let starts : drop (place_at old n) kids ≡ n ∷ drop (place_at old n + 1) kids = drop_more kids (place_at old n) 0 (tree.within n c e.parent) ∙ ap (λ (m : ℕ). m ∷ drop (place_at old n + 1) kids) (tree.found n c e.parent) in
      let one = first_of old n (drop (place_at old n + 1) kids) back (subst (λ (l : List ℕ). Shows old l back) starts shown) in
      ap (ends_loosely loose at_end) one.2 ∙ never (ends_loosely loose at_end (more (content_at old n) one.0 one.1)) (element_no_end loose at_end (content_at old n) one.0 one.1 e.element)

  entry_inside : IsTrue (is_array_or_object (content_at old c)) → (0 < place_at old n) × (place_at old n < length kids)
  entry_inside holds = (behind_first o old tree sound c over there holds n e.parent (element_opens (content_at old n) e.element), tree.within n c e.parent)

  -- where nothing but whitespace stands before it on its line
  module _ (begins : begins_own_line old n ≡ true) (cut : Cut old kids (place_at old n)) where
    ahead_is : reverse (siblings_before old n) ≡ take (place_at old n) kids
    ahead_is = reverse-reverse (take (place_at old n) (with_parent (parent_at old n) (children_at old))) ∙ ap (λ p. take (place_at old n) (with_parent p (children_at old))) e.parent

    still : Quiet old tree (siblings_before old n) cut.front
    still =
        quiet old tree (siblings_before old n) (reversed_all (is_whitespace_at old) (take_while (is_no_newline_at old) (siblings_before old n)) begins) cut.front
        (subst (λ (l : List ℕ). Shows old l cut.front) (sym ahead_is) cut.ahead)

    no_blanks : IsTrue (is_array_or_object (content_at old c)) → IsTrue (list_all (is_whitespace_at old) (siblings_before old n)) → ⊥
    no_blanks holds h =
        let first = opened o old tree sound c over there holds (place_at old n) (entry_inside holds).0 in
        let other : IsTrue (list_all (is_whitespace_at old) (take (place_at old n) kids)) = subst (λ (l : List ℕ). IsTrue (list_all (is_whitespace_at old) l)) ahead_is (turned (siblings_before old n) h) in
        no_blank_first (is_whitespace_at old) (take (place_at old n) kids) first.rest first.open_with first.is first.no_blank other
      where
        turned : (xs : List ℕ) → IsTrue (list_all (is_whitespace_at old) xs) → IsTrue (list_all (is_whitespace_at old) (reverse xs))
        turned xs k = reversed_all (is_whitespace_at old) (reverse xs) (subst (λ (l : List ℕ). IsTrue (list_all (is_whitespace_at old) l)) (sym (reverse-reverse xs)) k)

    on_line_ahead : (front behind : List Content) → (c ≡ 0 → front ≡ []) → EndsAhead o (own_line kind text (own_indent old n)) cut.front cut.back front behind
    on_line_ahead front behind bare l =
        elim still [
          | inl calm ↦ calm_behind o front (leaves cut.front) _ calm
          | inr q ↦ (elim (container_is old tree n e) [
            | inl root ↦ subst (λ (x : List Content). EndsAhead o (own_line kind text (own_indent old n)) cut.front cut.back x behind) (sym (bare root)) (λ k. none_last o (leaves cut.front) _ q.0) l
            | inr holds ↦ absurd (no_blanks holds q.1)
          ])
        ]

  on_line : begins_own_line old n ≡ true → LeavesCome old new c (place_at old n) (own_line kind text (own_indent old n)) → Arrival o (own_line kind text (own_indent old n)) (ordered_tree old 0) (ordered_tree new 0)
  on_line begins r =
      let cut : Cut old kids (place_at old n) = cut_at old tree c there (place_at old n) in
      let contents : List Content = own_line kind text (own_indent old n) in
      arrival o old new tree sound n e contents (place_at old n) r (refl, (refl, (refl, tt))) ((allowed, whole), (tt, (own_fits o old tree sound.shaped n e.below, tt))) cut entry_inside
      (λ loose at_end k. lines_before loose at_end cut.front cut.back (leaves_then contents cut.back) (from_entry cut.back cut.behind loose at_end) (own_line_ends loose at_end kind text (own_indent old n) cut.back))
      (on_line_ahead begins cut)

  -- and where something does
  module _ (place : ℕ) (rest : List ℕ) (inside : IsTrue (is_array_or_object (content_at old c)) → (0 < place) × (place < length kids))
      (ends : (back : OrderedTree) → Shows old (drop place kids) back → (loose at_end : Bool) → ends_loosely loose at_end back ≡ false) (fits : IsIndent rest) where
    between : LeavesCome old new c place (new_line kind (indent_in old c) (own_line kind text rest)) → Arrival o (new_line kind (indent_in old c) (own_line kind text rest)) (ordered_tree old 0) (ordered_tree new 0)
    between r =
        let cut : Cut old kids place = cut_at old tree c there place in
        let contents : List Content = new_line kind (indent_in old c) (own_line kind text rest) in
        arrival o old new tree sound n e contents place r (refl, (refl, (refl, (refl, (refl, tt))))) (tt, (indent_fits o old tree sound.shaped c over, ((allowed, whole), (tt, (fits, tt))))) cut inside
        (λ loose at_end k. lines_before loose at_end cut.front cut.back (leaves_then contents cut.back) (ends cut.back cut.behind loose at_end) (new_line_ends loose at_end kind (indent_in old c) text rest cut.back))
        (λ front behind bare l. newline_first o kind (Content.whitespace (indent_in old c) ∷ own_line kind text rest) (front ++ leaves cut.front) (leaves cut.back ++ behind) l)

  -- before the whitespace that stands before it
  module _ (m : ℕ) (is : first (siblings_before old n) ≡ Some m) (s rest : List ℕ) (blank : content_at old m ≡ Content.whitespace s) (split : without_end (indent_in old c) s ≡ Some rest) where
    before_it : (parent_at old m ≡ Some c) × (place_at old m + 1 ≡ place_at old n)
    before_it = before_is old tree c (place_at old n) m (sym (previous_at old tree c n e.parent) ∙ is)

    blank_inside : IsTrue (is_array_or_object (content_at old c)) → (0 < place_at old m) × (place_at old m < length kids)
    blank_inside holds = (behind_first o old tree sound c over there holds m before_it.0 (λ k h. (let wrong : Content.whitespace s ≡ token _ = sym blank ∙ h in cc)), tree.within m c before_it.0)

    from_blank : (back : OrderedTree) → Shows old (drop (place_at old m) kids) back → (loose at_end : Bool) → ends_loosely loose at_end back ≡ false
    from_blank back shown loose at_end =
        let starts : drop (place_at old m) kids ≡ m ∷ drop (place_at old n) kids =
        drop_more kids (place_at old m) 0 (tree.within m c before_it.0) ∙ ap (λ k. slice_index kids (place_at old m) ∷ drop k kids) before_it.1 ∙ ap (λ (k : ℕ). k ∷ drop (place_at old n) kids) (tree.found m c before_it.0) in
        let one = first_of old m (drop (place_at old n) kids) back (subst (λ (l : List ℕ). Shows old l back) starts shown) in
        ap (ends_loosely loose at_end) one.2 ∙ ap (λ w. ends_loosely loose at_end (more w one.0 one.1)) blank ∙ and_false loose (ends_loosely loose at_end one.1) (from_entry one.1 one.4 loose at_end)

    before_blank : LeavesCome old new c (place_at old m) (new_line kind (indent_in old c) (own_line kind text rest)) → Arrival o (new_line kind (indent_in old c) (own_line kind text rest)) (ordered_tree old 0) (ordered_tree new 0)
    before_blank r =
        let over_m : IsOver old 0 m = IsOver.above before_it.0 over in
        between (place_at old m) rest blank_inside from_blank (ahead_fits (indent_in old c) s rest (indent_fits o old tree sound.shaped c over) (trivia_blank old tree o sound.shaped m s over_m blank) split) r

  abbrev seam : Seam
  seam = seam_at old n (indent_in old c)

  abbrev At : Seam → Type 0
  At at = ComesAtSeam old new c text at → Arrival o (new_line kind (indent_in old c) (own_line kind text at.indent)) (ordered_tree old 0) (ordered_tree new 0)

  whole_indent : At (record { node = n; indent = indent_in old c })
  whole_indent r = between (place_at old n) (indent_in old c) entry_inside from_entry (indent_fits o old tree sound.shaped c over) r

  by_rest : (m : ℕ) → first (siblings_before old n) ≡ Some m → (s : List ℕ) → content_at old m ≡ Content.whitespace s → (t : Option (List ℕ)) → without_end (indent_in old c) s ≡ t → At (seam_by n m (indent_in old c) t)
  by_rest m is s blank None split = whole_indent
  by_rest m is s blank (Some rest) split = before_blank m is s rest blank split

  by_blank : (m : ℕ) → first (siblings_before old n) ≡ Some m → (t : Option (List ℕ)) → blank_at old m ≡ t → At (seam_by n m (indent_in old c) (option_and_then (without_end (indent_in old c)) t))
  by_blank m is None none_there = whole_indent
  by_blank m is (Some s) there_is = by_rest m is s (is_blank_text (content_at old m) s there_is) (without_end (indent_in old c) s) refl

  by_sibling : (m : Option ℕ) → first (siblings_before old n) ≡ m → At (seam_behind old n (indent_in old c) m)
  by_sibling None is = whole_indent
  by_sibling (Some m) is = by_blank m is (blank_at old m) refl

  pub at_seam : ComesAtSeam old new c text (seam_at old n (indent_in old c)) → Arrival o (new_line kind (indent_in old c) (own_line kind text (seam_at old n (indent_in old c)).indent)) (ordered_tree old 0) (ordered_tree new 0)
  at_seam r = by_sibling (first (siblings_before old n)) refl r

  pub at_line : begins_own_line old n ≡ true → ComesAboveBy true old new c n text → Arrival o (own_line kind text (own_indent old n)) (ordered_tree old 0) (ordered_tree new 0)
  at_line begins r = on_line begins r
