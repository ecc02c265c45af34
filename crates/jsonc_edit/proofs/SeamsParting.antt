-- What is seen beside a node of a sound document is what is printed beside it.
use Rattle.std.proofs.Common.{◌≡◌, ℕ, zero, suc, ◌+◌, true, false, List, [], ◌++◌, reverse, take, drop, Option, Some, None, refl, sym, ap, subst, ◌∙◌}
use Rattle.std.specs.Option.{option_and_then}
use Rattle.jsonc_text.specs.Options.{Options}
use Rattle.jsonc_tree.specs.Content.{Content, root, property}
use Rattle.jsonc_tree.specs.Order.{with_parent}
use Rattle.jsonc_tree.specs.OrderedTree.{OrderedTree, none, more, own_leaf, leaves, followed_by, ordered_tree}
use Rattle.jsonc_tree.specs.Siblings.{siblings_after}
use Rattle.jsonc_tree.specs.Tree.{Node, content_at, parent_at, children_at, place_at, IsTree}
use Rattle.jsonc_sound.specs.Adjacent.{last_printed, or_else}
use Rattle.jsonc_sound.specs.SoundTrees.{SoundTree}
use Rattle.jsonc_sound.specs.Spaces.{first_printed, is_bare_leaf}
use Rattle.jsonc_sound.proofs.NodesAlone.{document_alone}
use Rattle.jsonc_sound.proofs.RowsWithin.{Within, here, deeper, later}
use Rattle.jsonc_sound.proofs.Spaces.{first_append, last_append}
use Rattle.jsonc_edit.specs.Changes.{row_below}
use Rattle.jsonc_edit.specs.Due.{nearest, begins_bare, ends_bare, seen_before, seen_behind, behind_holder, behind_property}
use Rattle.jsonc_edit.proofs.NearestLeaves.{back_bare, front_bare, nothing_printed_back}
use Rattle.jsonc_edit.proofs.ChangesUpward.{Shows-row_below, document_is}
use Rattle.jsonc_edit.proofs.WholeRows.{Whole, whole_before, whole_behind, whole_within}
use Rattle.jsonc_edit.specs.SeamLaws.{TellsWhatIsPrinted}
use Rattle.jsonc_edit.specs.Seams.{StandsBetween, as_root, as_child}
use Rattle.jsonc_edit.proofs.SeamsAround.{row_around}
use Rattle.jsonc_edit.proofs.LeavesAroundNodes as between

-- a row somewhere in a row
pub record Somewhere (x t : OrderedTree) : Type 0 where
  pub front : List Content
  pub back : List Content
  pub within : Within x front back t

here_in : (content : Content) (x after : OrderedTree) → Somewhere x (more content x after)
here_in content x after = record { front = own_leaf content; back = leaves after; within = here }

past : (front : OrderedTree) {x t : OrderedTree} → Somewhere x t → Somewhere x (followed_by front t)
past none s = s
past (more content below after) s = let m = past after s in record { front = (own_leaf content ++ leaves below) ++ m.front; back = m.back; within = later m.within }

through : {x y t : OrderedTree} {f b : List Content} → Somewhere x y → Within y f b t → Somewhere x t
through s (here {content = content} {after = after}) = record { front = own_leaf content ++ s.front; back = s.back ++ leaves after; within = deeper s.within }
through s (deeper {content = content} {after = after} w) = let m = through s w in record { front = own_leaf content ++ m.front; back = m.back ++ leaves after; within = deeper m.within }
through s (later {content = content} {below = below} w) = let m = through s w in record { front = (own_leaf content ++ leaves below) ++ m.front; back = m.back; within = later m.within }

pub bare_first : (x y : Option Content) → is_bare_leaf x ≡ true → is_bare_leaf (or_else x y) ≡ true
bare_first None y e = let wrong : false ≡ true = e in cc
bare_first (Some c) y e = e

none_left : (ns : List Node) (k : ℕ) → nearest ns (drop k []) ≡ None
none_left ns zero = refl
none_left ns (suc k) = refl

pub none_first : (ns : List Node) (k : ℕ) → nearest ns (reverse (take k [])) ≡ None
none_first ns zero = refl
none_first ns (suc k) = refl

module _ (ns : List Node) (tree : IsTree ns) where
  -- the row below a node of the document is a row of its tree
  pub row_somewhere : (n : ℕ) (f b : List Content) → StandsBetween ns n f b → Somewhere (row_below ns n) (ordered_tree ns 0)
  row_somewhere _ _ _ as_root = subst (Somewhere (row_below ns 0)) (document_is ns tree (row_below ns 0) (Shows-row_below ns tree 0 tree.first)) (here_in root (row_below ns 0) none)
  row_somewhere n _ _ (as_child {c = c} {f = f} {b = b} {front = front} {back = back} said up fr bk) =
      let inside : Somewhere (row_below ns n) (row_below ns c) = subst (Somewhere (row_below ns n)) (sym (row_around ns tree n c front back said fr bk)) (past front (here_in (content_at ns n) (row_below ns n) back)) in
      through inside (row_somewhere c f b up).within

  module _ (o : Options) (sound : SoundTree o (ordered_tree ns 0)) where
    -- the rows beside a node are whole
    module _ (n c : ℕ) (f b : List Content) (said : parent_at ns n ≡ Some c) (s : StandsBetween ns n f b) where
      abbrev pub w : between.Within ns n c f b
      w = between.within ns tree n c f b said s

      pub row_whole : Whole o (followed_by w.front (more (content_at ns n) (row_below ns n) w.back))
      row_whole = subst (Whole o) (row_around ns tree n c w.front w.back said w.before w.behind) (whole_within o (document_alone o sound.shaped) (row_somewhere c w.g w.d w.up).within)

      back_whole : Whole o w.back
      back_whole = whole_behind o (more (content_at ns n) (row_below ns n) none) w.back (whole_behind o w.front (more (content_at ns n) (row_below ns n) w.back) row_whole)

      before_told : ends_bare ns (seen_before ns n) ≡ true → is_bare_leaf (last_printed f) ≡ true
      before_told e =
          let seen : seen_before ns n ≡ nearest ns (reverse (take (place_at ns n) (children_at ns c))) = ap (λ p. nearest ns (reverse (take (place_at ns n) (with_parent p (children_at ns))))) said in
          let own : is_bare_leaf (last_printed (leaves w.front)) ≡ true = front_bare ns o w.before (whole_before o w.front (more (content_at ns n) (row_below ns n) w.back) row_whole) ∙ ap (ends_bare ns) (sym seen) ∙ e in
          ap (λ l. is_bare_leaf (last_printed l)) w.first ∙ ap is_bare_leaf (last_append w.g (leaves w.front)) ∙ bare_first (last_printed (leaves w.front)) (last_printed w.g) own

      after_is : siblings_after ns n ≡ drop (place_at ns n + 1) (children_at ns c)
      after_is = ap (λ p. drop (place_at ns n + 1) (with_parent p (children_at ns))) said

      in_row : begins_bare ns (nearest ns (siblings_after ns n)) ≡ true → is_bare_leaf (first_printed b) ≡ true
      in_row e =
          let own : is_bare_leaf (first_printed (leaves w.back)) ≡ true = back_bare ns o w.behind back_whole ∙ ap (λ l. begins_bare ns (nearest ns l)) (sym after_is) ∙ e in
          ap (λ l. is_bare_leaf (first_printed l)) w.last ∙ ap is_bare_leaf (first_append (leaves w.back) w.d) ∙ bare_first (first_printed (leaves w.back)) (first_printed w.d) own

      past_row : nearest ns (siblings_after ns n) ≡ None → is_bare_leaf (first_printed w.d) ≡ true → is_bare_leaf (first_printed b) ≡ true
      past_row e h =
          let nothing : first_printed (leaves w.back) ≡ None = nothing_printed_back ns o w.behind back_whole (ap (nearest ns) (sym after_is) ∙ e) in
          ap (λ l. is_bare_leaf (first_printed l)) w.last ∙ ap is_bare_leaf (first_append (leaves w.back) w.d) ∙ ap (λ x. is_bare_leaf (or_else x (first_printed w.d))) nothing ∙ h

    held : (content : Content) (c : ℕ) → begins_bare ns (behind_property ns content c) ≡ true → begins_bare ns (nearest ns (siblings_after ns c)) ≡ true
    held property c e = e
    held content c e = let wrong : false ≡ true = e in cc

    behind_told : (n c : ℕ) (f b : List Content) → parent_at ns n ≡ Some c → StandsBetween ns n f b → begins_bare ns (seen_behind ns n) ≡ true → is_bare_leaf (first_printed b) ≡ true
    behind_told n c f b said s e = by (nearest ns (siblings_after ns n)) refl e
      where
        above : between.Within ns n c f b
        above = between.within ns tree n c f b said s

        further : (p : Option ℕ) → parent_at ns c ≡ p → begins_bare ns (nearest ns (siblings_after ns c)) ≡ true → is_bare_leaf (first_printed above.d) ≡ true
        further (Some p) told h = in_row c p above.g above.d told above.up h
        further None told h =
            let nothing : nearest ns (siblings_after ns c) ≡ None = ap (λ p. nearest ns (drop (place_at ns c + 1) (with_parent p (children_at ns)))) told ∙ none_left ns (place_at ns c + 1) in
            let wrong : false ≡ true = sym (ap (begins_bare ns) nothing) ∙ h in
            cc

        by : (x : Option ℕ) → nearest ns (siblings_after ns n) ≡ x → begins_bare ns (or_else (nearest ns (siblings_after ns n)) (behind_holder ns n)) ≡ true → is_bare_leaf (first_printed b) ≡ true
        by (Some y) seen h = in_row n c f b said s (ap (begins_bare ns) seen ∙ sym (ap (λ o. begins_bare ns (or_else o (behind_holder ns n))) seen) ∙ h)
        by None seen h =
            let holder : begins_bare ns (behind_property ns (content_at ns c) c) ≡ true =
            sym (ap (λ o. begins_bare ns (option_and_then (λ p. behind_property ns (content_at ns p) p) o)) said) ∙ sym (ap (λ o. begins_bare ns (or_else o (behind_holder ns n))) seen) ∙ h in
            past_row n c f b said s seen (further (parent_at ns c) refl (held (content_at ns c) c holder))

    tells : (n : ℕ) (f b : List Content) → StandsBetween ns n f b → (p : Option ℕ) → parent_at ns n ≡ p
        → (ends_bare ns (seen_before ns n) ≡ true → is_bare_leaf (last_printed f) ≡ true) × (begins_bare ns (seen_behind ns n) ≡ true → is_bare_leaf (first_printed b) ≡ true)
    tells n f b s (Some c) said = (before_told n c f b said s, behind_told n c f b said s)
    tells n f b s None said = (
      λ e.
          let nothing : seen_before ns n ≡ None = ap (λ p. nearest ns (reverse (take (place_at ns n) (with_parent p (children_at ns))))) said ∙ none_first ns (place_at ns n) in
          let wrong : false ≡ true = sym (ap (ends_bare ns) nothing) ∙ e in
          cc,
      λ e.
          let none_after : nearest ns (siblings_after ns n) ≡ None = ap (λ p. nearest ns (drop (place_at ns n + 1) (with_parent p (children_at ns)))) said ∙ none_left ns (place_at ns n + 1) in
          let none_held : behind_holder ns n ≡ None = ap (option_and_then (λ p. behind_property ns (content_at ns p) p)) said in
          let wrong : false ≡ true = sym (ap (λ o. begins_bare ns (or_else o (behind_holder ns n))) none_after ∙ ap (begins_bare ns) none_held) ∙ e in
          cc,
    )

pub tells_what_is_printed : (o : Options) (ns : List Node) (n : ℕ) → TellsWhatIsPrinted o ns n
tells_what_is_printed o ns n tree sound f b s = tells ns tree o sound n f b s (parent_at ns n) refl
