-- Where a comment has come: what stands behind it, or before it, among the leaves.
use Rattle.std.proofs.Common.{◌≡◌, ◌∙◌, ℕ, ◌+◌, ◌<◌, not, Bool, true, false, cond, inl, inr, List, [], ◌∷◌, ◌++◌, length, take, drop, slice_index, Option, Some, None, option_and_then, refl, sym, ap, subst, arith, append_assoc, append-nil, length-append, length-take}
use Rattle.std.specs.List.{find}
use Rattle.std.proofs.lemmas.Bool.{cases_Bool}
use Rattle.std.proofs.lemmas.List.{append_cancel_left, drop_more, take_more, take-append-drop}
use Rattle.std.proofs.Math.Seq.{get_or-append_seam, take-append-add, take-append_seam}
use Rattle.jsonc_text.specs.Options.{Options}
use Rattle.jsonc_text.proofs.Basics.{tails}
use Rattle.jsonc_tree.specs.Content.{Content, is_container, token}
use Rattle.jsonc_tree.specs.Order.{with_parent}
use Rattle.jsonc_tree.specs.OrderedTree.{OrderedTree, none, own_leaf, leaves, ordered_tree, Shows, shows_none, shows_more}
use Rattle.jsonc_tree.specs.Siblings.{first, siblings_before}
use Rattle.jsonc_tree.specs.Tree.{Node, content_at, children_at, parent_at, place_at, IsTree}
use Rattle.jsonc_tree.proofs.Order.{parent_there}
use Rattle.jsonc_tree.proofs.OrderedTrees.{leaves-followed_by, Shows-unique}
use Rattle.jsonc_tree.proofs.Rows.{Shows-part}
use Rattle.jsonc_layout.specs.lines.Kinds.{blank_at}
use Rattle.jsonc_layout.specs.lines.Siblings.{if_comma}
use Rattle.jsonc_layout.specs.nodes.Comments.{after_inline_trivia_at, is_not_inline_trivia_at}
use Rattle.jsonc_layout.specs.nodes.Kinds.{is_comma, is_inline_trivia, is_inline_trivia_at, is_whitespace}
use Rattle.jsonc_sound.specs.Leaving.{AreInlineTrivia}
use Rattle.jsonc_sound.specs.Lines.{is_line_comment}
use Rattle.jsonc_sound.specs.MarkChanges.{AreBlanks}
use Rattle.jsonc_sound.specs.SoundTrees.{SoundTree}
use Rattle.jsonc_sound.specs.TreeChanges.{leaves_of}
use Rattle.jsonc_edit.specs.Changes.{row_below, top_at}
use Rattle.jsonc_edit.specs.commenting.Above.{seam_at, seam_behind, seam_by, without_end, Seam}
use Rattle.jsonc_edit.specs.commenting.Behind.{comment_follows, end_of_entry, last_blank}
use Rattle.jsonc_edit.specs.commenting.Laws.{comma_follows, on_line, past_comma, IsTrail}
use Rattle.jsonc_edit.specs.remove.Comments.{or_itself}
use Rattle.jsonc_edit.proofs.ChangesUpward.{Shows-row_below}
use Rattle.jsonc_edit.proofs.InsertedSpaces.{first_of}
use Rattle.jsonc_edit.proofs.RowEnds.{before_is, previous_at}
use Rattle.jsonc_edit.proofs.lemmas.commenting.Above.{is_blank_text}
use Rattle.jsonc_edit.proofs.lemmas.commenting.Commas.{comma_among, comma_none, comma_other}
use Rattle.jsonc_edit.proofs.lemmas.commenting.Blanks.{follows_blanks, follows_itself, BlankNodes, Follows}
use Rattle.jsonc_edit.proofs.LeafKinds.{comma_is}

module _ (ns : List Node) (tree : IsTree ns) where
  bare_leaf : (m : ℕ) (below : OrderedTree) → is_container (content_at ns m) ≡ false → Shows ns (children_at ns m) below → below ≡ none
  bare_leaf m below e p = empty (subst (λ (l : List ℕ). Shows ns l below) (tree.leaf m e) p)
    where
      empty : {b : OrderedTree} → Shows ns [] b → b ≡ none
      empty shows_none = refl

  -- a row that begins with n has its leaves first
  module _ (n : ℕ) (there : n < length ns) (rest : List ℕ) where
    pub from_node : (t : OrderedTree) → Shows ns (n ∷ rest) t → (after : OrderedTree) × (leaves t ≡ leaves_of (top_at ns n) ++ leaves after) × Shows ns rest after
    from_node t shown =
        let one = first_of ns n rest t shown in
        let below : one.0 ≡ row_below ns n = Shows-unique ns (children_at ns n) one.0 (row_below ns n) one.3 (Shows-row_below ns tree n there) in (
          one.1,
          ap leaves one.2 ∙ ap (λ b. own_leaf (content_at ns n) ++ (leaves b ++ leaves one.1)) below ∙ sym (append_assoc (own_leaf (content_at ns n)) (leaves (row_below ns n)) (leaves one.1)),
          one.4,
        )

    -- and so behind whitespace
    pub from_blank : (m : ℕ) (s : List ℕ) → content_at ns m ≡ Content.whitespace s → (t : OrderedTree) → Shows ns (m ∷ n ∷ rest) t
        → (after : OrderedTree) × (leaves t ≡ (Content.whitespace s ∷ []) ++ (leaves_of (top_at ns n) ++ leaves after)) × Shows ns rest after
    from_blank m s e t shown =
        let one = first_of ns m (n ∷ rest) t shown in
        let two = from_node one.1 one.4 in
        let bare : one.0 ≡ none = bare_leaf m one.0 (ap is_container e) one.3 in (
          two.0,
          ap leaves one.2 ∙ ap (λ b. own_leaf (content_at ns m) ++ (leaves b ++ leaves one.1)) bare ∙ ap (λ w. own_leaf w ++ leaves one.1) e ∙ ap (λ l. Content.whitespace s ∷ l) two.1,
          two.2,
        )

  one_blank : (m : ℕ) (s : List ℕ) → content_at ns m ≡ Content.whitespace s → (t : OrderedTree) → Shows ns (m ∷ []) t → leaves t ≡ Content.whitespace s ∷ []
  one_blank m s e t shown =
      let one = first_of ns m [] t shown in
      let bare : one.0 ≡ none = bare_leaf m one.0 (ap is_container e) one.3 in
      ap leaves one.2 ∙ ap (λ b. own_leaf (content_at ns m) ++ (leaves b ++ leaves one.1)) bare ∙ ap (λ w. own_leaf w ++ leaves one.1) e ∙ ap (λ a. Content.whitespace s ∷ leaves a) (nothing one.4)
    where
      nothing : {a : OrderedTree} → Shows ns [] a → a ≡ none
      nothing shows_none = refl

  -- behind the seam blanks alone stand before n
  module _ (n c : ℕ) (said : parent_at ns n ≡ Some c) (indent : List ℕ) where
    abbrev kids : List ℕ
    kids = children_at ns c

    -- these trees stand before the seam and behind it
    pub record Started (t u : OrderedTree) : Type 0 where
      pub blanks : List Content
      pub are_blanks : AreBlanks blanks
      pub after : OrderedTree
      pub shown : Shows ns (drop (place_at ns n + 1) kids) after
      pub next : leaves u ≡ blanks ++ (leaves_of (top_at ns n) ++ leaves after)
      pub ahead : (v : OrderedTree) → Shows ns (take (place_at ns n) kids) v → leaves v ≡ leaves t ++ blanks

    abbrev pub Starts : Seam → Type 0
    Starts seam = (t u : OrderedTree) → Shows ns (take (place_at ns seam.node) kids) t → Shows ns (drop (place_at ns seam.node) kids) u → Started t u

    there : n < length ns
    there = (parent_there ns tree n c said).0

    from_n : drop (place_at ns n) kids ≡ n ∷ drop (place_at ns n + 1) kids
    from_n = drop_more kids (place_at ns n) 0 (tree.within n c said) ∙ ap (λ (m : ℕ). m ∷ drop (place_at ns n + 1) kids) (tree.found n c said)

    pub starts_itself : (indent : List ℕ) → Starts (record { node = n; indent = indent })
    starts_itself any t u before behind =
        let one = from_node n there (drop (place_at ns n + 1) kids) u (subst (λ (l : List ℕ). Shows ns l u) from_n behind) in
        record {
          blanks = [];
          are_blanks = tt;
          after = one.0;
          shown = one.2;
          next = one.1;
          ahead = λ v s. ap leaves (Shows-unique ns (take (place_at ns n) kids) v t s before) ∙ sym (append-nil (leaves t));
        }

    starts_blank : (m : ℕ) → first (siblings_before ns n) ≡ Some m → (s rest : List ℕ) → content_at ns m ≡ Content.whitespace s → Starts (record { node = m; indent = rest })
    starts_blank m is s rest blank t u before behind =
        let child = before_is ns tree c (place_at ns n) m (sym (previous_at ns tree c n said) ∙ is) in
        let starts : drop (place_at ns m) kids ≡ m ∷ n ∷ drop (place_at ns n + 1) kids =
        drop_more kids (place_at ns m) 0 (tree.within m c child.0) ∙ ap (λ k. slice_index kids (place_at ns m) ∷ drop k kids) child.1 ∙ ap (λ (k : ℕ). k ∷ drop (place_at ns n) kids) (tree.found m c child.0) ∙ ap (λ (l : List ℕ). m ∷ l) from_n in
        let upto : take (place_at ns n) kids ≡ take (place_at ns m) kids ++ m ∷ [] =
        ap (λ k. take k kids) (sym child.1) ∙ take_more kids (place_at ns m) 0 (tree.within m c child.0) ∙ ap (λ (k : ℕ). take (place_at ns m) kids ++ k ∷ []) (tree.found m c child.0) in
        let one = from_blank n there (drop (place_at ns n + 1) kids) m s blank u (subst (λ (l : List ℕ). Shows ns l u) starts behind) in
        record {
          blanks = Content.whitespace s ∷ [];
          are_blanks = (refl, tt);
          after = one.0;
          shown = one.2;
          next = one.1;
          ahead = λ v shows.
              let parts = Shows-part ns (take (place_at ns m) kids) (m ∷ []) v (subst (λ (l : List ℕ). Shows ns l v) upto shows) in
              ap leaves parts.2 ∙ leaves-followed_by parts.0 parts.1 ∙ ap (λ x. leaves x ++ leaves parts.1) (Shows-unique ns (take (place_at ns m) kids) parts.0 t parts.3 before) ∙ ap (λ l. leaves t ++ l) (one_blank m s blank parts.1 parts.4);
        }

    by_rest : (m : ℕ) → first (siblings_before ns n) ≡ Some m → (s : List ℕ) → content_at ns m ≡ Content.whitespace s → (t : Option (List ℕ)) → Starts (seam_by n m indent t)
    by_rest m is s blank None = starts_itself indent
    by_rest m is s blank (Some rest) = starts_blank m is s rest blank

    by_blank : (m : ℕ) → first (siblings_before ns n) ≡ Some m → (t : Option (List ℕ)) → blank_at ns m ≡ t → Starts (seam_by n m indent (option_and_then (without_end indent) t))
    by_blank m is None none_there = starts_itself indent
    by_blank m is (Some s) there_is = by_rest m is s (is_blank_text (content_at ns m) s there_is) (without_end indent s)

    by_sibling : (o : Option ℕ) → first (siblings_before ns n) ≡ o → Starts (seam_behind ns n indent o)
    by_sibling None is = starts_itself indent
    by_sibling (Some m) is = by_blank m is (blank_at ns m) refl

    pub starts_seam : Starts (seam_at ns n indent)
    starts_seam = by_sibling (first (siblings_before ns n)) refl

  -- nodes that are whitespace or comments
  abbrev InlineNodes : List ℕ → Type 0
  InlineNodes [] = Unit {0}
  InlineNodes (x ∷ rest) = (is_inline_trivia_at ns x ≡ true) × InlineNodes rest

  blank_inline : (content : Content) → is_whitespace content ≡ true → is_inline_trivia content ≡ true
  blank_inline (Content.whitespace s) h = refl
  blank_inline content h = cc

  blanks_inline : (xs : List ℕ) → BlankNodes ns xs → InlineNodes xs
  blanks_inline [] h = tt
  blanks_inline (x ∷ rest) h = (blank_inline (content_at ns x) h.0, blanks_inline rest h.1)

  inline_leaf : (content : Content) → is_inline_trivia content ≡ true → (is_container content ≡ false) × (own_leaf content ≡ content ∷ [])
  inline_leaf (Content.whitespace s) h = (refl, refl)
  inline_leaf (Content.comment s) h = (refl, refl)
  inline_leaf content h = cc

  -- such where no comma follows the node before; or such, a comma, and such
  data TrailNodes (behind : List ℕ) : List ℕ → Type 0 where
    nodes_on_line : (xs : List ℕ) → InlineNodes xs → comma_among ns behind ≡ false → TrailNodes behind xs
    nodes_past_comma : (xs ys : List ℕ) (m : ℕ) → InlineNodes xs → content_at ns m ≡ token 0x2C → InlineNodes ys → TrailNodes behind (xs ++ m ∷ ys)

  inline_shown : (xs : List ℕ) (t : OrderedTree) → InlineNodes xs → Shows ns xs t → AreInlineTrivia (leaves t)
  inline_shown _ _ h shows_none = tt
  inline_shown _ _ h (shows_more {n = n} {rest = rest} {below = below} {after = after} p q) =
      let leaf = inline_leaf (content_at ns n) h.0 in
      subst (λ b. AreInlineTrivia (own_leaf (content_at ns n) ++ (leaves b ++ leaves after))) (sym (bare_leaf n below leaf.0 p)) (subst (λ l. AreInlineTrivia (l ++ leaves after)) (sym leaf.1) (h.0, inline_shown rest after h.1 q))

  -- so in a sound document none follows among the leaves
  abbrev pub NoneFollows : List Content → List ℕ → Type 0
  NoneFollows back behind = comma_among ns behind ≡ false → (o : Options) → SoundTree o (ordered_tree ns 0) → comma_follows back ≡ false

  trail_shown : (back : List Content) (behind : List ℕ) → NoneFollows back behind → (xs : List ℕ) (t : OrderedTree) → TrailNodes behind xs → Shows ns xs t → IsTrail (ordered_tree ns 0) back (leaves t)
  trail_shown back behind none_follows _ t (nodes_on_line xs h lacks) shown = on_line (leaves t) (inline_shown xs t h shown) (none_follows lacks)
  trail_shown back behind none_follows _ t (nodes_past_comma xs ys m h e k) shown =
      let parts = Shows-part ns xs (m ∷ ys) t shown in
      let one = first_of ns m ys parts.1 parts.4 in
      let bare : one.0 ≡ none = bare_leaf m one.0 (ap is_container e) one.3 in
      let second : leaves parts.1 ≡ token 0x2C ∷ leaves one.1 = ap leaves one.2 ∙ ap (λ b. own_leaf (content_at ns m) ++ (leaves b ++ leaves one.1)) bare ∙ ap (λ w. own_leaf w ++ leaves one.1) e in
      subst (IsTrail (ordered_tree ns 0) back) (sym (ap leaves parts.2 ∙ leaves-followed_by parts.0 parts.1 ∙ ap (λ l. leaves parts.0 ++ l) second)) (past_comma (leaves parts.0) (leaves one.1) (inline_shown xs parts.0 h parts.3) (inline_shown ys one.1 k one.4))

  -- what a search passes over
  record PassedOver (xs : List ℕ) (m : ℕ) : Type 0 where
    inline : List ℕ
    rest : List ℕ
    split : xs ≡ inline ++ m ∷ rest
    all : InlineNodes inline

  passed_over : (xs : List ℕ) (m : ℕ) → find (is_not_inline_trivia_at ns) xs ≡ Some m → PassedOver xs m
  passed_over [] m e = absurd (let wrong : None ≡ Some m = e in cc)
  passed_over (x ∷ xs) m e =
      elim (cases_Bool (is_inline_trivia_at ns x)) [
        | inl h ↦ (let r = passed_over xs m (sym (ap (λ b. cond (not b) (Some x) (find (is_not_inline_trivia_at ns) xs)) h) ∙ e) in
            record { inline = x ∷ r.inline; rest = r.rest; split = ap (λ (l : List ℕ). x ∷ l) r.split; all = (h, r.all) })
        | inr h ↦ (let both : Some x ≡ Some m = sym (ap (λ b. cond (not b) (Some x) (find (is_not_inline_trivia_at ns) xs)) h) ∙ e in
            let same : x ≡ m = cc in
            record { inline = []; rest = xs; split = ap (λ (k : ℕ). k ∷ xs) same; all = tt })
      ]

  -- between an entry and the comment behind it stands such a trail
  module _ (n c : ℕ) (said : parent_at ns n ≡ Some c) where
    abbrev children : List ℕ
    children = children_at ns c

    abbrev p : ℕ
    p = place_at ns n

    record Trails (l : ℕ) : Type 0 where
      between : List ℕ
      trail : TrailNodes (drop (p + 1) children) between
      ahead : take (place_at ns l + 1) children ≡ take p children ++ (n ∷ between)

    trails_itself : comma_among ns (drop (p + 1) children) ≡ false → (l : ℕ) → Follows ns c n l → Trails l
    trails_itself lacks l f = record { between = f.blanks; trail = nodes_on_line f.blanks (blanks_inline f.blanks f.all) lacks; ahead = f.ahead }

    first_behind : (o : Option ℕ) → after_inline_trivia_at ns n ≡ o → find (is_not_inline_trivia_at ns) (drop (p + 1) children) ≡ o
    first_behind o is = sym (ap (λ k. find (is_not_inline_trivia_at ns) (drop (p + 1) (with_parent k (children_at ns)))) said) ∙ is

    module _ (m : ℕ) (is : after_inline_trivia_at ns n ≡ Some m) (comma : is_comma (content_at ns m) ≡ true) where
      r : PassedOver (drop (p + 1) children) m
      r = passed_over (drop (p + 1) children) m (first_behind (Some m) is)

      whole : children ≡ take p children ++ ((n ∷ r.inline) ++ (m ∷ r.rest))
      whole = sym (take-append-drop p children) ∙ ap (λ (l : List ℕ). take p children ++ l) (drop_more children p 0 (tree.within n c said) ∙ ap (λ (k : ℕ). k ∷ drop (p + 1) children) (tree.found n c said) ∙ ap (λ (l : List ℕ). n ∷ l) r.split)

      ahead_count : length (take p children) ≡ p
      ahead_count = omega (arith, length-take p children, tree.within n c said)

      abbrev at : ℕ
      at = p + length (n ∷ r.inline)

      count : length children ≡ p + (length (n ∷ r.inline) + length (m ∷ r.rest))
      count = omega (arith, ahead_count, ap length whole, length-append (take p children) ((n ∷ r.inline) ++ (m ∷ r.rest)), length-append (n ∷ r.inline) (m ∷ r.rest))

      within : at < length children
      within = omega (arith, count)

      it : slice_index children at ≡ m
      it =
          ap (λ k. slice_index children k) (omega (arith, ahead_count, length-append (take p children) (n ∷ r.inline)))
          ∙ ap (λ (l : List ℕ). slice_index l (length (take p children ++ (n ∷ r.inline)))) (whole ∙ sym (append_assoc (take p children) (n ∷ r.inline) (m ∷ r.rest)))
          ∙ get_or-append_seam (take p children ++ (n ∷ r.inline)) m r.rest 0

      placed : place_at ns m ≡ at
      placed = ap (place_at ns) (sym it) ∙ tree.placed c at within

      ahead_m : take (place_at ns m) children ≡ take p children ++ (n ∷ r.inline)
      ahead_m =
          ap (λ k. take k children) (omega (arith, placed, ahead_count)) ∙ ap (λ (l : List ℕ). take (length (take p children) + length (n ∷ r.inline)) l) whole
          ∙ take-append-add (take p children) ((n ∷ r.inline) ++ (m ∷ r.rest)) (length (n ∷ r.inline)) ∙ ap (λ (l : List ℕ). take p children ++ l) (take-append_seam (n ∷ r.inline) (m ∷ r.rest))

      trails_comma : (l : ℕ) → Follows ns c m l → Trails l
      trails_comma l f = record {
        between = r.inline ++ m ∷ f.blanks;
        trail = nodes_past_comma r.inline f.blanks m r.all (comma_is (content_at ns m) comma) (blanks_inline f.blanks f.all);
        ahead = f.ahead ∙ ap (λ (l : List ℕ). l ++ (m ∷ f.blanks)) ahead_m ∙ append_assoc (take p children) (n ∷ r.inline) (m ∷ f.blanks);
      }

    by_next : (o : Option ℕ) → after_inline_trivia_at ns n ≡ o → (l : ℕ) → Follows ns c (or_itself n (if_comma ns o)) l → Trails l
    by_next None is l f = trails_itself (comma_none ns (drop (p + 1) children) (first_behind None is)) l f
    by_next (Some m) is l f = by (is_comma (content_at ns m)) refl f
      where
        by : (b : Bool) → is_comma (content_at ns m) ≡ b → Follows ns c (or_itself n (cond b (Some m) None)) l → Trails l
        by true h f = trails_comma m is h l f
        by false h f = trails_itself (comma_other ns (drop (p + 1) children) m (first_behind (Some m) is) h) l f

    follows_end : (text : List ℕ) → parent_at ns (end_of_entry ns n) ≡ Some c → Follows ns c (end_of_entry ns n) (comment_follows ns n text)
    follows_end text child = by (is_line_comment (Content.comment text))
      where
        by : (b : Bool) → Follows ns c (end_of_entry ns n) (cond b (last_blank ns (end_of_entry ns n)) (end_of_entry ns n))
        by true = follows_blanks ns tree c (end_of_entry ns n) child
        by false = follows_itself ns tree c (end_of_entry ns n) child

    -- these trees stand before the comment and behind it
    pub record Ended (back : List Content) (t u : OrderedTree) : Type 0 where
      pub trail : List Content
      pub is_trail : IsTrail (ordered_tree ns 0) back trail
      pub before : OrderedTree
      pub shown : Shows ns (take p children) before
      pub last : leaves t ≡ leaves before ++ (leaves_of (top_at ns n) ++ trail)
      pub rest : (v : OrderedTree) → Shows ns (drop (p + 1) children) v → leaves v ≡ trail ++ leaves u

    module _ (back : List Content) (none_follows : NoneFollows back (drop (p + 1) children)) (l : ℕ) (e : Trails l) where
      both_ways : take p children ++ (n ∷ drop (p + 1) children) ≡ take p children ++ (n ∷ (e.between ++ drop (place_at ns l + 1) children))
      both_ways =
          sym (sym (take-append-drop p children) ∙ ap (λ (x : List ℕ). take p children ++ x) (drop_more children p 0 (tree.within n c said) ∙ ap (λ (k : ℕ). k ∷ drop (p + 1) children) (tree.found n c said)))
          ∙ sym (take-append-drop (place_at ns l + 1) children) ∙ ap (λ (x : List ℕ). x ++ drop (place_at ns l + 1) children) e.ahead ∙ append_assoc (take p children) (n ∷ e.between) (drop (place_at ns l + 1) children)

      behind_n : drop (p + 1) children ≡ e.between ++ drop (place_at ns l + 1) children
      behind_n = tails (append_cancel_left (take p children) (n ∷ drop (p + 1) children) (n ∷ (e.between ++ drop (place_at ns l + 1) children)) both_ways)

      ended : (t u : OrderedTree) → Shows ns (take (place_at ns l + 1) children) t → Shows ns (drop (place_at ns l + 1) children) u → Ended back t u
      ended t u before behind =
          let parts = Shows-part ns (take p children) (n ∷ e.between) t (subst (λ (x : List ℕ). Shows ns x t) e.ahead before) in
          let one = from_node n (parent_there ns tree n c said).0 e.between parts.1 parts.4 in
          record {
            trail = leaves one.0;
            is_trail = trail_shown back (drop (p + 1) children) none_follows e.between one.0 e.trail one.2;
            before = parts.0;
            shown = parts.3;
            last = ap leaves parts.2 ∙ leaves-followed_by parts.0 parts.1 ∙ ap (λ x. leaves parts.0 ++ x) one.1;
            rest = λ v shows.
                let both = Shows-part ns e.between (drop (place_at ns l + 1) children) v (subst (λ (x : List ℕ). Shows ns x v) behind_n shows) in
                ap leaves both.2 ∙ leaves-followed_by both.0 both.1 ∙ ap (λ x. leaves x ++ leaves both.1) (Shows-unique ns e.between both.0 one.0 both.3 one.2)
                ∙ ap (λ x. leaves one.0 ++ leaves x) (Shows-unique ns (drop (place_at ns l + 1) children) both.1 u both.4 behind);
          }

    pub ends_behind : (back : List Content) → NoneFollows back (drop (p + 1) children) → (text : List ℕ) → parent_at ns (end_of_entry ns n) ≡ Some c → (t u : OrderedTree) → Shows ns (take (place_at ns (comment_follows ns n text) + 1) children) t → Shows ns (drop (place_at ns (comment_follows ns n text) + 1) children) u → Ended back t u
    ends_behind back none_follows text child t u before behind =
        ended back none_follows (comment_follows ns n text) (by_next (after_inline_trivia_at ns n) refl (comment_follows ns n text) (follows_end text child)) t u before behind
