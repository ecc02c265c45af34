-- The whitespace directly behind a node, and what stands around the place behind it.
use Rattle.std.proofs.Common.{◌≡◌, ◌∙◌, ℕ, ◌+◌, ◌<◌, Bool, true, false, cond, inl, inr, List, [], ◌∷◌, ◌++◌, length, take, drop, slice_index, All, Option, Some, None, refl, sym, ap, subst, arith, length-append, length-take, length-drop, get_or-drop}
use Rattle.std.proofs.lemmas.Bool.{cases_Bool}
use Rattle.std.proofs.lemmas.List.{drop_more, get_or_append_left, get_or_default, take_more, take-append-drop}
use Rattle.std.proofs.Math.Seq.{drop-append-add, drop-append_seam, take-append-add, take-append_seam}
use Rattle.jsonc_tree.specs.Order.{with_parent}
use Rattle.jsonc_tree.specs.OrderedTree.{OrderedTree, none, Shows, shows_none, shows_more}
use Rattle.jsonc_tree.specs.Siblings.{siblings_after}
use Rattle.jsonc_tree.specs.Tree.{Node, content_at, children_at, parent_at, place_at, IsTree}
use Rattle.jsonc_tree.specs.Content as contents
use Rattle.jsonc_layout.specs.lines.Siblings.{if_comma}
use Rattle.jsonc_layout.specs.nodes.Comments.{after_inline_trivia_at, is_not_inline_trivia_at}
use Rattle.jsonc_layout.specs.nodes.Kinds.{is_comma, is_whitespace_at}
use Rattle.jsonc_sound.specs.Lines.{is_line_comment}
use Rattle.jsonc_edit.specs.commenting.Behind.{comment_follows, end_of_entry, last_blank, last_blank_in}
use Rattle.jsonc_edit.specs.remove.Comments.{or_itself}
use Rattle.jsonc_edit.proofs.FittingFinds.{found_one}
use Rattle.jsonc_edit.proofs.lemmas.commenting.Lines.{AllBlank}
use Rattle.jsonc_edit.proofs.LeafKinds.{blank_leaf}

-- each of these nodes is whitespace
abbrev pub BlankNodes : List Node → List ℕ → Type 0
BlankNodes ns [] = Unit {0}
BlankNodes ns (n ∷ rest) = (is_whitespace_at ns n ≡ true) × BlankNodes ns rest

pub blanks_shown : (ns : List Node) → IsTree ns → (xs : List ℕ) (t : OrderedTree) → BlankNodes ns xs → Shows ns xs t → AllBlank t
blanks_shown ns tree _ _ h shows_none = tt
blanks_shown ns tree _ _ h (shows_more {n = n} {rest = rest} {below = below} {after = after} p q) =
    (h.0, empty (subst (λ (l : List ℕ). Shows ns l below) (tree.leaf n (blank_leaf (content_at ns n) h.0)) p), blanks_shown ns tree rest after h.1 q)
  where
    empty : {b : OrderedTree} → Shows ns [] b → b ≡ none
    empty shows_none = refl

-- what holds of a node and of whitespace holds of the last of these
pub last_holds : (ns : List Node) (P : ℕ → Type 0) (m : ℕ) (blanks : List ℕ) → P m → ((x : ℕ) → is_whitespace_at ns x ≡ true → P x) → BlankNodes ns blanks → P (slice_index (m ∷ blanks) (length blanks))
last_holds ns P m [] h f b = h
last_holds ns P m (x ∷ rest) h f b = last_holds ns P x rest (f x b.0) f b.1

-- the whitespace that a row begins with, behind a node
record BlanksTo (ns : List Node) (m : ℕ) (xs : List ℕ) : Type 0 where
  blanks : List ℕ
  rest : List ℕ
  split : xs ≡ blanks ++ rest
  all : BlankNodes ns blanks
  last : last_blank_in ns m xs ≡ slice_index (m ∷ blanks) (length blanks)

blanks_to : (ns : List Node) (m : ℕ) (xs : List ℕ) → BlanksTo ns m xs
blanks_to ns m [] = record { blanks = []; rest = []; split = refl; all = tt; last = refl }
blanks_to ns m (x ∷ xs) =
    elim (cases_Bool (is_whitespace_at ns x)) [
      | inl h ↦ (let r = blanks_to ns x xs in record { blanks = x ∷ r.blanks; rest = r.rest; split = ap (λ (l : List ℕ). x ∷ l) r.split; all = (h, r.all); last = ap (λ b. cond b (last_blank_in ns x xs) m) h ∙ r.last })
      | inr h ↦ record { blanks = []; rest = x ∷ xs; split = refl; all = tt; last = ap (λ b. cond b (last_blank_in ns x xs) m) h }
    ]

-- behind m stands whitespace up to l, and then the rest
pub record Follows (ns : List Node) (c m l : ℕ) : Type 0 where
  pub blanks : List ℕ
  pub rest : List ℕ
  pub all : BlankNodes ns blanks
  pub last : l ≡ slice_index (m ∷ blanks) (length blanks)
  pub child : parent_at ns l ≡ Some c
  pub ahead : take (place_at ns l + 1) (children_at ns c) ≡ take (place_at ns m) (children_at ns c) ++ (m ∷ blanks)
  pub behind : drop (place_at ns l + 1) (children_at ns c) ≡ rest

module _ (ns : List Node) (tree : IsTree ns) (c m : ℕ) (said : parent_at ns m ≡ Some c) where
  abbrev kids : List ℕ
  kids = children_at ns c

  abbrev p : ℕ
  p = place_at ns m

  pub follows_itself : Follows ns c m m
  follows_itself = record {
    blanks = [];
    rest = drop (p + 1) kids;
    all = tt;
    last = refl;
    child = said;
    ahead = take_more kids p 0 (tree.within m c said) ∙ ap (λ (k : ℕ). take p kids ++ (k ∷ [])) (tree.found m c said);
    behind = refl;
  }

  t : BlanksTo ns m (drop (p + 1) kids)
  t = blanks_to ns m (drop (p + 1) kids)

  from_m : drop p kids ≡ (m ∷ t.blanks) ++ t.rest
  from_m = drop_more kids p 0 (tree.within m c said) ∙ ap (λ (k : ℕ). k ∷ drop (p + 1) kids) (tree.found m c said) ∙ ap (λ (l : List ℕ). m ∷ l) t.split

  whole : kids ≡ take p kids ++ ((m ∷ t.blanks) ++ t.rest)
  whole = sym (take-append-drop p kids) ∙ ap (λ (l : List ℕ). take p kids ++ l) from_m

  count : length kids ≡ p + (1 + length t.blanks + length t.rest)
  count = omega (arith, length-drop p kids, ap length from_m, length-append (m ∷ t.blanks) t.rest, tree.within m c said)

  ahead_count : length (take p kids) ≡ p
  ahead_count = omega (arith, length-take p kids, tree.within m c said)

  abbrev at : ℕ
  at = p + length t.blanks

  at_within : at < length kids
  at_within = omega (arith, count)

  it : slice_index kids at ≡ last_blank ns m
  it =
      sym (get_or-drop p kids (length t.blanks) 0) ∙ ap (λ (l : List ℕ). slice_index l (length t.blanks)) from_m ∙ get_or_append_left (m ∷ t.blanks) t.rest 0 (length t.blanks) (omega arith)
      ∙ sym t.last ∙ ap (λ o. last_blank_in ns m (drop (p + 1) (with_parent o (children_at ns)))) (sym said)

  placed : place_at ns (last_blank ns m) ≡ at
  placed = ap (place_at ns) (sym it) ∙ tree.placed c at at_within

  past : place_at ns (last_blank ns m) + 1 ≡ length (take p kids) + length (m ∷ t.blanks)
  past = omega (arith, placed, ahead_count)

  pub follows_blanks : Follows ns c m (last_blank ns m)
  follows_blanks = record {
    blanks = t.blanks;
    rest = t.rest;
    all = t.all;
    last = ap (λ o. last_blank_in ns m (drop (p + 1) (with_parent o (children_at ns)))) said ∙ t.last;
    child = ap (parent_at ns) (sym it) ∙ tree.named c at at_within;
    ahead =
        ap (λ k. take k kids) past ∙ ap (λ (l : List ℕ). take (length (take p kids) + length (m ∷ t.blanks)) l) whole ∙ take-append-add (take p kids) ((m ∷ t.blanks) ++ t.rest) (length (m ∷ t.blanks))
        ∙ ap (λ (l : List ℕ). take p kids ++ l) (take-append_seam (m ∷ t.blanks) t.rest);
    behind = ap (λ k. drop k kids) past ∙ ap (λ (l : List ℕ). drop (length (take p kids) + length (m ∷ t.blanks)) l) whole ∙ drop-append-add (take p kids) ((m ∷ t.blanks) ++ t.rest) (length (m ∷ t.blanks)) ∙ drop-append_seam (m ∷ t.blanks) t.rest;
  }

-- the siblings behind a node are its container's children, and so is where a comment comes behind it
module _ (ns : List Node) (tree : IsTree ns) (n c : ℕ) (said : parent_at ns n ≡ Some c) where
  pub children_behind : All (λ m. parent_at ns m ≡ Some c) (siblings_after ns n)
  children_behind =
      let kids : List ℕ = children_at ns c in
      let j : ℕ = place_at ns n + 1 in
      subst (λ o. All (λ m. parent_at ns m ≡ Some c) (drop (place_at ns n + 1) (with_parent o (children_at ns)))) (sym said)
      (λ k d h. subst (λ m. parent_at ns m ≡ Some c) (get_or_default (drop j kids) k 0 d h) (ap (parent_at ns) (get_or-drop j kids k 0) ∙ tree.named c (j + k) (omega (arith, h, length-drop j kids))))

  by_next : (o : Option ℕ) → after_inline_trivia_at ns n ≡ o → parent_at ns (or_itself n (if_comma ns o)) ≡ Some c
  by_next None is = said
  by_next (Some m) is = by (is_comma (content_at ns m))
    where
      by : (b : Bool) → parent_at ns (or_itself n (cond b (Some m) None)) ≡ Some c
      by true = (found_one (is_not_inline_trivia_at ns) (λ k. parent_at ns k ≡ Some c) (siblings_after ns n) m children_behind is).0
      by false = said

  pub end_child : parent_at ns (end_of_entry ns n) ≡ Some c
  end_child = by_next (after_inline_trivia_at ns n) refl

  pub follows_child : (text : List ℕ) → parent_at ns (comment_follows ns n text) ≡ Some c
  follows_child text = by (is_line_comment (contents.comment text))
    where
      by : (b : Bool) → parent_at ns (cond b (last_blank ns (end_of_entry ns n)) (end_of_entry ns n)) ≡ Some c
      by true = (follows_blanks ns tree c (end_of_entry ns n) end_child).child
      by false = end_child
