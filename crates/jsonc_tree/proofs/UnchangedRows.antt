-- Changes that leave every row as it is: a new node, a leaf that becomes another.
use Rattle.std.specs.Prelude.{if◌then◌else◌}
use Rattle.std.proofs.Common.{◌≡◌, ◌^◌, ◌+◌, ℕ, Bool, true, false, zero, suc, ◌<◌, ◌≤◌, List, [], ◌∷◌, ◌++◌, length, get_or, Option, None, Some, inl, inr, slice_get, refl, sym, ap, subst, ◌∙◌, arith, length-set, ◌-◌}
use Rattle.std.proofs.lemmas.Bool.{cases_lt, cases_eq, false≢true}
use Rattle.std.proofs.lemmas.List.{get_or_append_left, get_or_past, get_or_push, length_push, get_or-set_same, get_or-set_other}
use Rattle.std.proofs.lemmas.Option.{slice_get_past}
use Rattle.jsonc_tree.specs.Content.{Content, root, is_container, is_newline}
use Rattle.jsonc_tree.specs.Tree as tree
use Rattle.jsonc_tree.specs.Tree.{children_at, parent_at, content_at, node_at, place_at, is_container_at, is_newline_at, IsTree, IsTreeBy, top}
use Rattle.jsonc_tree.specs.Changes.{Adds, LeafBecomes}
use Rattle.jsonc_tree.proofs.SameLinks.{content_set, IsTreeBy-same, IsTree-from, LeafBecomes-set}
use Rattle.jsonc_tree.specs.Stored.{LinkedNode, bare, nowhere, link_at, nodes_of, ahead_at, back_at, counted_in, counted_out, leaf_set, line_ends, one_if, IsStored}
use Rattle.jsonc_tree.specs.Siblings.{IsGap}
use Rattle.jsonc_tree.proofs.Written.{kept}
use Rattle.jsonc_tree.proofs.AgreeingLinks.{Agrees, agrees, content_shown, shown_is, stored_by, length_shown, row_shorter}
use Rattle.jsonc_tree.proofs.Moves.{in_row}
use Rattle.jsonc_tree.proofs.LineEnds.{Counts, counted, counted_agrees, counts_alone, counts_changed, line_ends-like, line_ends-short, lines_here}

-- an element at the end that says what a missing one says changes no answer
push_same : {X Y : Type 0} (f : X → Y) (xs : List X) (x d : X) (k : ℕ) → f x ≡ f d → f (get_or (xs ++ x ∷ []) k d) ≡ f (get_or xs k d)
push_same f [] x d zero e = e
push_same f [] x d (suc k) e = refl
push_same f (y ∷ xs) x d zero e = refl
push_same f (y ∷ xs) x d (suc k) e = push_same f xs x d k e

-- a new node as it is shown
abbrev pub shown_bare : Content → tree.Node
shown_bare content = record { content = content; parent = None; children = [] }

module _ (ns : List tree.Node) (content : Content) where
  abbrev pushed : List tree.Node
  pushed = ns ++ shown_bare content ∷ []

  pub children_pushed : (k : ℕ) → children_at pushed k ≡ children_at ns k
  children_pushed k = push_same (λ n. n.children) ns (shown_bare content) tree.nowhere k refl

  pub parent_pushed : (k : ℕ) → parent_at pushed k ≡ parent_at ns k
  parent_pushed k = push_same (λ n. n.parent) ns (shown_bare content) tree.nowhere k refl

  pub node_pushed : (k : ℕ) → k < length ns → node_at pushed k ≡ node_at ns k
  node_pushed k h = get_or_append_left ns (shown_bare content ∷ []) tree.nowhere k h

  pub node_last : node_at pushed (length ns) ≡ shown_bare content
  node_last = get_or_push ns (shown_bare content) tree.nowhere (length ns) refl

  pub IsTree-pushed : IsTree ns → IsTree pushed
  IsTree-pushed t =
      IsTree-from pushed (place_at ns)
      (IsTreeBy-same ns pushed (place_at ns) (place_at ns)
      (omega (arith, length_push ns (shown_bare content)))
      children_pushed parent_pushed (λ k. refl)
      (ap (λ (n : tree.Node). n.content) (node_pushed 0 t.first) ∙ t.root_first)
      (λ k h. elim (cases_lt k (length ns)) [
        | inl l ↦ t.leaf k (ap (λ (n : tree.Node). is_container n.content) (sym (node_pushed k l)) ∙ h)
        | inr g ↦ ap (λ (n : tree.Node). n.children) (get_or_past ns k tree.nowhere g)
      ])
      t)

  pub Adds-pushed : Adds ns pushed content
  Adds-pushed = record {
    len = length_push ns (shown_bare content);
    last = ap (λ (n : tree.Node). n.content) node_last;
    bare = (ap (λ (n : tree.Node). n.parent) node_last, ap (λ (n : tree.Node). n.children) node_last);
    rest = node_pushed;
  }

module _ (ls : List LinkedNode) (content : Content) (ok : IsStored ls) where
  ahead_pushed : (c : ℕ) (o : Option ℕ) → ahead_at (ls ++ bare content ∷ []) c o ≡ ahead_at ls c o
  ahead_pushed c None = push_same (λ n. n.first) ls (bare content) nowhere c refl
  ahead_pushed c (Some n) = push_same (λ n. n.next) ls (bare content) nowhere n refl

  back_pushed : (c : ℕ) (o : Option ℕ) → back_at (ls ++ bare content ∷ []) c o ≡ back_at ls c o
  back_pushed c None = push_same (λ n. n.last) ls (bare content) nowhere c refl
  back_pushed c (Some n) = push_same (λ n. n.previous) ls (bare content) nowhere n refl

  content_pushed : (n : ℕ) → n < length (nodes_of ls ++ shown_bare content ∷ []) → (link_at (ls ++ bare content ∷ []) n).content ≡ content_at (nodes_of ls ++ shown_bare content ∷ []) n
  content_pushed n h =
      let same = agrees ls ok in
      elim (cases_lt n (length ls)) [
        | inl l ↦
            ap (λ (x : LinkedNode). x.content) (get_or_append_left ls (bare content ∷ []) nowhere n l)
            ∙ same.content n (omega (arith, same.len))
            ∙ sym (ap (λ (x : tree.Node). x.content) (node_pushed (nodes_of ls) content n (omega (arith, same.len))))
        | inr g ↦
            let is : n ≡ length ls = omega (arith, length_push (nodes_of ls) (shown_bare content), same.len) in
            ap (λ (x : LinkedNode). x.content) (get_or_push ls (bare content) nowhere n (sym is))
            ∙ sym (ap (λ (x : tree.Node). x.content) (get_or_push (nodes_of ls) (shown_bare content) tree.nowhere n (sym (is ∙ same.len))))
      ]

  pushed_agrees : Agrees (ls ++ bare content ∷ []) (nodes_of ls ++ shown_bare content ∷ [])
  pushed_agrees =
      let same = agrees ls ok in
      record {
        len = omega (arith, length_push (nodes_of ls) (shown_bare content), length_push ls (bare content), same.len);
        content = content_pushed;
        parent = λ n. push_same (λ x. x.parent) ls (bare content) nowhere n refl ∙ same.parent n ∙ sym (parent_pushed (nodes_of ls) content n);
        linked = record {
          ahead = λ c k h. let r = children_pushed (nodes_of ls) content c in rw r (ahead_pushed c _ ∙ same.linked.ahead c k (omega (arith, h, ap length r)));
          back = λ c k h. let r = children_pushed (nodes_of ls) content c in rw r (back_pushed c _ ∙ same.linked.back c k (omega (arith, h, ap length r)));
          alone = λ n said.
              let was : parent_at (nodes_of ls) n ≡ None = sym (parent_pushed (nodes_of ls) content n) ∙ said in
              (push_same (λ x. x.next) ls (bare content) nowhere n refl ∙ (same.linked.alone n was).0, push_same (λ x. x.previous) ls (bare content) nowhere n refl ∙ (same.linked.alone n was).1);
        };
      }

  pushed_lines : Counts (ls ++ bare content ∷ []) (nodes_of ls ++ shown_bare content ∷ [])
  pushed_lines c =
      push_same (λ n. n.lines) ls (bare content) nowhere c refl
      ∙ ok.lines c
      ∙ sym (ap (line_ends (nodes_of ls ++ shown_bare content ∷ [])) (children_pushed (nodes_of ls) content c)
      ∙ line_ends-like (nodes_of ls) (nodes_of ls ++ shown_bare content ∷ []) (children_at (nodes_of ls) c) (λ k h. ap (λ (n : tree.Node). n.content) (node_pushed (nodes_of ls) content _ (ok.tree.in_tree c k h))))

  pub pushed_stored : length ls < 2 ^ 32 - 1 → IsStored (ls ++ bare content ∷ [])
  pushed_stored fits = stored_by _ _ (IsTree-pushed (nodes_of ls) content ok.tree) pushed_agrees pushed_lines (omega (arith, fits, length_push ls (bare content)))

  pub pushed_adds : Adds (nodes_of ls) (nodes_of (ls ++ bare content ∷ [])) content
  pushed_adds = subst (λ (l : List tree.Node). Adds (nodes_of ls) l content) (sym (shown_is _ _ (IsTree-pushed (nodes_of ls) content ok.tree) pushed_agrees)) (Adds-pushed (nodes_of ls) content)

one_bare : {X Y : Type 0} (f : X → Y) (x d : X) (k : ℕ) → f x ≡ f d → f (get_or (x ∷ []) k d) ≡ f d
one_bare f x d zero e = e
one_bare f x d (suc k) e = refl

-- one bare root is a tree
module _ (content : Content) (said : content ≡ root) where
  abbrev alone : List LinkedNode
  alone = bare content ∷ []

  alone_row : (k : ℕ) → children_at (nodes_of alone) k ≡ []
  alone_row k = one_bare (λ n. n.children) (shown_bare content) tree.nowhere k refl

  alone_parent : (k : ℕ) → parent_at (nodes_of alone) k ≡ None
  alone_parent k = one_bare (λ n. n.parent) (shown_bare content) tree.nowhere k refl

  pub alone_stored : IsStored alone
  alone_stored = record {
    tree = IsTree-from (nodes_of alone) (λ k. 0) (record {
      first = omega arith;
      root_first = said;
      root_alone = refl;
      leaf = λ n h. alone_row n;
      in_tree = λ c k h. absurd (omega (arith, ap length (alone_row c)));
      named = λ c k h. absurd (omega (arith, ap length (alone_row c)));
      placed = λ c k h. absurd (omega (arith, ap length (alone_row c)));
      within = λ n c e. let wrong : None ≡ Some c = sym (alone_parent n) ∙ e in cc;
      found = λ n c e. let wrong : None ≡ Some c = sym (alone_parent n) ∙ e in cc;
      alone = λ n e. refl;
      rooted = λ n. top (alone_parent n);
    });
    linked = record {
      ahead = λ c k h. let r = alone_row c in let first : k ≡ 0 = omega (arith, h, ap length r) in rw (r, first) (one_bare (λ n. n.first) (bare content) nowhere c refl);
      back = λ c k h. let r = alone_row c in let first : k ≡ 0 = omega (arith, h, ap length r) in rw (r, first) (one_bare (λ n. n.last) (bare content) nowhere c refl);
      alone = λ n e. (one_bare (λ x. x.next) (bare content) nowhere n refl, one_bare (λ x. x.previous) (bare content) nowhere n refl);
    };
    lines = λ c. let r = alone_row c in rw r (one_bare (λ n. n.lines) (bare content) nowhere c refl);
    few = omega arith;
  }

-- a leaf that becomes another
module _ (ls : List LinkedNode) (ok : IsStored ls) (n : ℕ) (content : Content) (there : n < length ls) (leaf : is_container_at (nodes_of ls) n ≡ false) where
  abbrev leaf_now : LinkedNode
  leaf_now = record (link_at ls n) { content = content }

  abbrev other_leaf : List LinkedNode
  other_leaf = leaf_set ls n content

  abbrev changed_leaf : List tree.Node
  changed_leaf = content_set (nodes_of ls) n content

  becomes : LeafBecomes (nodes_of ls) changed_leaf n content
  becomes = LeafBecomes-set (nodes_of ls) changed_leaf n content (omega (arith, length_shown ls)) refl

  changed_tree : IsTree changed_leaf
  changed_tree =
      IsTree-from changed_leaf (place_at (nodes_of ls))
      (IsTreeBy-same (nodes_of ls) changed_leaf (place_at (nodes_of ls)) (place_at (nodes_of ls))
      (omega (arith, becomes.len)) becomes.children becomes.parent (λ k. refl)
      (elim (cases_eq 0 n) [
        | inl is ↦ let wrong : false ≡ true = sym leaf ∙ ap (is_container_at (nodes_of ls)) (sym is) ∙ ap is_container ok.tree.root_first in absurd (false≢true wrong)
        | inr ne ↦ becomes.others 0 ne ∙ ok.tree.root_first
      ])
      (λ k h. ok.tree.leaf k (elim (cases_eq k n) [
        | inl is ↦ ap (is_container_at (nodes_of ls)) is ∙ leaf
        | inr ne ↦ ap is_container (sym (becomes.others k ne)) ∙ h
      ]))
      ok.tree)

  field_kept : {X : Type 0} (f : LinkedNode → X) (k : ℕ) → f leaf_now ≡ f (link_at ls n) → f (link_at other_leaf k) ≡ f (link_at ls k)
  field_kept f k same = kept f ls n k leaf_now same

  ahead_kept : (c : ℕ) (o : Option ℕ) → ahead_at other_leaf c o ≡ ahead_at ls c o
  ahead_kept c None = field_kept (λ x. x.first) c refl
  ahead_kept c (Some m) = field_kept (λ x. x.next) m refl

  back_kept : (c : ℕ) (o : Option ℕ) → back_at other_leaf c o ≡ back_at ls c o
  back_kept c None = field_kept (λ x. x.last) c refl
  back_kept c (Some m) = field_kept (λ x. x.previous) m refl

  other_agrees : Agrees other_leaf changed_leaf
  other_agrees =
      let same = agrees ls ok in
      record {
        len = length-set ls n _ ∙ same.len ∙ sym becomes.len;
        content = λ k h. elim (cases_eq k n) [
          | inl is ↦
              ap (λ m. (link_at other_leaf m).content) is
              ∙ ap (λ (x : LinkedNode). x.content) (get_or-set_same ls n leaf_now nowhere there)
              ∙ sym becomes.content ∙ ap (content_at changed_leaf) (sym is)
          | inr ne ↦
              ap (λ (x : LinkedNode). x.content) (get_or-set_other ls n k leaf_now nowhere ne)
              ∙ same.content k (omega (arith, becomes.len)) ∙ sym (becomes.others k ne)
        ];
        parent = λ k. field_kept (λ x. x.parent) k refl ∙ same.parent k ∙ sym (becomes.parent k);
        linked = record {
          ahead = λ c k h. let r = becomes.children c in rw r (ahead_kept c _ ∙ same.linked.ahead c k (omega (arith, h, ap length r)));
          back = λ c k h. let r = becomes.children c in rw r (back_kept c _ ∙ same.linked.back c k (omega (arith, h, ap length r)));
          alone = λ k e.
              let was : parent_at (nodes_of ls) k ≡ None = sym (becomes.parent k) ∙ e in
              (field_kept (λ x. x.next) k refl ∙ (same.linked.alone k was).0, field_kept (λ x. x.previous) k refl ∙ (same.linked.alone k was).1);
        };
      }

  counts_kept : Counts other_leaf (nodes_of ls)
  counts_kept c = field_kept (λ x. x.lines) c refl ∙ ok.lines c

  stored_alone : parent_at (nodes_of ls) n ≡ None → IsStored other_leaf
  stored_alone alone =
      stored_by _ _ changed_tree other_agrees
      (counts_alone other_leaf (nodes_of ls) changed_leaf ok.tree 0 0 n (omega (arith, ok.tree.first, length_shown ls, length-set ls n leaf_now)) becomes.children becomes.others counts_kept alone)
      (omega (arith, ok.few, length-set ls n leaf_now))

  -- where it has no parent
  pub leaf_alone : parent_at (nodes_of ls) n ≡ None → IsStored other_leaf × LeafBecomes (nodes_of ls) (nodes_of other_leaf) n content
  leaf_alone alone = (stored_alone alone, subst (λ (l : List tree.Node). LeafBecomes (nodes_of ls) l n content) (sym (shown_is _ _ changed_tree other_agrees)) becomes)

  module _ (c : ℕ) (said : parent_at (nodes_of ls) n ≡ Some c) where
    stood : slice_get (children_at (nodes_of ls) c) (place_at (nodes_of ls) n) ≡ Some n
    stood = (in_row (nodes_of ls) ok.tree n c said).2

    pub parent_there : c < length other_leaf
    parent_there = omega (arith, (in_row (nodes_of ls) ok.tree n c said).0, length_shown ls, length-set ls n leaf_now)

    module _ (was is : Bool) (was_is : was ≡ is_newline (link_at ls n).content) (is_is : is ≡ is_newline content) where
      was_at : was ≡ is_newline_at (nodes_of ls) n
      was_at = was_is ∙ ap is_newline (content_shown ls n there)

      is_at : is ≡ is_newline_at changed_leaf n
      is_at = is_is ∙ ap is_newline (sym becomes.content)

      pub was_counted : was ≡ true → 1 ≤ (link_at other_leaf c).lines
      was_counted h = omega (arith, counted other_leaf (nodes_of ls) changed_leaf ok.tree c (place_at (nodes_of ls) n) n parent_there becomes.children becomes.others counts_kept stood, ap one_if (sym was_at ∙ h))

      pub few_counted : (link_at (counted_out other_leaf c was) c).lines + 1 < 2 ^ 32
      few_counted =
          omega (arith, lines_here other_leaf c ((link_at other_leaf c).lines - one_if was) parent_there, counts_kept c, line_ends-short (nodes_of ls) (children_at (nodes_of ls) c), row_shorter (nodes_of ls) ok.tree c, length_shown ls, ok.few)

      both_counted : Agrees (counted_in (counted_out other_leaf c was) c is) changed_leaf
      both_counted = counted_agrees (counted_out other_leaf c was) c _ changed_leaf (counted_agrees other_leaf c _ changed_leaf other_agrees)

      -- where it stands in a row
      pub leaf_counted : IsStored (counted_in (counted_out other_leaf c was) c is) × LeafBecomes (nodes_of ls) (nodes_of (counted_in (counted_out other_leaf c was) c is)) n content
      leaf_counted = (
        stored_by _ _ changed_tree both_counted
            (rw (was_at, is_at) (counts_changed other_leaf (nodes_of ls) changed_leaf ok.tree c (place_at (nodes_of ls) n) n parent_there becomes.children becomes.others counts_kept stood))
            (omega (arith, ok.few, both_counted.len, becomes.len, length_shown ls)),
        subst (λ (l : List tree.Node). LeafBecomes (nodes_of ls) l n content) (sym (shown_is _ _ changed_tree both_counted)) becomes,
      )

-- the gap at the end of a row
module _ (ls : List LinkedNode) (ok : IsStored ls) where
  pub end_gap : (c : ℕ) (last : Option ℕ) → last ≡ (link_at ls c).last → IsGap (nodes_of ls) c (length (children_at (nodes_of ls) c)) last None
  end_gap c last is =
      let row : List ℕ = children_at (nodes_of ls) c in
      let past : slice_get row (length row) ≡ None = slice_get_past row (length row) (omega arith) in
      record {
        inside = omega arith;
        front = is ∙ ap (back_at ls c) (sym past) ∙ ok.linked.back c (length row) (omega arith);
        back = sym past;
      }

-- what holds of a list and of another holds of either
pub either_stored : (b : Bool) (ls ms : List LinkedNode) → IsStored ls → IsStored ms → IsStored (if b then ls else ms)
either_stored true ls ms s t = s
either_stored false ls ms s t = t
