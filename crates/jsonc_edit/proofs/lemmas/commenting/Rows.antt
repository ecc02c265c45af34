-- An entry of a sound document in its row: what stands before it, and behind it.
use Rattle.std.proofs.Common.{◌≡◌, ◌⊎◌, ◌∙◌, ℕ, suc, ◌+◌, ◌-◌, ◌<◌, ◌≤◌, ◌==◌, false, inl, inr, List, [], ◌∷◌, ◌++◌, length, take, slice_index, Some, None, IsTrue, sym, ap, subst, arith, length-append}
use Rattle.std.proofs.lemmas.Bool.{cases_lt}
use Rattle.std.proofs.Math.Seq.{get_or-append_seam}
use Rattle.jsonc_text.specs.Options.{Options}
use Rattle.jsonc_text.proofs.Basics.{or_cases, test_eq}
use Rattle.jsonc_tree.specs.Content.{Content, token}
use Rattle.jsonc_tree.specs.OrderedTree.{ordered_tree}
use Rattle.jsonc_tree.specs.Tree.{Node, content_at, children_at, parent_at, place_at, IsOver, IsTree}
use Rattle.jsonc_tree.proofs.Order.{over_step, parent_there}
use Rattle.jsonc_layout.specs.lines.Kinds.{is_array_or_object}
use Rattle.jsonc_layout.specs.nodes.Kinds.{is_element, is_whitespace, is_whitespace_at}
use Rattle.jsonc_sound.specs.Rows.{RowKind, closing, opening}
use Rattle.jsonc_sound.specs.SoundTrees.{SoundTree}
use Rattle.jsonc_edit.specs.commenting.Laws.{IsEntry}
use Rattle.jsonc_edit.specs.Changes.{row_below}
use Rattle.jsonc_edit.proofs.lemmas.commas.Holders.{holder_path, Held}
use Rattle.jsonc_edit.proofs.lemmas.remove.Containers.{held_at, Brackets, brackets}

-- the node is no bracket that closes a row
abbrev pub ClosesNone : Content → Type 0
ClosesNone content = (kind : RowKind) → content ≡ token (closing kind) → ⊥

-- nor one that opens one
abbrev pub OpensNone : Content → Type 0
OpensNone content = (kind : RowKind) → content ≡ token (opening kind) → ⊥

token_no_element : (c : ℕ) (content : Content) → IsTrue (is_element content) → content ≡ token c → ⊥
token_no_element c content h e = let wrong : IsTrue (is_element (token c)) = subst (λ w. IsTrue (is_element w)) e h in cc

pub element_closes : (content : Content) → IsTrue (is_element content) → ClosesNone content
element_closes content h kind e = token_no_element (closing kind) content h e

pub element_opens : (content : Content) → IsTrue (is_element content) → OpensNone content
element_opens content h kind e = token_no_element (opening kind) content h e

-- in an array or object
module _ (o : Options) (ns : List Node) (tree : IsTree ns) (sound : SoundTree o (ordered_tree ns 0)) (c : ℕ) (over : IsOver ns 0 c) (there : c < length ns) (holds : IsTrue (is_array_or_object (content_at ns c))) where
  abbrev kids : List ℕ
  kids = children_at ns c

  within : Held o (content_at ns c) (row_below ns c)
  within = let at = holder_path o ns tree sound c over holds in held_at o ns tree sound at.0 c at.1 holds

  b : Brackets o ns c within.kind within.row
  b = brackets o ns tree c there within

  pub behind_first : (m : ℕ) → parent_at ns m ≡ Some c → OpensNone (content_at ns m) → 0 < place_at ns m
  behind_first m said h =
      elim (cases_lt 0 (place_at ns m)) [
        | inl low ↦ low
        | inr none ↦ absurd (h within.kind (ap (content_at ns) (it none) ∙ b.opens))
      ]
    where
      it : (place_at ns m ≤ 0) → m ≡ b.open_with
      it none = sym (tree.found m c said) ∙ ap (slice_index kids) (omega (arith, none)) ∙ ap (λ (l : List ℕ). slice_index l 0) b.children

  count : length kids ≡ length b.inner + 2
  count = ap length b.children ∙ omega (arith, length-append b.inner (b.last ∷ []))

  pub before_last : (m : ℕ) → parent_at ns m ≡ Some c → ClosesNone (content_at ns m) → place_at ns m + 1 < length kids
  before_last m said h =
      elim (cases_lt (place_at ns m + 1) (length kids)) [
        | inl low ↦ low
        | inr high ↦ absurd (h within.kind (ap (content_at ns) (it high) ∙ b.closes))
      ]
    where
      last_place : (length kids ≤ place_at ns m + 1) → place_at ns m ≡ suc (length b.inner)
      last_place high = omega (arith, high, count, tree.within m c said)

      it : (length kids ≤ place_at ns m + 1) → m ≡ b.last
      it high =
          sym (tree.found m c said) ∙ ap (slice_index kids) (last_place high) ∙ ap (λ (l : List ℕ). slice_index l (suc (length b.inner))) b.children ∙ get_or-append_seam b.inner b.last [] 0

  -- what stands before a place behind the first begins with a bracket
  pub record Opened (k : ℕ) : Type 0 where
    pub open_with : ℕ
    pub rest : List ℕ
    pub is : take k kids ≡ open_with ∷ rest
    pub no_blank : is_whitespace_at ns open_with ≡ false

  pub opened : (k : ℕ) → 0 < k → Opened k
  opened k low = record {
    open_with = b.open_with;
    rest = take (k - 1) (b.inner ++ b.last ∷ []);
    is = ap (λ (l : List ℕ). take k l) b.children ∙ ap (λ j. take j (b.open_with ∷ (b.inner ++ b.last ∷ []))) (one k low);
    no_blank = ap is_whitespace b.opens;
  }
    where
      one : (j : ℕ) → 0 < j → j ≡ suc (j - 1)
      one j h = omega (arith, h)

-- where an entry stands
module _ (ns : List Node) (tree : IsTree ns) (n : ℕ) (e : IsEntry ns n) where
  pub entry_there : (n < length ns) × (e.container < length ns)
  entry_there = parent_there ns tree n e.container e.parent

  pub container_over : IsOver ns 0 e.container
  container_over = over_step ns tree 0 n e.container e.below (λ same. (let wrong : Some e.container ≡ None = sym e.parent ∙ ap (parent_at ns) same ∙ tree.root_alone in cc)) e.parent

  pub container_is : (e.container ≡ 0) ⊎ IsTrue (is_array_or_object (content_at ns e.container))
  container_is =
      elim (or_cases (e.container == 0) (is_array_or_object (content_at ns e.container)) e.holds) [
        | inl h ↦ inl (test_eq e.container 0 h)
        | inr h ↦ inr h
      ]
