-- An array or object of a sound document: its brackets, and the row between them.
use Rattle.std.proofs.Common.{◌≡◌, ℕ, List, [], ◌∷◌, ◌++◌, length, IsTrue, refl, ap, subst, ◌∙◌, ◌<◌}
use Rattle.jsonc_text.specs.Options.{Options}
use Rattle.jsonc_tree.specs.Content.{Content, token}
use Rattle.jsonc_tree.specs.OrderedTree.{OrderedTree, none, more, Shows, shows_none, shows_more, ordered_tree}
use Rattle.jsonc_tree.specs.Tree.{Node, content_at, children_at, IsTree}
use Rattle.jsonc_layout.specs.lines.Kinds.{is_array_or_object}
use Rattle.jsonc_sound.specs.Rows.{RowKind, opening, closing, Last}
use Rattle.jsonc_sound.specs.Alone as alone
use Rattle.jsonc_sound.specs.Alone.{RowAlone}
use Rattle.jsonc_sound.specs.SoundTrees.{SoundTree}
use Rattle.jsonc_edit.specs.Changes.{row_below}
use Rattle.jsonc_edit.specs.Paths.{IsAt}
use Rattle.jsonc_edit.proofs.ChangesUpward.{Shows-row_below}
use Rattle.jsonc_edit.proofs.lemmas.commas.Holders.{held, Held, value_at_path}

pub held_at : (o : Options) (ns : List Node) → IsTree ns → SoundTree o (ordered_tree ns 0) → (path : List ℕ) (c : ℕ) → IsAt ns path c → IsTrue (is_array_or_object (content_at ns c)) → Held o (content_at ns c) (row_below ns c)
held_at o ns tree sound path c at holds = held o holds (value_at_path o ns tree sound path c at)

-- the last of a row
pub data Ends (content : Content) : OrderedTree → Type 0 where
  at_end : Ends content (more content none none)
  behind : {first : Content} {below row : OrderedTree} → Ends content row → Ends content (more first below row)

row_ends : (o : Options) {kind : RowKind} {last : Last} {row : OrderedTree} → RowAlone o kind last row → Ends (token (closing kind)) row
row_ends o (alone.closes m) = at_end
row_ends o (alone.trivia h g) = behind (row_ends o g)
row_ends o (alone.element m p g) = behind (row_ends o g)
row_ends o (alone.comma g) = behind (row_ends o g)

pub record LastShown (ns : List Node) (xs : List ℕ) (content : Content) : Type 0 where
  pub front : List ℕ
  pub last : ℕ
  pub split : xs ≡ front ++ last ∷ []
  pub is : content_at ns last ≡ content

module _ (ns : List Node) where
  no_numbers : {xs : List ℕ} → Shows ns xs none → xs ≡ []
  no_numbers shows_none = refl

  last_shown : {xs : List ℕ} {content : Content} {row : OrderedTree} → Shows ns xs row → Ends content row → LastShown ns xs content
  last_shown shows_none e = elim e [ ]
  last_shown (shows_more {n = n} s r) at_end = record { front = []; last = n; split = ap (λ (l : List ℕ). n ∷ l) (no_numbers r); is = refl }
  last_shown (shows_more {n = n} s r) (behind e) = let l = last_shown r e in record { front = n ∷ l.front; last = l.last; split = ap (λ (k : List ℕ). n ∷ k) l.split; is = l.is }

  pub record FirstShown (xs : List ℕ) (content : Content) (below after : OrderedTree) : Type 0 where
    pub first : ℕ
    pub rest : List ℕ
    pub split : xs ≡ first ∷ rest
    pub is : content_at ns first ≡ content
    pub under : Shows ns (children_at ns first) below
    pub shown : Shows ns rest after

  pub first_shown : {xs : List ℕ} {content : Content} {below after : OrderedTree} → Shows ns xs (more content below after) → FirstShown xs content below after
  first_shown (shows_more {n = n} {rest = rest} s r) = record { first = n; rest = rest; split = refl; is = refl; under = s; shown = r }

-- its children: a bracket, and those that stand for the row
pub record Brackets (o : Options) (ns : List Node) (c : ℕ) (kind : RowKind) (row : OrderedTree) : Type 0 where
  pub open_with : ℕ
  pub inner : List ℕ
  pub last : ℕ
  pub children : children_at ns c ≡ open_with ∷ (inner ++ last ∷ [])
  pub opens : content_at ns open_with ≡ token (opening kind)
  pub closes : content_at ns last ≡ token (closing kind)
  pub shown : Shows ns (inner ++ last ∷ []) row

pub brackets : (o : Options) (ns : List Node) (tree : IsTree ns) (c : ℕ) → c < length ns → (h : Held o (content_at ns c) (row_below ns c)) → Brackets o ns c h.kind h.row
brackets o ns tree c there h =
    let f : FirstShown ns (children_at ns c) (token (opening h.kind)) none h.row = first_shown ns (subst (Shows ns (children_at ns c)) h.under (Shows-row_below ns tree c there)) in
    let l : LastShown ns f.rest (token (closing h.kind)) = last_shown ns f.shown (row_ends o h.alone) in
    record {
      open_with = f.first;
      inner = l.front;
      last = l.last;
      children = f.split ∙ ap (λ (k : List ℕ). f.first ∷ k) l.split;
      opens = f.is;
      closes = l.is;
      shown = subst (λ (k : List ℕ). Shows ns k h.row) l.split f.shown;
    }
