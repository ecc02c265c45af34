-- Where an entry leaves a sound tree, no blank and no comment stays directly before its place on the line.
use Rattle.std.proofs.Common.{ℕ, ◌≡◌, ◌∙◌, ◌⊎◌, inl, inr, sym, ap, subst, refl, Bool, true, false, not, ◌||◌, ◌&&◌, ◌==◌, List, [], ◌∷◌, ◌++◌, IsTrue, chars}
use Rattle.std.proofs.lemmas.List.{append_assoc}
use Rattle.std.proofs.lemmas.Str.{chars-nil}
use Rattle.jsonc_text.specs.Options.{Options}
use Rattle.jsonc_text.specs.Text.{is_line_end}
use Rattle.jsonc_text.specs.Gaps.{is_blank}
use Rattle.jsonc_text.proofs.Basics.{clash}
use Rattle.jsonc_tree.specs.Content as content
use Rattle.jsonc_tree.specs.Content.{Content, newline_text, text_of}
use Rattle.jsonc_tree.specs.declared.node.CstNewlineKind.{CstNewlineKind}
use Rattle.jsonc_tree.specs.declared.node.CstNewlineKind.TheVariants.{LineFeed, CarriageReturnLineFeed, CarriageReturn}
use Rattle.jsonc_tree.specs.OrderedTree.{OrderedTree, none, more, own_leaf, leaves, followed_by}
use Rattle.jsonc_layout.specs.nodes.Kinds.{is_inline_trivia, is_trivia}
use Rattle.jsonc_sound.specs.Alone as alone
use Rattle.jsonc_sound.specs.Alone.{RootAlone, StretchAlone}
use Rattle.jsonc_sound.specs.Leaving.{ends_apart}
use Rattle.jsonc_sound.specs.Rows.{RowKind, Last}
use Rattle.jsonc_sound.specs.Shape.{token_then}
use Rattle.jsonc_sound.specs.Spaces as trees
use Rattle.jsonc_sound.proofs.Pieces.{Piece}
use Rattle.jsonc_sound.proofs.Texts.{trivia_leaf}
use Rattle.jsonc_edit.proofs.BeforeComments.{Firm, alone_firm, part_firm}
use Rattle.jsonc_run.specs.texts.Leaving.{EndsBeside}
use Rattle.jsonc_run.specs.texts.Stretches.{is_space}
use Rattle.jsonc_run.specs.promise.PlaceLaws.{text_of_leaves}
use Rattle.jsonc_run.proofs.lemmas.promise.Bare.{AllSpelled, EndsBare, spelled_second}
use Rattle.jsonc_run.proofs.lemmas.promise.Joined.{Good, good_second}
use Rattle.jsonc_run.proofs.lemmas.promise.LeafEnds.{LastIs, no_gap_there, last_also, last_behind, last_is, leaf_last, text_last}
use Rattle.jsonc_run.proofs.lemmas.promise.Trivia.{newline_chars}

-- the last of the leaves is neither whitespace nor a comment
abbrev pub Apart : List Content → Type 0
Apart ls = (front : List Content) × (leaf : Content) × (ls ≡ front ++ leaf ∷ []) × (is_inline_trivia leaf ≡ false)

pub apart_behind : (first second : List Content) → Apart second → Apart (first ++ second)
apart_behind first second (front, leaf, is, h) = (first ++ front, leaf, ap (λ l. first ++ l) is ∙ sym (append_assoc first front (leaf ∷ [])), h)

firm_apart : {ls : List Content} → Firm ls → Apart ls
firm_apart (front, leaf, is, h) = (front, leaf, is, by leaf h)
  where
    by : (leaf : Content) → is_trivia leaf ≡ false → is_inline_trivia leaf ≡ false
    by (content.whitespace s) k = cc
    by (content.newline n) k = refl
    by (content.comment s) k = cc
    by leaf k = refl

off : (b : Bool) → IsTrue (not b) → b ≡ false
off true h = cc
off false h = refl

module _ (o : Options) {kind : RowKind} where
  last_apart : {l to : Last} {c : Content} {below : OrderedTree} → StretchAlone o kind l (more c below none) to → IsTrue (ends_apart (more c below none)) → Apart (leaves (more c below none))
  last_apart (alone.past_trivia {content = c} h g) e = subst (λ l. Apart (l ++ [])) (sym (trivia_leaf o c h)) ([], c, refl, off (is_inline_trivia c) e)
  last_apart (alone.past_element {content = c} {below = below} m p g) e = firm_apart (alone_firm o c below (part_firm o p))
  last_apart (alone.past_comma g) e = ([], content.token 0x2C, refl, refl)

  next : {l to : Last} {c : Content} {below after : OrderedTree} → StretchAlone o kind l (more c below after) to → (mid : Last) × StretchAlone o kind mid after to
  next {l = l} (alone.past_trivia h g) = (l, g)
  next (alone.past_element m p g) = (_, g)
  next (alone.past_comma g) = (_, g)

  stretch_apart : (c : Content) (below after : OrderedTree) {l to : Last} → StretchAlone o kind l (more c below after) to → IsTrue (ends_apart (more c below after)) → Apart (leaves (more c below after))
  stretch_apart c below none g e = last_apart g e
  stretch_apart c below (more d b a) g e =
      let n = next g in
      apart_behind (own_leaf c) (leaves below ++ leaves (more d b a)) (apart_behind (leaves below) (leaves (more d b a)) (stretch_apart d b a n.1 e))

  -- so a token and such a stretch
  pub token_apart : (c : ℕ) (row : OrderedTree) {l to : Last} → StretchAlone o kind l row to → IsTrue (ends_apart (token_then c row)) → Apart (content.token c ∷ leaves row)
  token_apart c none g e = ([], content.token c, refl, refl)
  token_apart c (more d b a) g e = apart_behind (content.token c ∷ []) (leaves (more d b a)) (stretch_apart d b a g e)

-- and what stands before the document's value
module _ (o : Options) where
  root_some : {stood : Bool} (c : Content) (below after rest : OrderedTree) → RootAlone o stood (more c below (followed_by after rest)) → IsTrue (ends_apart (more c below after)) → Apart (leaves (more c below after))
  root_some c _ none rest (alone.root_trivia h g) e = subst (λ l. Apart (l ++ [])) (sym (trivia_leaf o c h)) ([], c, refl, off (is_inline_trivia c) e)
  root_some c below none rest (alone.root_value v g) e = firm_apart (alone_firm o c below (part_firm o (alone.a_value v)))
  root_some c _ (more d b a) rest (alone.root_trivia h g) e = apart_behind (own_leaf c) (leaves (more d b a)) (root_some d b a rest g e)
  root_some c below (more d b a) rest (alone.root_value v g) e = apart_behind (own_leaf c) (leaves below ++ leaves (more d b a)) (apart_behind (leaves below) (leaves (more d b a)) (root_some d b a rest g e))

  pub root_apart : {stood : Bool} (front rest : OrderedTree) → RootAlone o stood (followed_by front rest) → IsTrue (ends_apart front) → (leaves front ≡ []) ⊎ Apart (leaves front)
  root_apart none rest g e = inl refl
  root_apart (more c below after) rest g e = inr (root_some c below after rest g e)

pub with_token : (c : ℕ) (row : OrderedTree) → IsTrue (ends_apart row) → IsTrue (ends_apart (token_then c row))
with_token c none e = refl
with_token c (more d b a) e = e

-- a character that ends neither
abbrev pub apart_there : ℕ → Bool
apart_there c = not (is_space c || c == 0x2F)

pub gap_apart : (c : ℕ) → IsTrue (no_gap_there c) → IsTrue (apart_there c)
gap_apart c h = by (is_blank c) (c == 0x2F) (not (is_line_end c)) h
  where
    by : (a b d : Bool) → IsTrue (not (a || b)) → IsTrue (not ((a && d) || b))
    by true b d k = cc
    by false b d k = k

newline_last : (k : CstNewlineKind) → LastIs apart_there (newline_text k)
newline_last LineFeed = ([], 0x0A, refl, refl)
newline_last CarriageReturnLineFeed = (0x0D ∷ [], 0x0A, refl, refl)
newline_last CarriageReturn = ([], 0x0D, refl, refl)

module _ (o : Options) where
  apart_last : (leaf : Content) → Piece o leaf → is_inline_trivia leaf ≡ false → (trees.is_bare leaf ≡ true → EndsBare (chars (text_of leaf))) → LastIs apart_there (chars (text_of leaf))
  apart_last leaf p h bare = by (is_trivia leaf) refl
    where
      end_last : (leaf : Content) → is_trivia leaf ≡ true → is_inline_trivia leaf ≡ false → LastIs apart_there (chars (text_of leaf))
      end_last (content.newline k) t e = subst (LastIs apart_there) (sym (newline_chars k)) (newline_last k)
      end_last (content.whitespace s) t e = cc
      end_last (content.comment s) t e = cc
      end_last leaf t e = cc

      by : (b : Bool) → is_trivia leaf ≡ b → LastIs apart_there (chars (text_of leaf))
      by true t = end_last leaf t h
      by false t = last_also no_gap_there apart_there gap_apart (leaf_last o leaf p t bare)

  pub nothing_beside : (ls : List Content) → Good o ls → AllSpelled ls → Apart ls → EndsBeside (text_of_leaves ls) → ⊥
  nothing_beside ls good words (f, leaf, e, h) (t, c, is, beside) =
      let own : Good o (f ++ leaf ∷ []) = subst (Good o) e good in
      let bare = (spelled_second f (leaf ∷ []) (subst AllSpelled e words)).0 in
      let ends = apart_last leaf (good_second o f (leaf ∷ []) own).pieces.0 h (λ b. (bare b).ends) in
      let last : LastIs apart_there (text_of_leaves ls) = subst (LastIs apart_there) (sym (ap text_of_leaves e ∙ text_last o f leaf own)) (last_behind (text_of_leaves f) ends) in
      clash (is_space c || c == 0x2F) (last_is apart_there last t c is) beside

  pub none_beside : (ls : List Content) → Good o ls → AllSpelled ls → (ls ≡ []) ⊎ Apart ls → EndsBeside (text_of_leaves ls) → ⊥
  none_beside ls good words (inr h) beside = nothing_beside ls good words h beside
  none_beside ls good words (inl e) (t, c, is, beside) = never t c (sym (ap text_of_leaves e ∙ chars-nil) ∙ is)
    where
      never : (t : List ℕ) (c : ℕ) → [] ≡ t ++ c ∷ [] → ⊥
      never [] c e = cc
      never (d ∷ t) c e = cc
