-- The leaves before what comes end before that.
use Rattle.std.proofs.Common.{◌≡◌, ◌⊎◌, ◌∙◌, ℕ, Bool, true, false, not, ◌&&◌, cond, inl, inr, List, [], ◌∷◌, ◌++◌, Option, Some, None, IsTrue, reverse, refl, sym, ap, subst, rules, chars, if◌then◌else◌}
use Rattle.std.specs.List.{list_all, take_while}
use Rattle.std.proofs.lemmas.Bool.{cases_Bool}
use Rattle.std.proofs.lemmas.List.{reverse-append}
use Rattle.std.proofs.lemmas.List.Sums.{take_while-cons}
use Rattle.std.proofs.lemmas.Str.{chars-IsAscii}
use Rattle.jsonc_text.specs.Options.{Options}
use Rattle.jsonc_text.specs.Text.{next, starts}
use Rattle.jsonc_text.specs.Words.{EndsWord}
use Rattle.jsonc_text.proofs.Basics.{and_both}
use Rattle.jsonc_tree.specs.Content.{Content, is_container, whitespace, newline}
use Rattle.jsonc_tree.specs.OrderedTree.{OrderedTree, none, own_leaf, leaves, followed_by, Shows, shows_none, shows_more}
use Rattle.jsonc_tree.specs.Tree.{Node, content_at, children_at, IsTree}
use Rattle.jsonc_tree.specs.declared.node.CstNewlineKind.{CstNewlineKind}
use Rattle.jsonc_tree.specs.declared.node.CstNewlineKind.TheVariants.{LineFeed, CarriageReturnLineFeed, CarriageReturn}
use Rattle.jsonc_tree.proofs.OrderedTrees.{leaves-followed_by}
use Rattle.jsonc_tree.proofs.Rows.{Shows-part}
use Rattle.jsonc_layout.specs.nodes.Kinds.{is_newline_at, is_whitespace, is_whitespace_at}
use Rattle.jsonc_layout.specs.nodes.Siblings.{is_no_newline_at}
use Rattle.jsonc_sound.specs.Adjacent.{first_char, follower, last_printed, or_else, LastEnds, LeavesEnd, MayEndBefore}
use Rattle.jsonc_sound.proofs.Comments.{kind_moved}
use Rattle.jsonc_sound.proofs.Leaves.{parted_leaves}
use Rattle.jsonc_sound.proofs.Spaced.{space_first}
use Rattle.jsonc_sound.proofs.Spaces.{Ends, last_append, last_of, own_last, serves_unless}
use Rattle.jsonc_edit.specs.Put.{a_space}
use Rattle.jsonc_edit.proofs.Printing.{unkept_prints}
use Rattle.jsonc_edit.proofs.LeafKinds.{newline_is}

-- what ends each literal and each word ends what ended before something
word_or_not : (o : Options) (x : Option Content) (n m : Option ℕ) → Ends m → EndsWord m → MayEndBefore o x n → MayEndBefore o x m
word_or_not o (Some (Content.word s)) n m e w h = (h.0, h.1, h.2, kind_moved h.0 (chars s) n m e (λ k. w) h.3)
word_or_not o x n m e w h = serves_unless o x n m tt (λ b. e) h

pub all_end : (o : Options) (front back : List Content) (m : Option ℕ) → Ends m → EndsWord m → LeavesEnd o (front ++ back) None → LastEnds o front m
all_end o front back m e w l = word_or_not o (last_printed front) (follower back None) m e w (last_of o front (follower back None) (parted_leaves o front back None l).0)

newline_ends : (k : CstNewlineKind) (n : Option ℕ) → Ends (or_else (first_char (newline k)) n) × EndsWord (or_else (first_char (newline k)) n)
newline_ends LineFeed n = subst (λ t. Ends (or_else (next t) n) × EndsWord (or_else (next t) n)) (sym (chars-IsAscii (10 ∷ []) (search rules))) (refl, refl)
newline_ends CarriageReturnLineFeed n = subst (λ t. Ends (or_else (next t) n) × EndsWord (or_else (next t) n)) (sym (chars-IsAscii (13 ∷ 10 ∷ []) (search rules))) (refl, refl)
newline_ends CarriageReturn n = subst (λ t. Ends (or_else (next t) n) × EndsWord (or_else (next t) n)) (sym (chars-IsAscii (13 ∷ []) (search rules))) (refl, refl)

-- so a line's end does, and a space
pub newline_first : (o : Options) (k : CstNewlineKind) (contents front back : List Content) → LeavesEnd o (front ++ back) None → LastEnds o front (follower (newline k ∷ (contents ++ back)) None)
newline_first o k contents front back l = let e = newline_ends k (follower (contents ++ back) None) in all_end o front back (follower (newline k ∷ (contents ++ back)) None) e.0 e.1 l

pub space_before : (o : Options) (contents front back : List Content) → LeavesEnd o (front ++ back) None → LastEnds o front (follower (a_space ∷ (contents ++ back)) None)
space_before o contents front back l = subst (LastEnds o front) (sym (ap (λ x. or_else x (follower (contents ++ back) None)) space_first)) (all_end o front back (Some 0x20) refl refl l)

-- whitespace or a line's end is printed last
abbrev pub Calm : Option Content → Type 0
Calm (Some (Content.whitespace s)) = Unit {0}
Calm (Some (Content.newline k)) = Unit {0}
Calm _ = ⊥

calm_ends : (o : Options) (x : Option Content) (m : Option ℕ) → Calm x → MayEndBefore o x m
calm_ends o (Some (Content.whitespace s)) m h = tt
calm_ends o (Some (Content.newline k)) m h = tt
calm_ends o (Some content) m h = absurd h
calm_ends o None m h = absurd h

calm_first : (x y : Option Content) → Calm x → Calm (or_else x y)
calm_first (Some content) y h = h
calm_first None y h = absurd h

pub calm_behind : (o : Options) (front row : List Content) (m : Option ℕ) → Calm (last_printed row) → LastEnds o (front ++ row) m
calm_behind o front row m h =
    subst (λ x. MayEndBefore o x m) (sym (last_append front row)) (calm_ends o (or_else (last_printed row) (last_printed front)) m (calm_first (last_printed row) (last_printed front) h))

pub none_last : (o : Options) (row : List Content) (m : Option ℕ) → last_printed row ≡ None → LastEnds o row m
none_last o row m e = subst (λ x. MayEndBefore o x m) (sym e) tt

blank_kind : (content : Content) → is_whitespace content ≡ true → (s : List ℕ) × (content ≡ whitespace s)
blank_kind (Content.whitespace s) h = (s, refl)
blank_kind content h = cc

module _ (ns : List Node) (tree : IsTree ns) where
  -- Of the nodes nearest before a place nothing but whitespace stands up to a newline: whitespace or that is printed last,
  -- or nothing is printed and all are whitespace.
  abbrev pub Quiet : List ℕ → OrderedTree → Type 0
  Quiet xs f = Calm (last_printed (leaves f)) ⊎ ((last_printed (leaves f) ≡ None) × IsTrue (list_all (is_whitespace_at ns) xs))

  one_leaf : (x : ℕ) (t : OrderedTree) → children_at ns x ≡ [] → own_leaf (content_at ns x) ≡ content_at ns x ∷ [] → Shows ns (x ∷ []) t → leaves t ≡ content_at ns x ∷ []
  one_leaf x _ bare own (shows_more {below = below} {after = after} p q) =
      ap (λ b. own_leaf (content_at ns x) ++ (leaves b ++ leaves after)) (empty (subst (λ (l : List ℕ). Shows ns l below) bare p)) ∙ ap (λ a. own_leaf (content_at ns x) ++ leaves a) (empty q) ∙ ap (λ l. l ++ []) own
    where
      empty : {b : OrderedTree} → Shows ns [] b → b ≡ none
      empty shows_none = refl

  module _ (x : ℕ) (rest : List ℕ) (f : OrderedTree) (shown : Shows ns (reverse (x ∷ rest)) f) where
    abbrev w : Content
    w = content_at ns x

    parts : (a : OrderedTree) × (b : OrderedTree) × (f ≡ followed_by a b) × Shows ns (reverse rest) a × Shows ns (x ∷ []) b
    parts = Shows-part ns (reverse rest) (x ∷ []) f (subst (λ (l : List ℕ). Shows ns l f) (reverse-append (x ∷ []) rest) shown)

    module _ (bare : children_at ns x ≡ []) (own : own_leaf w ≡ w ∷ []) where
      last_is : last_printed (leaves f) ≡ or_else (own_last w) (last_printed (leaves parts.0))
      last_is =
          ap (λ t. last_printed (leaves t)) parts.2 ∙ ap last_printed (leaves-followed_by parts.0 parts.1) ∙ ap (λ l. last_printed (leaves parts.0 ++ l)) (one_leaf x parts.1 bare own parts.4)
          ∙ last_append (leaves parts.0) (w ∷ [])

      calm_here : Calm (Some w) → own_last w ≡ Some w → Calm (last_printed (leaves f))
      calm_here h e = subst Calm (sym (last_is ∙ ap (λ y. or_else y (last_printed (leaves parts.0))) e)) h

      quiet_on : IsTrue (is_whitespace_at ns x) → own_last w ≡ None → Quiet rest parts.0 → Quiet (x ∷ rest) f
      quiet_on h e (inl calm) = inl (subst Calm (sym (last_is ∙ ap (λ y. or_else y (last_printed (leaves parts.0))) e)) calm)
      quiet_on h e (inr q) = inr (last_is ∙ ap (λ y. or_else y (last_printed (leaves parts.0))) e ∙ q.0, ap (λ b. b && list_all (is_whitespace_at ns) rest) h ∙ q.1)

  printed_first : (w : Content) (b : Bool) → starts (λ c. true) (first_char w) ≡ b → own_last w ≡ (if b then Some w else None)
  printed_first w b e = ap (λ c. if c then Some w else None) e

  pub quiet : (xs : List ℕ) → IsTrue (list_all (is_whitespace_at ns) (take_while (is_no_newline_at ns) xs)) → (f : OrderedTree) → Shows ns (reverse xs) f → Quiet xs f
  quiet [] h f shown = inr (nothing shown, refl)
    where
      nothing : {t : OrderedTree} → Shows ns [] t → last_printed (leaves t) ≡ None
      nothing shows_none = refl
  quiet (x ∷ rest) h f shown =
      elim (cases_Bool (is_newline_at ns x)) [
        | inl line ↦ a_line (newline_is (content_at ns x) line)
        | inr other ↦ no_line (both other) (λ h. quiet rest h (parts x rest f shown).0 (parts x rest f shown).3)
      ]
    where
      a_line : (k : CstNewlineKind) × (content_at ns x ≡ newline k) → Quiet (x ∷ rest) f
      a_line (k, e) =
          inl (calm_here x rest f shown (tree.leaf x (ap is_container e)) (subst (λ w. own_leaf w ≡ w ∷ []) (sym e) refl) (subst (λ w. Calm (Some w)) (sym e) tt)
          (subst (λ w. own_last w ≡ Some w) (sym e) (printed_first (newline k) true (unkept_prints (newline k) refl))))

      both : is_newline_at ns x ≡ false → IsTrue (is_whitespace_at ns x) × IsTrue (list_all (is_whitespace_at ns) (take_while (is_no_newline_at ns) rest))
      both other =
          let taken : take_while (is_no_newline_at ns) (x ∷ rest) ≡ x ∷ take_while (is_no_newline_at ns) rest = take_while-cons (is_no_newline_at ns) x rest ∙ ap (λ b. cond (not b) (x ∷ take_while (is_no_newline_at ns) rest) []) other in
          and_both (is_whitespace_at ns x) (list_all (is_whitespace_at ns) (take_while (is_no_newline_at ns) rest)) (subst (λ (l : List ℕ). IsTrue (list_all (is_whitespace_at ns) l)) taken h)

      by_text : (s : List ℕ) → content_at ns x ≡ whitespace s → IsTrue (is_whitespace_at ns x) → Quiet rest (parts x rest f shown).0 → Quiet (x ∷ rest) f
      by_text s e h further =
          let bare : children_at ns x ≡ [] = tree.leaf x (ap is_container e) in
          let own : own_leaf (content_at ns x) ≡ content_at ns x ∷ [] = subst (λ w. own_leaf w ≡ w ∷ []) (sym e) refl in
          elim (cases_Bool (starts (λ c. true) (first_char (content_at ns x)))) [
            | inl printed ↦ inl (calm_here x rest f shown bare own (subst (λ w. Calm (Some w)) (sym e) tt) (printed_first (content_at ns x) true printed))
            | inr empty ↦ quiet_on x rest f shown bare own h (printed_first (content_at ns x) false empty) further
          ]

      no_line : IsTrue (is_whitespace_at ns x) × IsTrue (list_all (is_whitespace_at ns) (take_while (is_no_newline_at ns) rest))
          → (IsTrue (list_all (is_whitespace_at ns) (take_while (is_no_newline_at ns) rest)) → Quiet rest (parts x rest f shown).0) → Quiet (x ∷ rest) f
      no_line (h, more_blank) further = let k = blank_kind (content_at ns x) h in by_text k.0 k.1 h (further more_blank)
