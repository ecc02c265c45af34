-- A row in which ends of lines come and whitespace leaves: what stays, and that it stays sound.
use Rattle.std.proofs.Common.{◌≡◌, ◌⊎◌, ◌∙◌, ℕ, sym, ap, subst, refl, rules, Bool, true, inl, inr, List, [], ◌∷◌, ◌++◌, Option, Some, None, IsTrue, append_assoc, append-nil}
use Rattle.std.proofs.lemmas.Str.{chars-IsAscii}
use Rattle.jsonc_text.specs.Options.{Options}
use Rattle.jsonc_text.specs.Plain.{Items, Members}
use Rattle.jsonc_text.specs.Text.{next}
use Rattle.jsonc_tree.specs.Content.{Content, whitespace, newline}
use Rattle.jsonc_tree.specs.declared.node.CstNewlineKind.{CstNewlineKind}
use Rattle.jsonc_tree.specs.declared.node.CstNewlineKind.TheVariants.{LineFeed, CarriageReturnLineFeed, CarriageReturn}
use Rattle.jsonc_tree.specs.OrderedTree.{OrderedTree, none, more, own_leaf, leaves}
use Rattle.jsonc_tree.specs.Values as values
use Rattle.jsonc_tree.specs.Values.{ItemsOf, MembersOf}
use Rattle.jsonc_sound.specs.Lines.{ends_loosely, LinesEndLoosely}
use Rattle.jsonc_sound.specs.Adjacent.{first_char, or_else, follower, LeavesEnd, last_printed}
use Rattle.jsonc_sound.specs.Alone as alone
use Rattle.jsonc_sound.specs.Alone.{StretchAlone}
use Rattle.jsonc_sound.specs.Marks.{marks_of}
use Rattle.jsonc_sound.specs.Rows.{RowKind, Last}
use Rattle.jsonc_sound.proofs.Leaves.{follower_append, joined_leaves, parted_leaves, last_serves}
use Rattle.jsonc_sound.proofs.SeamStretches.{parted_stretch, joined_stretch, last_is}
use Rattle.jsonc_sound.proofs.Spaces.{Ends, NoWord, last_of, serves_unless, stretch_no_word}
use Rattle.jsonc_sound.proofs.ReplacedStretches.{marks_join}
use Rattle.jsonc_edit.specs.multiline.Reflows.{starts_line, Reflows, ended, kept, gone, line, line_end}

pub newline_ends : (k : CstNewlineKind) (n : Option ℕ) → Ends (or_else (first_char (Content.newline k)) n)
newline_ends LineFeed n = subst (λ t. Ends (or_else (next t) n)) (sym (chars-IsAscii (10 ∷ []) (search rules))) refl
newline_ends CarriageReturnLineFeed n = subst (λ t. Ends (or_else (next t) n)) (sym (chars-IsAscii (13 ∷ 10 ∷ []) (search rules))) refl
newline_ends CarriageReturn n = subst (λ t. Ends (or_else (next t) n)) (sym (chars-IsAscii (13 ∷ []) (search rules))) refl

module _ (o : Options) where
  -- the values stay
  pub items_reflow : {x y : OrderedTree} {vs : Items} → Reflows x y → ItemsOf o x vs → ItemsOf o y vs
  items_reflow ended h = h
  items_reflow (kept r) (values.pass_to_items p h) = values.pass_to_items p (items_reflow r h)
  items_reflow (kept r) (values.one_item p h) = values.one_item p (items_reflow r h)
  items_reflow (gone e r) (values.pass_to_items p h) = items_reflow r h
  items_reflow (gone e r) (values.one_item p h) = elim p [ ]
  items_reflow (line t r) h = values.pass_to_items refl (values.pass_to_items refl (items_reflow r h))
  items_reflow (line_end r) h = values.pass_to_items refl (items_reflow r h)

  pub members_reflow : {x y : OrderedTree} {ms : Members} → Reflows x y → MembersOf o x ms → MembersOf o y ms
  members_reflow ended h = h
  members_reflow (kept r) (values.pass_to_members p h) = values.pass_to_members p (members_reflow r h)
  members_reflow (kept r) (values.one_member p h) = values.one_member p (members_reflow r h)
  members_reflow (gone e r) (values.pass_to_members p h) = members_reflow r h
  members_reflow (line t r) h = values.pass_to_members refl (values.pass_to_members refl (members_reflow r h))
  members_reflow (line_end r) h = values.pass_to_members refl (members_reflow r h)

  -- and the marks
  pub marks_reflow : {x y : OrderedTree} → Reflows x y → marks_of (leaves y) ≡ marks_of (leaves x)
  marks_reflow ended = refl
  marks_reflow (kept {content = content} {below = below} {x = x} {y = y} r) =
      marks_join (own_leaf content) (leaves below ++ leaves y) ∙ ap (λ ms. marks_of (own_leaf content) ++ ms) (marks_join (leaves below) (leaves y) ∙ ap (λ ms. marks_of (leaves below) ++ ms) (marks_reflow r) ∙ sym (marks_join (leaves below) (leaves x)))
      ∙ sym (marks_join (own_leaf content) (leaves below ++ leaves x))
  marks_reflow (gone e r) = marks_reflow r
  marks_reflow (line t r) = marks_reflow r
  marks_reflow (line_end r) = marks_reflow r

  -- and each line comment ends with its line
  starts_ends : (e : Bool) (y : OrderedTree) → IsTrue (starts_line y) → IsTrue (ends_loosely true e y)
  starts_ends e (more (Content.newline k) below after) h = refl
  starts_ends e none h = cc
  starts_ends e (more content below after) h = cc

  ends_reflow : (e : Bool) {x y : OrderedTree} → Reflows x y → IsTrue (ends_loosely true e x) → IsTrue (ends_loosely true e y)
  ends_reflow e ended h = h
  ends_reflow e (kept {content = Content.newline k} r) h = refl
  ends_reflow e (kept {content = Content.whitespace s} r) h = ends_reflow e r h
  ends_reflow e (kept {content = content} r) h = cc
  ends_reflow e (gone {y = y} s r) h = starts_ends e y s
  ends_reflow e (line t r) h = refl
  ends_reflow e (line_end r) h = refl

  pub lines_reflow : (e : Bool) {x y : OrderedTree} → Reflows x y → LinesEndLoosely true e x → LinesEndLoosely true e y
  lines_reflow e ended l = tt
  lines_reflow e (kept r) l = (λ c. ends_reflow e r (l.0 c), l.1, lines_reflow e r l.2)
  lines_reflow e (gone s r) l = lines_reflow e r l.2
  lines_reflow e (line t r) l = (λ c. cc, tt, (λ c. cc, tt, lines_reflow e r l))
  lines_reflow e (line_end r) l = (λ c. cc, tt, lines_reflow e r l)

  -- each node is what it was alone
  pub stretch_reflow : {kind : RowKind} {x y : OrderedTree} → Reflows x y → (last to : Last) → StretchAlone o kind last x to → StretchAlone o kind last y to
  stretch_reflow ended last to s = s
  stretch_reflow {kind} (kept {content = content} {below = below} {x = x} r) last to s =
      let parts = parted_stretch o kind (more content below none) x s in joined_stretch o kind parts.1 (stretch_reflow r parts.0 to parts.2)
  stretch_reflow {kind} (gone {s = blanks} {x = x} {y = y} e r) last to s =
      let parts = parted_stretch o kind (more (whitespace blanks) none none) x s in
      subst (λ l. StretchAlone o kind l y to) (last_is o kind parts.1) (stretch_reflow r parts.0 to parts.2)
  stretch_reflow (line {k = k} t r) last to s = alone.past_trivia {content = newline k} tt (alone.past_trivia t (stretch_reflow r last to s))
  stretch_reflow (line_end {k = k} r) last to s = alone.past_trivia {content = newline k} tt (stretch_reflow r last to s)

  -- what follows a leaf is what it was, or ends it
  abbrev Serves : Option ℕ → Option ℕ → Type 0
  Serves n m = (m ≡ n) ⊎ Ends m

  still_serves : (ls : List Content) (n m : Option ℕ) → Serves n m → Serves (follower ls n) (follower ls m)
  still_serves [] n m h = h
  still_serves (content ∷ rest) n m h = by (first_char content) (still_serves rest n m h)
    where
      by : (c : Option ℕ) → Serves (follower rest n) (follower rest m) → Serves (or_else c (follower rest n)) (or_else c (follower rest m))
      by (Some c) k = inl refl
      by None k = k

  starts_serves : (y : OrderedTree) (n m : Option ℕ) → IsTrue (starts_line y) → Serves n (follower (leaves y) m)
  starts_serves (more (Content.newline k) below after) n m h = inr (newline_ends k (follower (leaves below ++ leaves after) m))
  starts_serves none n m h = cc
  starts_serves (more content below after) n m h = cc

  serves_reflow : {x y : OrderedTree} → Reflows x y → (n : Option ℕ) → Serves (follower (leaves x) n) (follower (leaves y) n)
  serves_reflow ended n = inl refl
  serves_reflow (kept {content = content} {below = below} {x = x} {y = y} r) n =
      let same = λ (t : OrderedTree). follower_append (own_leaf content) (leaves below ++ leaves t) n ∙ ap (follower (own_leaf content)) (follower_append (leaves below) (leaves t) n) in
      subst (λ a. Serves a (follower (own_leaf content ++ (leaves below ++ leaves y)) n)) (sym (same x))
      (subst (λ a. Serves (follower (own_leaf content) (follower (leaves below) (follower (leaves x) n))) a) (sym (same y))
      (still_serves (own_leaf content) _ _ (still_serves (leaves below) _ _ (serves_reflow r n))))
  serves_reflow (gone {y = y} e r) n = starts_serves y _ n e
  serves_reflow (line {k = k} {s = s} {y = y} t r) n = inr (newline_ends k (follower (whitespace s ∷ leaves y) n))
  serves_reflow (line_end {k = k} {y = y} r) n = inr (newline_ends k (follower (leaves y) n))

  -- leaves that end with no word may end before that
  served : (ls : List Content) (n m : Option ℕ) → NoWord (last_printed ls) → Serves n m → LeavesEnd o ls n → LeavesEnd o ls m
  served ls n m w (inl e) h = subst (LeavesEnd o ls) (sym e) h
  served ls n m w (inr e) h = last_serves o ls n m h (serves_unless o (last_printed ls) n m w (λ b. e) (last_of o ls n h))

  pub leaves_reflow : {kind : RowKind} {x y : OrderedTree} → Reflows x y → (last to : Last) → StretchAlone o kind last x to → (n : Option ℕ) → LeavesEnd o (leaves x) n → LeavesEnd o (leaves y) n
  leaves_reflow ended last to s n h = tt
  leaves_reflow {kind} (kept {content = content} {below = below} {x = x} {y = y} r) last to s n h =
      let parts = parted_stretch o kind (more content below none) x s in
      let own : List Content = own_leaf content ++ leaves below in
      let all = parted_leaves o own (leaves x) n (subst (λ l. LeavesEnd o l n) (sym (append_assoc (own_leaf content) (leaves below) (leaves x))) h) in
      let word : NoWord (last_printed own) = subst (λ l. NoWord (last_printed l)) (ap (λ l. own_leaf content ++ l) (append-nil (leaves below))) (stretch_no_word o parts.1) in
      let first = served own (follower (leaves x) n) (follower (leaves y) n) word (serves_reflow r n) all.0 in
      subst (λ l. LeavesEnd o l n) (append_assoc (own_leaf content) (leaves below) (leaves y)) (joined_leaves o own (leaves y) n first (leaves_reflow r parts.0 to parts.2 n all.1))
  leaves_reflow {kind} (gone {s = blanks} {x = x} e r) last to s n h = let parts = parted_stretch o kind (more (whitespace blanks) none none) x s in leaves_reflow r parts.0 to parts.2 n h.1
  leaves_reflow (line t r) last to s n h = (tt, (tt, leaves_reflow r last to s n h))
  leaves_reflow (line_end r) last to s n h = (tt, leaves_reflow r last to s n h)
