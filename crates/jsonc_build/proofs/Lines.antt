-- Line comments of a tree that is laid out end with their lines.
use Rattle.std.proofs.Common.{ℕ, ◌≡◌, sym, subst, refl, Bool, true, false, not, inl, inr, List, [], ◌∷◌, ◌++◌, IsTrue, Option, Some, None, encode_utf8_all, arith}
use lib.Utf8.{encode}
use Rattle.jsonc_text.specs.Options.{Options}
use Rattle.jsonc_text.specs.Text.{rest, next, no, starts, all_of}
use Rattle.jsonc_text.specs.Gaps.{is_blank, is_in_line, line, block}
use Rattle.jsonc_text.proofs.Basics.{clash, and_both, heads, tails}
use Rattle.jsonc_text.proofs.UniqueTokens.{not_blank}
use Rattle.jsonc_tree.specs.Content.{Content, token}
use Rattle.jsonc_tree.specs.OrderedTree.{OrderedTree, none, more, followed_by}
use Rattle.jsonc_walk.specs.Located.{Located, LocatedItems, LocatedMembers, LocatedName, Between, One, IsLocated, IsLocatedDocument}
use Rattle.jsonc_sound.specs.Filling.{is_separator}
use Rattle.jsonc_sound.specs.Leaves.{GapLeaf, line_feed, cr_lf, cr, blanks, a_comment, mark, Fills, end, leaf, is_inner_blank}
use Rattle.jsonc_build.specs.Laid as laid
use Rattle.jsonc_build.specs.Laid.{bracketed, FillsBetween, NameLaid, Laid, ItemsLaid, MembersLaid, PropertyLaid, RootLaid, DocumentLaid}
use Rattle.jsonc_sound.specs.Lines.{is_line_comment, ends_line, LinesEnd, DocumentLinesEnd}
use Rattle.jsonc_build.proofs.Meanings.{AllItems, all_items, AllMembers, all_members}
use Rattle.jsonc_build.proofs.Rows.{followed_assoc, followed_none}
use Rattle.jsonc_build.proofs.Starts.{StartsAt, value_starts, property_starts}

-- the line goes on, or is at its end
abbrev EndsLine : List ℕ → Type 0
EndsLine r = IsTrue (no is_in_line (next r))

-- a line end is a blank
line_end_blank : (c : ℕ) → IsTrue (not (is_in_line c)) → IsTrue (is_blank c)
line_end_blank c h = grind arith

no_line_end : (n : Option ℕ) → IsTrue (starts not_blank n) → IsTrue (no is_in_line n) → ⊥
no_line_end None h n = cc
no_line_end (Some c) h n = clash (is_blank c) h (line_end_blank c n)

inner_in_line : (c : ℕ) → IsTrue (is_inner_blank c) → IsTrue (is_in_line c)
inner_in_line c h = (and_both (is_blank c) (is_in_line c) h).1

separator_in_line : (c : ℕ) → IsTrue (is_separator c) → IsTrue (is_in_line c)
separator_in_line c h = grind arith

-- at a line's end the next leaf is a newline
newline_next : {content : Content} {t r : List ℕ} (at_end : Bool) (below after : OrderedTree) → GapLeaf content t r → EndsLine t → IsTrue (ends_line at_end (more content below after))
newline_next at_end below after line_feed n = refl
newline_next at_end below after cr_lf n = refl
newline_next at_end below after (cr h) n = refl
newline_next at_end below after (blanks s e (all_of {c = c} h m last) split) n = absurd (clash (is_in_line c) n (inner_in_line c h))
newline_next at_end below after (a_comment s e (inl (line m last)) split) n = absurd (clash (is_in_line 0x2F) n refl)
newline_next at_end below after (a_comment s e (inr (block g)) split) n = absurd (clash (is_in_line 0x2F) n refl)
newline_next at_end below after (mark {c = c} h) n = absurd (clash (is_in_line c) n (separator_in_line c h))

-- a comment that begins with `/*` is no line comment
block_no_line : (s u : List ℕ) {t : List ℕ} → 0x2F ∷ 0x2A ∷ t ≡ s ++ u → IsTrue (is_line_comment (Content.comment (encode_utf8_all s))) → ⊥
unfolding encode
block_no_line [] u e h = cc
block_no_line (c ∷ []) u e h = let first : 0x2F ≡ c = heads e in let wrong : IsTrue (is_line_comment (Content.comment (encode_utf8_all (0x2F ∷ [])))) = subst (λ x. IsTrue (is_line_comment (Content.comment (encode_utf8_all (x ∷ []))))) (sym first) h in cc
block_no_line (c ∷ d ∷ s) u e h =
    let first : 0x2F ≡ c = heads e in
    let second : 0x2A ≡ d = heads (tails e) in
    let half : IsTrue (is_line_comment (Content.comment (encode_utf8_all (0x2F ∷ d ∷ s)))) = subst (λ x. IsTrue (is_line_comment (Content.comment (encode_utf8_all (x ∷ d ∷ s))))) (sym first) h in
    let wrong : IsTrue (is_line_comment (Content.comment (encode_utf8_all (0x2F ∷ 0x2A ∷ s)))) = subst (λ x. IsTrue (is_line_comment (Content.comment (encode_utf8_all (0x2F ∷ x ∷ s))))) (sym second) half in
    cc

-- after a line comment the line ends
comment_ends : {content : Content} {t r : List ℕ} → GapLeaf content t r → IsTrue (is_line_comment content) → EndsLine r
comment_ends line_feed h = cc
comment_ends cr_lf h = cc
comment_ends (cr n) h = cc
comment_ends (blanks s e all split) h = cc
comment_ends (a_comment s e (inl (line m last)) split) h = last
comment_ends {r = r} (a_comment s e (inr (block g)) split) h = absurd (block_no_line s r split (subst (λ x. IsTrue (is_line_comment (Content.comment x))) e h))
comment_ends (mark n) h = cc

-- the leaves between two places, and then a row
fills_end : {t r : List ℕ} {row : OrderedTree} (at_end : Bool) (after : OrderedTree) → Fills t row r → (EndsLine r → IsTrue (ends_line at_end after)) → EndsLine t → IsTrue (ends_line at_end (followed_by row after))
fills_end at_end after end f n = f n
fills_end at_end after (leaf {after = tail} one further) f n = newline_next at_end none (followed_by tail after) one n

fills_lines : {t r : List ℕ} {row : OrderedTree} (at_end : Bool) (after : OrderedTree) → Fills t row r → (EndsLine r → IsTrue (ends_line at_end after)) → LinesEnd at_end after → LinesEnd at_end (followed_by row after)
fills_lines at_end after end f l = l
fills_lines at_end after (leaf one further) f l = (λ h. fills_end at_end after further f (comment_ends one h), tt, fills_lines at_end after further f l)

-- the leaves up to where something stands that ends no line
between_lines : {bytes : List ℕ} {i j : ℕ} {row : OrderedTree} (at_end : Bool) (after : OrderedTree) → FillsBetween bytes i j row → StartsAt bytes j → LinesEnd at_end after → LinesEnd at_end (followed_by row after)
between_lines {bytes} {j = j} at_end after f starts l = fills_lines at_end after f.fills (λ n. absurd (no_line_end (next (rest bytes j)) starts n)) l

bracket_starts : {bytes : List ℕ} {i j : ℕ} (c : ℕ) → IsTrue (not_blank c) → Between bytes (One c) i j → StartsAt bytes i
bracket_starts c h b = rw b.stands h

module _ (o : Options) (bytes : List ℕ) where
  mutual
    pub laid_lines : {x : Located} {content : Content} {below : OrderedTree} (at_end : Bool) (after : OrderedTree) → Laid bytes x content below → IsLocated o bytes x → LinesEnd at_end after → LinesEnd at_end (more content below after)
    laid_lines at_end after (laid.string_leaf s e) h l = (λ n. cc, tt, l)
    laid_lines at_end after (laid.number_leaf s e) h l = (λ n. cc, tt, l)
    laid_lines at_end after (laid.boolean_leaf s) h l = (λ n. cc, tt, l)
    laid_lines at_end after (laid.null_leaf s) h l = (λ n. cc, tt, l)
    laid_lines at_end after (laid.array_node {r = r} {xs = xs} items) h l =
        (λ n. cc, (λ n. cc, tt, items_lines 0x5D items (all_items o bytes _ _ xs h.1) (bracket_starts 0x5D refl h.0.closes)), l)
    laid_lines at_end after (laid.object_node {r = r} {ms = ms} members) h l =
        (λ n. cc, (λ n. cc, tt, members_lines 0x7D members (all_members o bytes _ _ ms h.1) (bracket_starts 0x7D refl h.0.closes)), l)

    items_lines : {i j : ℕ} {xs : LocatedItems} {row : OrderedTree} (bracket : ℕ) → ItemsLaid bytes i xs j row → AllItems o bytes xs → StartsAt bytes j → LinesEnd false (followed_by row (more (token bracket) none none))
    items_lines bracket (laid.no_element f) h starts = between_lines false (more (token bracket) none none) f starts (λ n. cc, tt, tt)
    items_lines bracket (laid.an_element {x = x} {row = row} {below = below} {after = after} {content = content} f one tail) h starts =
        subst (LinesEnd false) (sym (followed_assoc row (more content below after) (more (token bracket) none none)))
        (between_lines false (more content below (followed_by after (more (token bracket) none none))) f (value_starts o bytes x h.0)
        (laid_lines false (followed_by after (more (token bracket) none none)) one h.0 (items_lines bracket tail h.1 starts)))

    members_lines : {i j : ℕ} {ms : LocatedMembers} {row : OrderedTree} (bracket : ℕ) → MembersLaid bytes i ms j row → AllMembers o bytes ms → StartsAt bytes j → LinesEnd false (followed_by row (more (token bracket) none none))
    members_lines bracket (laid.no_property f) h starts = between_lines false (more (token bracket) none none) f starts (λ n. cc, tt, tt)
    members_lines bracket (laid.a_property {row = row} {below = below} {after = after} f p tail) h starts =
        subst (LinesEnd false) (sym (followed_assoc row (more Content.property below after) (more (token bracket) none none)))
        (between_lines false (more Content.property below (followed_by after (more (token bracket) none none))) f (property_starts o bytes h.0)
        (λ n. cc, property_lines p h.1, members_lines bracket tail h.2 starts))

    property_lines : {n : LocatedName} {x : Located} {row : OrderedTree} → PropertyLaid bytes n x row → IsLocated o bytes x → LinesEnd false row
    property_lines (laid.name_and_value {x = x} {below = below} {content = content} s (laid.quoted_name e q) f one) h =
        (λ n. cc, tt, between_lines false (more content below none) f (value_starts o bytes x h) (laid_lines false none one h tt))
    property_lines (laid.name_and_value {x = x} {below = below} {content = content} s (laid.word_name e q) f one) h =
        (λ n. cc, tt, between_lines false (more content below none) f (value_starts o bytes x h) (laid_lines false none one h tt))

  root_lines : (x : Option Located) (row : OrderedTree) → RootLaid bytes x row → IsLocatedDocument o bytes x → LinesEnd true row
  root_lines None row l h = subst (LinesEnd true) (followed_none row) (fills_lines true none l.fills (λ n. refl) tt)
  root_lines (Some x) row (before, after, below, content, e, f, one, g) h =
      subst (LinesEnd true) (sym e)
      (between_lines true (more content below after) f (value_starts o bytes x h.1)
      (laid_lines true after one h.1 (subst (LinesEnd true) (followed_none after) (fills_lines true none g.fills (λ n. refl) tt))))

  -- of a document
  pub document_lines : (x : Option Located) (tree : OrderedTree) → DocumentLaid bytes x tree → IsLocatedDocument o bytes x → DocumentLinesEnd tree
  document_lines x tree l h = (l.0, l.1, root_lines x l.0 l.2 h)
