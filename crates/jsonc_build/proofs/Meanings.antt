-- A located value that is laid out prints its text, and has its value.
use Rattle.std.proofs.Common.{ℕ, ◌+◌, ◌-◌, ◌≤◌, ◌≡◌, ◌∙◌, sym, ap, subst, refl, arith, Bool, true, false, inl, inr, List, [], ◌∷◌, ◌++◌, length, IsTrue, ◌||◌, ◌&&◌, ◌==◌, Option, Some, None, option_map, IsUtf8, chars, encode_utf8, encode_utf8_all, slice_range, drop}
use Rattle.std.proofs.lemmas.List.{append_assoc, append-nil, append_cancel_right, take_all}
use Rattle.std.proofs.lemmas.List.Folds.{drop_split}
use lib.Utf8.{encode}
use Rattle.jsonc_text.specs.declared.common.Range.{Range}
use Rattle.jsonc_text.specs.Options.{Options}
use Rattle.jsonc_text.specs.Text.{rest, next, starts, Spans}
use Rattle.jsonc_text.specs.Words.{Keyword, keyword_text}
use Rattle.jsonc_text.specs.Words as words
use Rattle.jsonc_text.specs.Strings.{IsString}
use Rattle.jsonc_text.specs.Lexemes as lexemes
use Rattle.jsonc_text.specs.Lexemes.{LexemeKind, Lexeme}
use Rattle.jsonc_text.specs.Plain.{Plain, Items, Members}
use Rattle.jsonc_text.specs.Grammar.{literal_value, IsName}
use Rattle.jsonc_text.proofs.Cuts.{slice_chars, slice_encodes}
use Rattle.jsonc_tree.specs.Content.{Content, text_of}
use Rattle.jsonc_tree.specs.OrderedTree.{OrderedTree, none, more, followed_by, printed}
use Rattle.jsonc_tree.proofs.OrderedTrees.{printed-more, printed-followed_by}
use Rattle.jsonc_walk.specs.Located.{Located, LocatedItems, LocatedMembers, LocatedName, Between, One, Brackets, In, IsLeaf, no_items_at, item_at, no_members_at, member_at, range_at, value_at, items_at, members_at, IsLocated, AreItems, AreFurtherItems, AreMembers, AreFurtherMembers, IsNamed, IsLocatedDocument}
use Rattle.jsonc_sound.specs.Leaves as leaves
use Rattle.jsonc_sound.specs.Leaves.{Fills, GapLeaf}
use Rattle.jsonc_build.specs.Laid as laid
use Rattle.jsonc_build.specs.Laid.{bracketed, bytes_in, is_quote, is_quote_at, FillsBetween, NameLaid, Laid, ItemsLaid, MembersLaid, PropertyLaid, RootLaid, DocumentLaid}
use Rattle.jsonc_build.proofs.GapLeaves.{fills_printed}
use Rattle.jsonc_build.proofs.Names.{loose_first}
use Rattle.jsonc_tree.specs.Values.{HasNoValue, ValueOf, ItemsOf, MembersOf, PropertyOf, HoldsValue, DocumentValueOf, is_passed_over}
use Rattle.jsonc_tree.specs.Values as values

-- what a leaf's text is, by its value
abbrev LeafText : Options → Plain → List ℕ → List ℕ → Type 0
LeafText o (Plain.string v) t r = IsString o t v r
LeafText o (Plain.number s) t r = t ≡ s ++ r
LeafText o (Plain.boolean b) t r = t ≡ keyword_text (words.boolean b) ++ r
LeafText o Plain.null t r = t ≡ keyword_text words.null ++ r
LeafText o (Plain.array vs) t r = Unit {0}
LeafText o (Plain.object ms) t r = Unit {0}

text_by : (o : Options) (t r : List ℕ) (k : LexemeKind) {v : Plain} → Lexeme o k t r → literal_value k ≡ Some v → LeafText o v t r
text_by o t r (lexemes.string s) {v} h e = let same : Plain.string s ≡ v = cc in subst (λ x. LeafText o x t r) same h
text_by o t r (lexemes.number s) {v} h e = let same : Plain.number s ≡ v = cc in subst (λ x. LeafText o x t r) same h.0
text_by o t r (lexemes.word s) h e = absurd (let wrong : None ≡ Some _ = e in cc)
text_by o t r (lexemes.keyword (words.boolean b)) {v} h e = let same : Plain.boolean b ≡ v = cc in subst (λ x. LeafText o x t r) same h.0
text_by o t r (lexemes.keyword words.null) {v} h e = let same : Plain.null ≡ v = cc in subst (λ x. LeafText o x t r) same h.0
text_by o t r (lexemes.punctuation c) h e = absurd (let wrong : None ≡ Some _ = e in cc)

leaf_text : (o : Options) (bytes : List ℕ) (r : Range) (v : Plain) → In bytes (IsLeaf o v) r → LeafText o v (rest bytes r.start) (rest bytes r.end)
leaf_text o bytes r v h = text_by o (rest bytes r.start) (rest bytes r.end) h.stands.0 h.stands.1 h.stands.2

keyword_bytes : (k : Keyword) → encode_utf8_all (keyword_text k) ≡ keyword_text k
unfolding encode
keyword_bytes (words.boolean true) = refl
keyword_bytes (words.boolean false) = refl
keyword_bytes words.null = refl

keyword_printed : (b : Bool) → text_of (Content.boolean b) ≡ keyword_text (words.boolean b)
keyword_printed true = refl
keyword_printed false = refl

-- every element is located
abbrev pub AllItems : Options → List ℕ → LocatedItems → Type 0
AllItems o bytes no_items_at = Unit {0}
AllItems o bytes (item_at x xs) = IsLocated o bytes x × AllItems o bytes xs

pub further_items : (o : Options) (bytes : List ℕ) (i j : ℕ) (xs : LocatedItems) → AreFurtherItems o bytes i xs j → AllItems o bytes xs
further_items o bytes i j no_items_at h = tt
further_items o bytes i j (item_at x xs) h = (h.1, further_items o bytes (range_at x).end j xs h.2)

pub all_items : (o : Options) (bytes : List ℕ) (i j : ℕ) (xs : LocatedItems) → AreItems o bytes i xs j → AllItems o bytes xs
all_items o bytes i j no_items_at h = tt
all_items o bytes i j (item_at x xs) h = (h.1, further_items o bytes (range_at x).end j xs h.2)

-- every property is named and located
abbrev pub AllMembers : Options → List ℕ → LocatedMembers → Type 0
AllMembers o bytes no_members_at = Unit {0}
AllMembers o bytes (member_at r n x ms) = IsNamed o bytes n r (range_at x) × IsLocated o bytes x × AllMembers o bytes ms

pub further_members : (o : Options) (bytes : List ℕ) (i j : ℕ) (ms : LocatedMembers) → AreFurtherMembers o bytes i ms j → AllMembers o bytes ms
further_members o bytes i j no_members_at h = tt
further_members o bytes i j (member_at r n x ms) h = (h.1, h.2, further_members o bytes r.end j ms h.3)

pub all_members : (o : Options) (bytes : List ℕ) (i j : ℕ) (ms : LocatedMembers) → AreMembers o bytes i ms j → AllMembers o bytes ms
all_members o bytes i j no_members_at h = tt
all_members o bytes i j (member_at r n x ms) h = (h.1, h.2, further_members o bytes r.end j ms h.3)

-- a row prints the text between two places
pub record Prints (bytes : List ℕ) (i j : ℕ) (row : OrderedTree) : Type 0 where
  pub spans : Spans bytes i j
  pub text : printed row ≡ slice_range bytes i j

stretches : (bytes : List ℕ) (i j k : ℕ) → i ≤ j → j ≤ k → slice_range bytes i j ++ slice_range bytes j k ≡ slice_range bytes i k
stretches bytes i j k h l =
    append_cancel_right (slice_range bytes i j ++ slice_range bytes j k) (slice_range bytes i k) (drop k bytes)
    (append_assoc (slice_range bytes i j) (slice_range bytes j k) (drop k bytes)
    ∙ ap (λ l. slice_range bytes i j ++ l) (sym (drop_split bytes j k l)) ∙ sym (drop_split bytes i j h) ∙ drop_split bytes i k (omega arith))

pub prints_append : (bytes : List ℕ) {i j k : ℕ} {t u : OrderedTree} → Prints bytes i j t → Prints bytes j k u → Prints bytes i k (followed_by t u)
prints_append bytes {i} {j} {k} {t} {u} a b = record {
  spans = record { from = a.spans.from; to = b.spans.to; order = omega (arith, a.spans.order, b.spans.order) };
  text = printed-followed_by t u ∙ ap (λ l. l ++ printed u) a.text ∙ ap (λ l. slice_range bytes i j ++ l) b.text ∙ stretches bytes i j k a.spans.order b.spans.order;
}

prints_one : (bytes : List ℕ) {i j : ℕ} {content : Content} {below : OrderedTree} → Spans bytes i j → text_of content ++ printed below ≡ slice_range bytes i j → Prints bytes i j (more content below none)
prints_one bytes {content = content} {below = below} s e = record {
  spans = s;
  text = printed-more content below none ∙ ap (λ l. text_of content ++ l) (append-nil (printed below)) ∙ e;
}

prints_leaf : (bytes : List ℕ) {i j : ℕ} {content : Content} → Spans bytes i j → text_of content ≡ slice_range bytes i j → Prints bytes i j (more content none none)
prints_leaf bytes {content = content} s e = prints_one bytes s (append-nil (text_of content) ∙ e)

module _ (bytes : List ℕ) (u : IsUtf8 bytes) where
  pub prints_fill : {i j : ℕ} {row : OrderedTree} → FillsBetween bytes i j row → Prints bytes i j row
  prints_fill {i} {j} {row} f = record { spans = f.spans; text = fills_printed bytes i j row u f.spans f.fills }

  -- a bracket prints itself
  pub prints_bracket : {i j : ℕ} (c : ℕ) → Between bytes (One c) i j → Prints bytes i j (more (Content.token c) none none)
  prints_bracket {i} {j} c b = prints_leaf bytes b.spans (sym (slice_encodes bytes (c ∷ []) i j u b.spans.from b.spans.to b.stands ∙ append-nil (encode_utf8 c)))

  prints_inside : {r : Range} {row : OrderedTree} (opening closing : ℕ) → Brackets bytes opening closing r → Prints bytes (r.start + 1) (r.end - 1) row → Prints bytes r.start r.end (bracketed opening row closing)
  prints_inside opening closing b row = prints_append bytes (prints_bracket opening b.opens) (prints_append bytes row (prints_bracket closing b.closes))

  prints_name : {r : Range} {content : Content} → Spans bytes r.start r.end → NameLaid bytes r content → Prints bytes r.start r.end (more content none none)
  prints_name s (laid.quoted_name e q) = prints_leaf bytes s e
  prints_name s (laid.word_name e q) = prints_leaf bytes s e

  module _ (o : Options) where
    mutual
      pub laid_prints : {x : Located} {content : Content} {below : OrderedTree} → Laid bytes x content below → IsLocated o bytes x → Prints bytes (range_at x).start (range_at x).end (more content below none)
      laid_prints (laid.string_leaf s e) h = prints_leaf bytes s e
      laid_prints (laid.number_leaf s e) h = prints_leaf bytes s e
      laid_prints (laid.boolean_leaf {r = r} {b = b} s) h =
          prints_leaf bytes s (keyword_printed b ∙ sym (slice_encodes bytes (keyword_text (words.boolean b)) r.start r.end u s.from s.to (leaf_text o bytes r (Plain.boolean b) h) ∙ keyword_bytes (words.boolean b)))
      laid_prints (laid.null_leaf {r = r} s) h =
          prints_leaf bytes s (sym (slice_encodes bytes (keyword_text words.null) r.start r.end u s.from s.to (leaf_text o bytes r Plain.null h) ∙ keyword_bytes words.null))
      laid_prints (laid.array_node {xs = xs} items) h = let inside = prints_inside 0x5B 0x5D h.0 (items_print items (all_items o bytes _ _ xs h.1)) in prints_one bytes inside.spans inside.text
      laid_prints (laid.object_node {ms = ms} members) h = let inside = prints_inside 0x7B 0x7D h.0 (members_print members (all_members o bytes _ _ ms h.1)) in prints_one bytes inside.spans inside.text

      pub items_print : {i j : ℕ} {xs : LocatedItems} {row : OrderedTree} → ItemsLaid bytes i xs j row → AllItems o bytes xs → Prints bytes i j row
      items_print (laid.no_element f) h = prints_fill f
      items_print (laid.an_element f x rest) h = prints_append bytes (prints_fill f) (prints_append bytes (laid_prints x h.0) (items_print rest h.1))

      pub members_print : {i j : ℕ} {ms : LocatedMembers} {row : OrderedTree} → MembersLaid bytes i ms j row → AllMembers o bytes ms → Prints bytes i j row
      members_print (laid.no_property f) h = prints_fill f
      members_print (laid.a_property {r = r} {below = below} f x rest) h =
          let inside = property_prints x h.0 h.1 in
          prints_append bytes (prints_fill f) (prints_append bytes (prints_one bytes {content = Content.property} {below = below} inside.spans inside.text) (members_print rest h.2))

      property_prints : {n : LocatedName} {x : Located} {row : OrderedTree} {r : Range} → PropertyLaid bytes n x row → IsNamed o bytes n r (range_at x) → IsLocated o bytes x → Prints bytes r.start r.end row
      property_prints {row = row} (laid.name_and_value {n = n} s name f x) named h =
          let whole = prints_append bytes (prints_name s name) (prints_append bytes (prints_fill f) (laid_prints x h)) in
          rw (← named.begins, ← named.ends) whole

-- the leaves between values have none
passed : {content : Content} {t r : List ℕ} → GapLeaf content t r → IsTrue (is_passed_over content)
passed leaves.line_feed = refl
passed leaves.cr_lf = refl
passed (leaves.cr h) = refl
passed (leaves.blanks s e all split) = refl
passed (leaves.a_comment s e stands split) = refl
passed (leaves.mark h) = refl

fill_has_none : {t r : List ℕ} {row : OrderedTree} → Fills t row r → HasNoValue row
fill_has_none leaves.end = values.end
fill_has_none (leaves.leaf one tail) = values.pass (passed one) (fill_has_none tail)

module _ (o : Options) where
  items_fill : {t r : List ℕ} {row : OrderedTree} → Fills t row r → ItemsOf o row Items.no_items
  items_fill leaves.end = values.no_more_items
  items_fill (leaves.leaf one tail) = values.pass_to_items (passed one) (items_fill tail)

  items_pass : {t r : List ℕ} {row after : OrderedTree} {vs : Items} → Fills t row r → ItemsOf o after vs → ItemsOf o (followed_by row after) vs
  items_pass leaves.end h = h
  items_pass (leaves.leaf one tail) h = values.pass_to_items (passed one) (items_pass tail h)

  members_fill : {t r : List ℕ} {row : OrderedTree} → Fills t row r → MembersOf o row Members.no_members
  members_fill leaves.end = values.no_more_members
  members_fill (leaves.leaf one tail) = values.pass_to_members (passed one) (members_fill tail)

  members_pass : {t r : List ℕ} {row after : OrderedTree} {ms : Members} → Fills t row r → MembersOf o after ms → MembersOf o (followed_by row after) ms
  members_pass leaves.end h = h
  members_pass (leaves.leaf one tail) h = values.pass_to_members (passed one) (members_pass tail h)

  -- brackets have none
  items_before : {row : OrderedTree} {vs : Items} (c : ℕ) → ItemsOf o row vs → ItemsOf o (followed_by row (more (Content.token c) none none)) vs
  items_before c values.no_more_items = values.pass_to_items refl values.no_more_items
  items_before c (values.pass_to_items h tail) = values.pass_to_items h (items_before c tail)
  items_before c (values.one_item v tail) = values.one_item v (items_before c tail)

  items_inside : {row : OrderedTree} {vs : Items} (opening closing : ℕ) → ItemsOf o row vs → ItemsOf o (bracketed opening row closing) vs
  items_inside opening closing h = values.pass_to_items refl (items_before closing h)

  members_before : {row : OrderedTree} {ms : Members} (c : ℕ) → MembersOf o row ms → MembersOf o (followed_by row (more (Content.token c) none none)) ms
  members_before c values.no_more_members = values.pass_to_members refl values.no_more_members
  members_before c (values.pass_to_members h tail) = values.pass_to_members h (members_before c tail)
  members_before c (values.one_member p tail) = values.one_member p (members_before c tail)

  members_inside : {row : OrderedTree} {ms : Members} (opening closing : ℕ) → MembersOf o row ms → MembersOf o (bracketed opening row closing) ms
  members_inside opening closing h = values.pass_to_members refl (members_before closing h)

  value_pass : {t r : List ℕ} {row after : OrderedTree} {v : Plain} → Fills t row r → HoldsValue o after v → HoldsValue o (followed_by row after) v
  value_pass leaves.end h = h
  value_pass (leaves.leaf one tail) h = values.pass_to_value (passed one) (value_pass tail h)

quote_tests : (o : Options) (q : ℕ) → IsTrue (q == 0x22 || (q == 0x27 && o.single_quoted_strings)) → IsTrue (is_quote q)
quote_tests o q h = either (q == 0x22) (q == 0x27) o.single_quoted_strings h
  where
    either : (a b c : Bool) → IsTrue (a || (b && c)) → IsTrue (a || b)
    either true b c h = refl
    either false true c h = refl
    either false false c h = cc

module _ (o : Options) (bytes : List ℕ) (u : IsUtf8 bytes) where
  string_alone : {i j : ℕ} {v : List ℕ} → Spans bytes i j → IsString o (rest bytes i) v (rest bytes j) → IsString o (chars (slice_range bytes i j)) v []
  string_alone {i} {j} s h =
      (h.0, h.1, h.2, slice_chars bytes ((h.0 ∷ h.1) ++ h.0 ∷ []) i j u s.from s.to (h.3 ∙ sym (append_assoc (h.0 ∷ h.1) (h.0 ∷ []) (rest bytes j))), h.4)

  -- a string begins with a quote
  pub quote_first : (i : ℕ) (v r : List ℕ) → IsString o (rest bytes i) v r → IsTrue (is_quote_at bytes i)
  quote_first i v r h = ap (λ t. starts is_quote (next t)) h.3 ∙ quote_tests o h.0 h.2

  name_by : (r : Range) (name : List ℕ) {content : Content} → Spans bytes r.start r.end → NameLaid bytes r content → IsName o (rest bytes r.start) name (rest bytes r.end) → values.IsNameLeaf o content name
  name_by r name s (laid.quoted_name e q) (inl h) = subst (λ b. IsString o (chars b) name []) (sym e) (string_alone s h)
  name_by r name s (laid.quoted_name e q) (inr h) = absurd (let wrong : true ≡ false = sym q ∙ loose_first o h.2 (rest bytes r.start) (rest bytes r.end) h.3 h.4 in cc)
  name_by r name s (laid.word_name e q) (inl h) = absurd (let wrong : true ≡ false = sym (quote_first r.start name (rest bytes r.end) h) ∙ q in cc)
  name_by r name s (laid.word_name e q) (inr h) = (refl, sym (ap chars e ∙ slice_chars bytes name r.start r.end u s.from s.to h.1))

  mutual
    pub laid_value : {x : Located} {content : Content} {below : OrderedTree} → Laid bytes x content below → IsLocated o bytes x → ValueOf o content below (value_at x)
    laid_value (laid.string_leaf {r = r} {v = v} s e) h = values.string (subst (λ b. IsString o (chars b) v []) (sym e) (string_alone s (leaf_text o bytes r (Plain.string v) h)))
    laid_value (laid.number_leaf {r = r} {v = v} {s = n} s e) h =
        subst (λ x. ValueOf o (Content.number n) none (Plain.number x)) (ap chars e ∙ slice_chars bytes v r.start r.end u s.from s.to (leaf_text o bytes r (Plain.number v) h)) values.number
    laid_value (laid.boolean_leaf s) h = values.boolean
    laid_value (laid.null_leaf s) h = values.null
    laid_value (laid.array_node {xs = xs} items) h = values.array (items_inside o 0x5B 0x5D (laid_items items (all_items o bytes _ _ xs h.1)))
    laid_value (laid.object_node {ms = ms} members) h = values.object (members_inside o 0x7B 0x7D (laid_members members (all_members o bytes _ _ ms h.1)))

    laid_items : {i j : ℕ} {xs : LocatedItems} {row : OrderedTree} → ItemsLaid bytes i xs j row → AllItems o bytes xs → ItemsOf o row (items_at xs)
    laid_items (laid.no_element f) h = items_fill o f.fills
    laid_items (laid.an_element f x rest) h = items_pass o f.fills (values.one_item (laid_value x h.0) (laid_items rest h.1))

    laid_members : {i j : ℕ} {ms : LocatedMembers} {row : OrderedTree} → MembersLaid bytes i ms j row → AllMembers o bytes ms → MembersOf o row (members_at ms)
    laid_members (laid.no_property f) h = members_fill o f.fills
    laid_members (laid.a_property f p rest) h = members_pass o f.fills (values.one_member (laid_property p h.0 h.1) (laid_members rest h.2))

    laid_property : {n : LocatedName} {x : Located} {row : OrderedTree} {r : Range} → PropertyLaid bytes n x row → IsNamed o bytes n r (range_at x) → IsLocated o bytes x → PropertyOf o row n.name (value_at x)
    laid_property (laid.name_and_value {n = n} s name f x) named h = values.name_of (name_by n.range n.name s name named.name.stands) (value_pass o f.fills (values.value_of (laid_value x h) values.end))

  root_value : (x : Option Located) (row : OrderedTree) → RootLaid bytes x row → IsLocatedDocument o bytes x → values.HoldsAtMostOne o row (option_map value_at x)
  root_value None row l h = fill_has_none l.fills
  root_value (Some x) row l h =
      subst (λ r. HoldsValue o r (value_at x)) (sym l.4) (value_pass o l.5.fills (values.value_of (laid_value l.6 h.1) (fill_has_none l.7.fills)))

  -- a document that is laid out has its value
  pub document_value : (x : Option Located) (tree : OrderedTree) → DocumentLaid bytes x tree → IsLocatedDocument o bytes x → DocumentValueOf o tree (option_map value_at x)
  document_value x tree l h = (l.0, l.1, root_value x l.0 l.2 h)

root_prints : (o : Options) (bytes : List ℕ) → IsUtf8 bytes → (x : Option Located) (row : OrderedTree) → RootLaid bytes x row → IsLocatedDocument o bytes x → Prints bytes 0 (length bytes) row
root_prints o bytes u None row l h = prints_fill bytes u l
root_prints o bytes u (Some x) row l h =
    subst (Prints bytes 0 (length bytes)) (sym l.4) (prints_append bytes (prints_fill bytes u l.5) (prints_append bytes (laid_prints bytes u o l.6 h.1) (prints_fill bytes u l.7)))

-- and prints its text
pub document_prints : (o : Options) (bytes : List ℕ) → IsUtf8 bytes → (x : Option Located) (tree : OrderedTree) → DocumentLaid bytes x tree → IsLocatedDocument o bytes x → printed tree ≡ bytes
document_prints o bytes u x tree l h =
    ap printed l.1 ∙ printed-more Content.root l.0 none ∙ append-nil (printed l.0) ∙ (root_prints o bytes u x l.0 l.2 h).text ∙ take_all (length bytes - 0) bytes (omega arith)
