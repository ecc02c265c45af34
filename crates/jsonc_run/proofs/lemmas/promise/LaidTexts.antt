-- What is laid out as a value, or as a property, prints its text in a layout.
use Rattle.std.proofs.Common.{ℕ, ◌≡◌, ◌∙◌, ◌||◌, sym, ap, subst, refl, Bool, true, false, List, [], ◌∷◌, ◌++◌, if◌then◌else◌, chars, encode_utf8_all, rules, IsUtf8}
use Rattle.std.proofs.lemmas.List.{append_assoc, append-nil}
use Rattle.std.proofs.lemmas.Str.{chars-nil, chars-append, chars-encodes, chars-IsAscii}
use Rattle.jsonc_text.specs.Options.{Options}
use Rattle.jsonc_text.specs.Text as many
use Rattle.jsonc_text.specs.Text.{Many}
use Rattle.jsonc_text.specs.Plain.{Plain, Items, no_items, item, Members, no_members, member}
use Rattle.jsonc_text.specs.Spelling.{spelled}
use Rattle.jsonc_text.specs.Words.{Keyword, keyword_text}
use Rattle.jsonc_tree.specs.Content.{Content, token, whitespace, newline, newline_text}
use Rattle.jsonc_tree.specs.declared.node.CstNewlineKind.{CstNewlineKind}
use Rattle.jsonc_tree.specs.declared.node.CstNewlineKind.TheVariants.{LineFeed, CarriageReturnLineFeed, CarriageReturn}
use Rattle.jsonc_tree.specs.OrderedTree.{OrderedTree, none, own_leaf, leaves, Top}
use Rattle.jsonc_layout.specs.from_input.Layout as trees
use Rattle.jsonc_layout.specs.from_input.Laid as trees_laid
use Rattle.jsonc_layout.specs.from_input.Laid.{laid, laid_property, closed, comma_if, line_then, node_then, string_leaf}
use Rattle.jsonc_layout.specs.from_input.Texts.{IsCharacters, IsOfTexts, AreOfTexts, AreNamedOfTexts}
use Rattle.jsonc_layout.proofs.lemmas.from_input.SpelledTexts.{spelled_characters}
use Rattle.jsonc_sound.specs.Leaves.{is_inner_blank}
use Rattle.jsonc_sound.specs.TreeChanges.{leaves_of}
use Rattle.jsonc_sound.proofs.Pieces.{Pieces}
use Rattle.jsonc_sound.proofs.ShapeValues.{Mark, comma_mark, colon_mark, bracket_mark, close_bracket_mark, brace_mark, close_brace_mark}
use Rattle.jsonc_sound.proofs.Texts.{AllUtf8}
use Rattle.jsonc_edit.proofs.Lists.{either_off}
use Rattle.jsonc_run.specs.promise.PlaceLaws.{text_of_leaves}
use Rattle.jsonc_run.specs.texts.Paths.{an_object}
use Rattle.jsonc_run.specs.texts.Stretches as documents
use Rattle.jsonc_run.specs.texts.Stretches.{IsLineEnd, AreSpaces}
use Rattle.jsonc_run.specs.texts.Layout.{Layout, deeper, on_one_line, on_lines, spread, is_filled, holds_filled, named, laid_text, laid_items, laid_members, IsLaid, IsLaidEntry}
use Rattle.jsonc_run.proofs.lemmas.promise.Leaves.{text_joined, utf8_first, utf8_second}
use Rattle.jsonc_run.proofs.lemmas.promise.Plains.{entry_of}
use Rattle.jsonc_run.proofs.lemmas.promise.Stretches.{pieces_first, pieces_second}
use Rattle.jsonc_run.proofs.lemmas.promise.Trivia.{first_text, newline_chars, piece_trivia}
use Rattle.jsonc_run.proofs.Parents.{or_true}

-- the layout in characters
abbrev pub in_text : trees.Layout → Layout
in_text l = record { line_end = newline_text l.newline; indent = chars l.current; level = chars l.single; comma = l.trailing_commas }

abbrev pub node_text : Top → List ℕ
node_text node = text_of_leaves (leaves_of node)

abbrev node_texts : List Top → List (List ℕ)
node_texts [] = []
node_texts (node ∷ nodes) = node_text node ∷ node_texts nodes

-- each node prints characters
abbrev AreUtf8 : List Top → Type 0
AreUtf8 [] = Unit {0}
AreUtf8 (node ∷ nodes) = AllUtf8 (leaves_of node) × AreUtf8 nodes

-- leaves that come first
token_first : {c : ℕ} → Mark c → (ls : List Content) → AllUtf8 (token c ∷ ls) → text_of_leaves (token c ∷ ls) ≡ c ∷ text_of_leaves ls
token_first {c} m ls u = first_text (token c) ls u.0 ∙ ap (λ s. s ++ text_of_leaves ls) (ap chars m.bytes ∙ m.text)

space_first : (ls : List Content) → AllUtf8 (whitespace (0x20 ∷ []) ∷ ls) → text_of_leaves (whitespace (0x20 ∷ []) ∷ ls) ≡ 0x20 ∷ text_of_leaves ls
space_first ls u = first_text (whitespace (0x20 ∷ [])) ls u.0 ∙ ap (λ s. s ++ text_of_leaves ls) (chars-IsAscii (0x20 ∷ []) (search rules))

node_leaves : (node : Top) (row : OrderedTree) → leaves (node_then node row) ≡ leaves_of node ++ leaves row
node_leaves node row = sym (append_assoc (own_leaf node.content) (leaves node.below) (leaves row))

-- nodes print this text, and then what follows
record Prints (row after : OrderedTree) (nodes : List Top) (text : List ℕ) : Type 0 where
  own : AreUtf8 nodes
  rest : AllUtf8 (leaves after)
  text_is : text_of_leaves (leaves row) ≡ text ++ text_of_leaves (leaves after)

-- a node first
record NodeFirst (node : Top) (row : OrderedTree) : Type 0 where
  own : AllUtf8 (leaves_of node)
  rest : AllUtf8 (leaves row)
  text_is : text_of_leaves (leaves (node_then node row)) ≡ node_text node ++ text_of_leaves (leaves row)

node_first : (node : Top) (row : OrderedTree) → AllUtf8 (leaves (node_then node row)) → NodeFirst node row
node_first node row u =
    let both : AllUtf8 (leaves_of node ++ leaves row) = subst AllUtf8 (node_leaves node row) u in
    let own = utf8_first (leaves_of node) (leaves row) both in
    record { own = own; rest = utf8_second (leaves_of node) (leaves row) both; text_is = ap text_of_leaves (node_leaves node row) ∙ text_joined (leaves_of node) (leaves row) own }

one_line : (nodes : List Top) (after : OrderedTree) → AllUtf8 (leaves (trees_laid.on_one_line nodes after)) → Prints (trees_laid.on_one_line nodes after) after nodes (on_one_line (node_texts nodes))
one_line [] after u = record { own = tt; rest = u; text_is = refl }
one_line (node ∷ []) after u = let m = node_first node after u in record { own = (m.own, tt); rest = m.rest; text_is = m.text_is }
one_line (node ∷ next ∷ nodes) after u =
    let row : OrderedTree = trees_laid.on_one_line (next ∷ nodes) after in
    let m = node_first node (trees_laid.spaced 0x2C row) u in
    let n = one_line (next ∷ nodes) after m.rest.1.1 in
    let gap : text_of_leaves (leaves (trees_laid.spaced 0x2C row)) ≡ 0x2C ∷ 0x20 ∷ text_of_leaves (leaves row) =
    token_first comma_mark (whitespace (0x20 ∷ []) ∷ leaves row) m.rest ∙ ap (λ s. 0x2C ∷ s) (space_first (leaves row) m.rest.1) in
    record {
      own = (m.own, n.own);
      rest = n.rest;
      text_is =
          m.text_is ∙ ap (λ s. node_text node ++ s) (gap ∙ ap (λ s. 0x2C ∷ 0x20 ∷ s) n.text_is)
          ∙ sym (append_assoc (node_text node) (0x2C ∷ 0x20 ∷ on_one_line (node_texts (next ∷ nodes))) (text_of_leaves (leaves after)));
    }

-- a line's end and an indent first
line_first : (layout : trees.Layout) (row : OrderedTree) → AllUtf8 (leaves (line_then layout row)) → text_of_leaves (leaves (line_then layout row)) ≡ newline_text layout.newline ++ (chars layout.current ++ text_of_leaves (leaves row))
line_first layout row u =
    first_text (newline layout.newline) (whitespace layout.current ∷ leaves row) u.0 ∙ ap (λ s. s ++ text_of_leaves (whitespace layout.current ∷ leaves row)) (newline_chars layout.newline)
    ∙ ap (λ s. newline_text layout.newline ++ s) (first_text (whitespace layout.current) (leaves row) u.1.0)

abbrev perhaps_comma : Bool → List ℕ
perhaps_comma b = if b then 0x2C ∷ [] else []

comma_first : (b : Bool) (row : OrderedTree) → AllUtf8 (leaves (comma_if b row)) → AllUtf8 (leaves row) × (text_of_leaves (leaves (comma_if b row)) ≡ perhaps_comma b ++ text_of_leaves (leaves row))
comma_first true row u = (u.1, token_first comma_mark (leaves row) u)
comma_first false row u = (u, refl)

or_false : (b : Bool) → b || false ≡ b
or_false true = refl
or_false false = refl

line_regroup : (a b c d e : List ℕ) → a ++ (b ++ (c ++ (d ++ e))) ≡ (a ++ (b ++ (c ++ d))) ++ e
line_regroup a b c d e = simp (append_assoc) refl

-- a node on a line of its own, with a comma behind it or without
record OnLine (layout : trees.Layout) (node : Top) (b : Bool) (row : OrderedTree) : Type 0 where
  own : AllUtf8 (leaves_of node)
  rest : AllUtf8 (leaves row)
  text_is : text_of_leaves (leaves (line_then layout (node_then node (comma_if b row)))) ≡ newline_text layout.newline ++ (chars layout.current ++ (node_text node ++ (perhaps_comma b ++ text_of_leaves (leaves row))))

on_line : (layout : trees.Layout) (node : Top) (b : Bool) (row : OrderedTree) → AllUtf8 (leaves (line_then layout (node_then node (comma_if b row)))) → OnLine layout node b row
on_line layout node b row u =
    let m = node_first node (comma_if b row) u.1.1 in
    let k = comma_first b row m.rest in
    record {
      own = m.own;
      rest = k.0;
      text_is =
          line_first layout (node_then node (comma_if b row)) u
          ∙ ap (λ s. newline_text layout.newline ++ (chars layout.current ++ s)) (m.text_is ∙ ap (λ s. node_text node ++ s) k.1);
    }

lines : (layout : trees.Layout) (nodes : List Top) (after : OrderedTree) → AllUtf8 (leaves (trees_laid.on_lines layout nodes after)) → Prints (trees_laid.on_lines layout nodes after) after nodes (on_lines (in_text layout) (node_texts nodes))
lines layout [] after u = record { own = tt; rest = u; text_is = refl }
lines layout (node ∷ []) after u =
    let m = on_line layout node (layout.trailing_commas || false) after u in
    record {
      own = (m.own, tt);
      rest = m.rest;
      text_is =
          m.text_is ∙ ap (λ b. newline_text layout.newline ++ (chars layout.current ++ (node_text node ++ (perhaps_comma b ++ text_of_leaves (leaves after))))) (or_false layout.trailing_commas)
          ∙ line_regroup (newline_text layout.newline) (chars layout.current) (node_text node) (perhaps_comma layout.trailing_commas) (text_of_leaves (leaves after));
    }
lines layout (node ∷ next ∷ nodes) after u =
    let row : OrderedTree = trees_laid.on_lines layout (next ∷ nodes) after in
    let m = on_line layout node (layout.trailing_commas || true) row u in
    let n = lines layout (next ∷ nodes) after m.rest in
    record {
      own = (m.own, n.own);
      rest = n.rest;
      text_is =
          m.text_is ∙ ap (λ b. newline_text layout.newline ++ (chars layout.current ++ (node_text node ++ (perhaps_comma b ++ text_of_leaves (leaves row))))) (or_true layout.trailing_commas)
          ∙ ap (λ s. newline_text layout.newline ++ (chars layout.current ++ (node_text node ++ (0x2C ∷ s)))) n.text_is
          ∙ line_regroup (newline_text layout.newline) (chars layout.current) (node_text node) (0x2C ∷ on_lines (in_text layout) (node_texts (next ∷ nodes))) (text_of_leaves (leaves after));
    }

deeper_in_text : (layout : trees.Layout) → IsUtf8 layout.current → in_text (trees.deeper layout) ≡ deeper (in_text layout)
deeper_in_text layout u = ap (λ s. record (in_text layout) { indent = s }) (chars-append layout.current layout.single u)

spread_regroup : (a b c d : List ℕ) → a ++ (b ++ (c ++ d)) ≡ (a ++ (b ++ c)) ++ d
spread_regroup a b c d = simp (append_assoc) refl

-- nodes one level deeper, and then a bracket on its own line
record Spreads (layout : trees.Layout) (nodes : List Top) (row : OrderedTree) : Type 0 where
  own : AreUtf8 nodes
  rest : AllUtf8 (leaves row)
  text_is : (ss : Layout → List (List ℕ)) → node_texts nodes ≡ ss (in_text (trees.deeper layout)) → text_of_leaves (leaves (trees_laid.spread layout nodes row)) ≡ spread (in_text layout) (ss (deeper (in_text layout))) ++ text_of_leaves (leaves row)

spreads : (layout : trees.Layout) (node : Top) (nodes : List Top) (row : OrderedTree) → AllUtf8 (leaves (trees_laid.spread layout (node ∷ nodes) row)) → Spreads layout (node ∷ nodes) row
spreads layout node nodes row u =
    let m = lines (trees.deeper layout) (node ∷ nodes) (line_then layout row) u in
    let is = deeper_in_text layout m.rest.1.0 in
    record {
      own = m.own;
      rest = m.rest.1.1;
      text_is = λ ss e.
          m.text_is
          ∙ ap (λ s. on_lines (in_text (trees.deeper layout)) (node_texts (node ∷ nodes)) ++ s) (line_first layout row m.rest)
          ∙ ap (λ l. on_lines l (node_texts (node ∷ nodes)) ++ (newline_text layout.newline ++ (chars layout.current ++ text_of_leaves (leaves row)))) is
          ∙ spread_regroup (on_lines (deeper (in_text layout)) (node_texts (node ∷ nodes))) (newline_text layout.newline) (chars layout.current) (text_of_leaves (leaves row))
          ∙ ap (λ l. spread (in_text layout) l ++ text_of_leaves (leaves row)) (e ∙ ap ss is);
    }

-- the same test of what is filled
same_filled : (v : Plain) → trees_laid.is_filled v ≡ is_filled v
same_filled Plain.null = refl
same_filled (Plain.boolean b) = refl
same_filled (Plain.number s) = refl
same_filled (Plain.string s) = refl
same_filled (Plain.array no_items) = refl
same_filled (Plain.array (item v vs)) = refl
same_filled (Plain.object no_members) = refl
same_filled (Plain.object (member name v ms)) = refl

same_held : (vs : Items) → trees_laid.holds_filled vs ≡ holds_filled vs
same_held no_items = refl
same_held (item v vs) = ap (λ b. b || trees_laid.holds_filled vs) (same_filled v) ∙ ap (λ b. is_filled v || b) (same_held vs)

keyword_leaf : (k : Keyword) → chars (keyword_text k ++ []) ≡ keyword_text k
keyword_leaf (Keyword.boolean true) = chars-IsAscii (keyword_text (Keyword.boolean true)) (search rules)
keyword_leaf (Keyword.boolean false) = chars-IsAscii (keyword_text (Keyword.boolean false)) (search rules)
keyword_leaf Keyword.null = chars-IsAscii (keyword_text Keyword.null) (search rules)

close_text : {c : ℕ} → Mark c → AllUtf8 (leaves (closed c)) → text_of_leaves (leaves (closed c)) ≡ c ∷ []
close_text {c} m u = token_first m [] u ∙ ap (λ s. c ∷ s) chars-nil

string_text : (s : List ℕ) → IsCharacters s → chars (encode_utf8_all (spelled s)) ≡ spelled s
string_text s h = chars-encodes (spelled s) (spelled_characters s h)

-- a name, a colon, a space and a value
pub record NamedSo (name : List ℕ) (node : Top) : Type 0 where
  pub own : AllUtf8 (leaves_of node)
  pub text_is : node_text (trees_laid.property_of name node) ≡ named name (node_text node)

pub named_so : (name : List ℕ) (node : Top) → IsCharacters name → AllUtf8 (leaves_of (trees_laid.property_of name node)) → NamedSo name node
named_so name node h u =
    let value : OrderedTree = node_then node none in
    let m = node_first node none u.1.1.1 in
    let after : text_of_leaves (leaves (trees_laid.spaced 0x3A value)) ≡ 0x3A ∷ 0x20 ∷ node_text node =
    token_first colon_mark (whitespace (0x20 ∷ []) ∷ leaves value) u.1 ∙ ap (λ s. 0x3A ∷ s) (space_first (leaves value) u.1.1)
    ∙ ap (λ s. 0x3A ∷ 0x20 ∷ s) (m.text_is ∙ ap (λ s. node_text node ++ s) chars-nil ∙ append-nil (node_text node)) in
    record {
      own = m.own;
      text_is = first_text (string_leaf name) (leaves (trees_laid.spaced 0x3A value)) u.0 ∙ ap (λ s. s ++ text_of_leaves (leaves (trees_laid.spaced 0x3A value))) (string_text name h) ∙ ap (λ s. spelled name ++ s) after;
    }

abbrev array_row : trees.Layout → Items → Bool → OrderedTree
array_row layout vs b = if b then trees_laid.spread layout (trees_laid.laid_items (trees.deeper layout) vs) (closed 0x5D) else trees_laid.on_one_line (trees_laid.laid_items layout vs) (closed 0x5D)

abbrev array_text : Layout → Items → Bool → List ℕ
array_text l vs b = if b then spread l (laid_items (deeper l) vs) else on_one_line (laid_items l vs)

bracketed : (c d : ℕ) → Mark c → (row : OrderedTree) (s : List ℕ) → AllUtf8 (token c ∷ leaves row) → text_of_leaves (leaves row) ≡ s ++ d ∷ [] → text_of_leaves (token c ∷ leaves row) ≡ c ∷ (s ++ d ∷ [])
bracketed c d m row s u e = token_first m (leaves row) u ∙ ap (λ t. c ∷ t) e

-- the brackets of an array, and of an object, with what stands between, where it is known what its entries print
array_prints : (layout : trees.Layout) (vs : Items) (b c : Bool) → b ≡ c → trees_laid.holds_filled vs ≡ b
    → ((l : trees.Layout) → AreUtf8 (trees_laid.laid_items l vs) → node_texts (trees_laid.laid_items l vs) ≡ laid_items (in_text l) vs)
    → AllUtf8 (token 0x5B ∷ leaves (array_row layout vs b)) → text_of_leaves (token 0x5B ∷ leaves (array_row layout vs b)) ≡ 0x5B ∷ (array_text (in_text layout) vs c ++ 0x5D ∷ [])
array_prints layout vs true false e f g u = cc
array_prints layout vs false true e f g u = cc
array_prints layout vs false false e f g u =
    let m = one_line (trees_laid.laid_items layout vs) (closed 0x5D) u.1 in
    bracketed 0x5B 0x5D bracket_mark (trees_laid.on_one_line (trees_laid.laid_items layout vs) (closed 0x5D)) (on_one_line (laid_items (in_text layout) vs)) u
    (m.text_is ∙ ap (λ s. on_one_line (node_texts (trees_laid.laid_items layout vs)) ++ s) (close_text close_bracket_mark m.rest) ∙ ap (λ ss. on_one_line ss ++ 0x5D ∷ []) (g layout m.own))
array_prints layout no_items true true e f g u = cc
array_prints layout (item v vs) true true e f g u =
    let m = spreads layout (laid (trees.deeper layout) v) (trees_laid.laid_items (trees.deeper layout) vs) (closed 0x5D) u.1 in
    bracketed 0x5B 0x5D bracket_mark (trees_laid.spread layout (trees_laid.laid_items (trees.deeper layout) (item v vs)) (closed 0x5D)) (spread (in_text layout) (laid_items (deeper (in_text layout)) (item v vs))) u
    (m.text_is (λ l. laid_items l (item v vs)) (g (trees.deeper layout) m.own) ∙ ap (λ s. spread (in_text layout) (laid_items (deeper (in_text layout)) (item v vs)) ++ s) (close_text close_bracket_mark m.rest))

object_prints : (layout : trees.Layout) (ms : Members) → ((l : trees.Layout) → AreUtf8 (trees_laid.laid_members l ms) → node_texts (trees_laid.laid_members l ms) ≡ laid_members (in_text l) ms)
    → AllUtf8 (leaves_of (laid layout (Plain.object ms))) → node_text (laid layout (Plain.object ms)) ≡ laid_text (in_text layout) (Plain.object ms)
object_prints layout no_members g u = bracketed 0x7B 0x7D brace_mark (closed 0x7D) [] u (close_text close_brace_mark u.1)
object_prints layout (member name v ms) g u =
    let m = spreads layout (laid_property (trees.deeper layout) name v) (trees_laid.laid_members (trees.deeper layout) ms) (closed 0x7D) u.1 in
    bracketed 0x7B 0x7D brace_mark (trees_laid.spread layout (trees_laid.laid_members (trees.deeper layout) (member name v ms)) (closed 0x7D)) (spread (in_text layout) (laid_members (deeper (in_text layout)) (member name v ms))) u
    (m.text_is (λ l. laid_members l (member name v ms)) (g (trees.deeper layout) m.own) ∙ ap (λ s. spread (in_text layout) (laid_members (deeper (in_text layout)) (member name v ms)) ++ s) (close_text close_brace_mark m.rest))

mutual
  pub laid_prints : (layout : trees.Layout) (v : Plain) → IsOfTexts v → AllUtf8 (leaves_of (laid layout v)) → node_text (laid layout v) ≡ laid_text (in_text layout) v
  laid_prints layout Plain.null h u = keyword_leaf Keyword.null
  laid_prints layout (Plain.boolean true) h u = keyword_leaf (Keyword.boolean true)
  laid_prints layout (Plain.boolean false) h u = keyword_leaf (Keyword.boolean false)
  laid_prints layout (Plain.number s) h u = ap chars (append-nil (encode_utf8_all s)) ∙ chars-encodes s h
  laid_prints layout (Plain.string s) h u = ap chars (append-nil (encode_utf8_all (spelled s))) ∙ string_text s h
  laid_prints layout (Plain.array vs) h u = array_prints layout vs (trees_laid.holds_filled vs) (holds_filled vs) (same_held vs) refl (λ l w. items_print l vs h w) u
  laid_prints layout (Plain.object ms) h u = object_prints layout ms (λ l w. members_print l ms h w) u

  items_print : (layout : trees.Layout) (vs : Items) → AreOfTexts vs → AreUtf8 (trees_laid.laid_items layout vs) → node_texts (trees_laid.laid_items layout vs) ≡ laid_items (in_text layout) vs
  items_print layout no_items h u = refl
  items_print layout (item v vs) h u = ap (λ s. s ∷ node_texts (trees_laid.laid_items layout vs)) (laid_prints layout v h.0 u.0) ∙ ap (λ ss. laid_text (in_text layout) v ∷ ss) (items_print layout vs h.1 u.1)

  members_print : (layout : trees.Layout) (ms : Members) → AreNamedOfTexts ms → AreUtf8 (trees_laid.laid_members layout ms) → node_texts (trees_laid.laid_members layout ms) ≡ laid_members (in_text layout) ms
  members_print layout no_members h u = refl
  members_print layout (member name v ms) h u =
      let m = named_so name (laid layout v) h.0 u.0 in
      ap (λ s. s ∷ node_texts (trees_laid.laid_members layout ms)) (m.text_is ∙ ap (named name) (laid_prints layout v h.1 m.own)) ∙ ap (λ ss. named name (laid_text (in_text layout) v) ∷ ss) (members_print layout ms h.2 u.1)

-- where a value has lines of its own
abbrev has_lines : Plain → Bool
has_lines (Plain.array vs) = holds_filled vs
has_lines v = is_filled v

-- where it has none, its text is the same in every layout
unfilled_same : (l m : Layout) (v : Plain) → is_filled v ≡ false → laid_text l v ≡ laid_text m v
unfilled_same l m Plain.null e = refl
unfilled_same l m (Plain.boolean b) e = refl
unfilled_same l m (Plain.number s) e = refl
unfilled_same l m (Plain.string s) e = refl
unfilled_same l m (Plain.array no_items) e = refl
unfilled_same l m (Plain.array (item v vs)) e = cc
unfilled_same l m (Plain.object no_members) e = refl
unfilled_same l m (Plain.object (member name v ms)) e = cc

items_same : (l m : Layout) (vs : Items) → holds_filled vs ≡ false → laid_items l vs ≡ laid_items m vs
items_same l m no_items e = refl
items_same l m (item v vs) e =
    let k = either_off (is_filled v) (holds_filled vs) e in
    ap (λ s. s ∷ laid_items l vs) (unfilled_same l m v k.0) ∙ ap (λ ss. laid_text m v ∷ ss) (items_same l m vs k.1)

one_line_text : (l : Layout) (vs : Items) → holds_filled vs ≡ false → laid_text l (Plain.array vs) ≡ 0x5B ∷ (on_one_line (laid_items l vs) ++ 0x5D ∷ [])
one_line_text l vs e = ap (λ b. 0x5B ∷ (array_text l vs b ++ 0x5D ∷ [])) e

flat_same : (l m : Layout) (v : Plain) → has_lines v ≡ false → laid_text l v ≡ laid_text m v
flat_same l m (Plain.array vs) e = one_line_text l vs e ∙ ap (λ ss. 0x5B ∷ (on_one_line ss ++ 0x5D ∷ [])) (items_same l m vs e) ∙ sym (one_line_text m vs e)
flat_same l m (Plain.object no_members) e = refl
flat_same l m (Plain.object (member name v ms)) e = cc
flat_same l m Plain.null e = refl
flat_same l m (Plain.boolean b) e = refl
flat_same l m (Plain.number s) e = refl
flat_same l m (Plain.string s) e = refl

-- where it has some, both indents are blanks
spaces_behind : (x : List ℕ) {y z r : List ℕ} → Many is_inner_blank z r → z ≡ x ++ y → r ≡ [] → AreSpaces y
spaces_behind [] {y} m e f = subst AreSpaces e (subst (Many is_inner_blank _) f m)
spaces_behind (c ∷ x) many.stop e f = cc
spaces_behind (c ∷ x) {y} (many.step {t = t} b m) e f = let rest : t ≡ x ++ y = cc in spaces_behind x m rest f

abbrev HasSpaces : trees.Layout → Type 0
HasSpaces layout = AreSpaces (chars layout.current) × AreSpaces (chars layout.single)

module _ (o : Options) where
  -- past a node and what parts it from the next
  comma_past : (b : Bool) (row : OrderedTree) → Pieces o (leaves (comma_if b row)) → Pieces o (leaves row)
  comma_past true row p = p.1
  comma_past false row p = p

  node_past : (node : Top) (row : OrderedTree) → Pieces o (leaves (node_then node row)) → Pieces o (leaves row)
  node_past node row p = pieces_second o (leaves_of node) (leaves row) (subst (Pieces o) (node_leaves node row) p)

  lines_past : (layout : trees.Layout) (nodes : List Top) (after : OrderedTree) → Pieces o (leaves (trees_laid.on_lines layout nodes after)) → Pieces o (leaves after)
  lines_past layout [] after p = p
  lines_past layout (node ∷ nodes) after p =
      let b : Bool = layout.trailing_commas || trees_laid.is_some_node nodes in
      let row : OrderedTree = trees_laid.on_lines layout nodes after in
      lines_past layout nodes after (comma_past b row (node_past node (comma_if b row) p.1.1))

  spread_spaces : (layout : trees.Layout) (node : Top) (nodes : List Top) (row : OrderedTree) → Pieces o (leaves (trees_laid.spread layout (node ∷ nodes) row)) → HasSpaces layout
  spread_spaces layout node nodes row p =
      let last = lines_past (trees.deeper layout) (node ∷ nodes) (line_then layout row) p in
      let outer = piece_trivia o (whitespace layout.current) refl last.1.0 in
      let inner = piece_trivia o (whitespace (layout.current ++ layout.single)) refl p.1.0 in
      (outer.1, spaces_behind (chars layout.current) inner.1 (chars-append layout.current layout.single outer.0) refl)

  row_spaces : (layout : trees.Layout) (vs : Items) (b : Bool) → trees_laid.holds_filled vs ≡ b → b ≡ true → Pieces o (leaves (array_row layout vs b)) → HasSpaces layout
  row_spaces layout no_items b e f p = cc
  row_spaces layout (item v vs) true e f p = spread_spaces layout (laid (trees.deeper layout) v) (trees_laid.laid_items (trees.deeper layout) vs) (closed 0x5D) p
  row_spaces layout (item v vs) false e f p = cc

  has_spaces : (layout : trees.Layout) (v : Plain) → has_lines v ≡ true → Pieces o (leaves_of (laid layout v)) → HasSpaces layout
  has_spaces layout (Plain.array vs) e p = row_spaces layout vs (trees_laid.holds_filled vs) refl (same_held vs ∙ e) p.1
  has_spaces layout (Plain.object no_members) e p = cc
  has_spaces layout (Plain.object (member name v ms)) e p = spread_spaces layout (laid_property (trees.deeper layout) name v) (trees_laid.laid_members (trees.deeper layout) ms) (closed 0x7D) p.1
  has_spaces layout Plain.null e p = cc
  has_spaces layout (Plain.boolean b) e p = cc
  has_spaces layout (Plain.number s) e p = cc
  has_spaces layout (Plain.string s) e p = cc

  ends : (k : CstNewlineKind) → IsLineEnd (newline_text k)
  ends LineFeed = documents.line_feed
  ends CarriageReturnLineFeed = documents.both
  ends CarriageReturn = documents.carriage_return

  -- the layout of a value that has no lines
  abbrev any_layout : Layout
  any_layout = record { line_end = 0x0A ∷ []; indent = []; level = []; comma = false }

  pub is_laid : (layout : trees.Layout) (v : Plain) → IsOfTexts v → Pieces o (leaves_of (laid layout v)) → AllUtf8 (leaves_of (laid layout v)) → IsLaid v (text_of_leaves (leaves_of (laid layout v)))
  is_laid layout v h p u = by (has_lines v) refl
    where
      by : (b : Bool) → has_lines v ≡ b → IsLaid v (text_of_leaves (leaves_of (laid layout v)))
      by true e = let m = has_spaces layout v e p in (in_text layout, ends layout.newline, m.0, m.1, laid_prints layout v h u)
      by false e = (any_layout, documents.line_feed, many.stop, many.stop, laid_prints layout v h u ∙ flat_same (in_text layout) any_layout v e)

  pub is_laid_property : (layout : trees.Layout) (name : List ℕ) (v : Plain) → IsCharacters name → IsOfTexts v → Pieces o (leaves_of (laid_property layout name v)) → AllUtf8 (leaves_of (laid_property layout name v))
      → IsLaidEntry an_object (entry_of name v) (text_of_leaves (leaves_of (laid_property layout name v)))
  is_laid_property layout name v h k p u =
      let m = named_so name (laid layout v) h u in
      let own = pieces_first o (leaves_of (laid layout v)) [] (subst (Pieces o) (node_leaves (laid layout v) none) p.1.1.1) in
      (node_text (laid layout v), m.text_is, is_laid layout v k own m.own)
