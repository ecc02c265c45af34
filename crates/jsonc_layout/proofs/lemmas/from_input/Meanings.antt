-- What laid nodes mean.
use Rattle.std.proofs.Common.{◌≡◌, ℕ, Bool, true, false, ◌||◌, List, [], ◌++◌, chars, encode_utf8_all, refl, sym, subst, if◌then◌else◌, ◌∙◌}
use Rattle.std.proofs.lemmas.Str.{chars-encodes}
use Rattle.std.proofs.lemmas.List.{append-nil}
use Rattle.jsonc_text.specs.Options.{Options}
use Rattle.jsonc_text.specs.Strings.{IsString}
use Rattle.jsonc_text.specs.Plain.{Plain, Items, no_items, item, Members, no_members, member}
use Rattle.jsonc_tree.specs.Content.{Content}
use Rattle.jsonc_tree.specs.OrderedTree.{OrderedTree, none, Top}
use Rattle.jsonc_tree.specs.Values.{IsStringText, ValueOf, ItemsOf, MembersOf, PropertyOf, HoldsValue, HasNoValue}
use Rattle.jsonc_text.specs.Spelling.{spelled}
use Rattle.jsonc_layout.proofs.lemmas.input.Spelled.{spelled_string}
use Rattle.jsonc_layout.specs.from_input.Layout.{Layout, deeper}
use Rattle.jsonc_layout.specs.from_input.Laid.{laid, laid_items, laid_members, laid_property, on_one_line, on_lines, comma_if, gap_if, closed, holds_filled, is_some_node, line_then}
use Rattle.jsonc_layout.specs.from_input.Texts.{IsCharacters, IsOfTexts, AreOfTexts, AreNamedOfTexts}
use Rattle.jsonc_layout.proofs.lemmas.from_input.SpelledTexts.{spelled_characters}

-- the node has the value
abbrev pub NodeHas : Options → Top → Plain → Type 0
NodeHas o node v = ValueOf o node.content node.below v

spelled_text : (o : Options) (s : List ℕ) → IsCharacters s → IsStringText o (encode_utf8_all (spelled s)) s
spelled_text o s h =
    let as_it_is : chars (encode_utf8_all (spelled s)) ≡ spelled s ++ [] = chars-encodes (spelled s) (spelled_characters s h) ∙ sym (append-nil (spelled s)) in
    subst (λ t. IsString o t s []) (sym as_it_is) (spelled_string o s [])

-- commas and brackets are passed over
past_gap_items : (o : Options) (b : Bool) (row : OrderedTree) (vs : Items) → ItemsOf o row vs → ItemsOf o (gap_if b row) vs
past_gap_items o true row vs h = ItemsOf.pass_to_items refl (ItemsOf.pass_to_items refl h)
past_gap_items o false row vs h = h

past_comma_items : (o : Options) (b : Bool) (row : OrderedTree) (vs : Items) → ItemsOf o row vs → ItemsOf o (comma_if b row) vs
past_comma_items o true row vs h = ItemsOf.pass_to_items refl h
past_comma_items o false row vs h = h

past_comma_members : (o : Options) (b : Bool) (row : OrderedTree) (ms : Members) → MembersOf o row ms → MembersOf o (comma_if b row) ms
past_comma_members o true row ms h = MembersOf.pass_to_members refl h
past_comma_members o false row ms h = h

array_has : (o : Options) (b : Bool) (row other : OrderedTree) (vs : Items) → ItemsOf o row vs → ItemsOf o other vs → ItemsOf o (if b then row else other) vs
array_has o true row other vs h k = h
array_has o false row other vs h k = k

property_has : (o : Options) (layout : Layout) (name : List ℕ) (v : Plain) → IsCharacters name → NodeHas o (laid layout v) v → PropertyOf o (laid_property layout name v).below name v
property_has o layout name v texts h = PropertyOf.name_of (spelled_text o name texts) (HoldsValue.pass_to_value refl (HoldsValue.pass_to_value refl (HoldsValue.value_of h HasNoValue.end)))

mutual
  pub laid_value : (o : Options) (layout : Layout) (v : Plain) → IsOfTexts v → NodeHas o (laid layout v) v
  laid_value o layout Plain.null h = ValueOf.null
  laid_value o layout (Plain.boolean b) h = ValueOf.boolean
  laid_value o layout (Plain.number s) h = subst (λ t. ValueOf o (Content.number (encode_utf8_all s)) none (Plain.number t)) (chars-encodes s h) ValueOf.number
  laid_value o layout (Plain.string s) h = ValueOf.string (spelled_text o s h)
  laid_value o layout (Plain.array no_items) h = ValueOf.array (ItemsOf.pass_to_items refl (ItemsOf.pass_to_items refl ItemsOf.no_more_items))
  laid_value o layout (Plain.array (item v vs)) h =
      ValueOf.array (ItemsOf.pass_to_items refl
      (array_has o (holds_filled (item v vs)) _ _ (item v vs)
      (laid_lines o (deeper layout) (item v vs) (line_then layout (closed 0x5D)) h (ItemsOf.pass_to_items refl (ItemsOf.pass_to_items refl (ItemsOf.pass_to_items refl ItemsOf.no_more_items))))
      (laid_line o layout (item v vs) h)))
  laid_value o layout (Plain.object no_members) h = ValueOf.object (MembersOf.pass_to_members refl (MembersOf.pass_to_members refl MembersOf.no_more_members))
  laid_value o layout (Plain.object (member name v ms)) h =
      ValueOf.object (MembersOf.pass_to_members refl
      (laid_named o (deeper layout) (member name v ms) (line_then layout (closed 0x7D)) h (MembersOf.pass_to_members refl (MembersOf.pass_to_members refl (MembersOf.pass_to_members refl MembersOf.no_more_members)))))

  laid_line : (o : Options) (layout : Layout) (vs : Items) → AreOfTexts vs → ItemsOf o (on_one_line (laid_items layout vs) (closed 0x5D)) vs
  laid_line o layout no_items h = ItemsOf.pass_to_items refl ItemsOf.no_more_items
  laid_line o layout (item v vs) h = ItemsOf.one_item (laid_value o layout v h.0) (past_gap_items o (is_some_node (laid_items layout vs)) _ vs (laid_line o layout vs h.1))

  laid_lines : (o : Options) (layout : Layout) (vs : Items) (end : OrderedTree) → AreOfTexts vs → ItemsOf o end no_items → ItemsOf o (on_lines layout (laid_items layout vs) end) vs
  laid_lines o layout no_items end h past = past
  laid_lines o layout (item v vs) end h past =
      ItemsOf.pass_to_items refl (ItemsOf.pass_to_items refl (ItemsOf.one_item (laid_value o layout v h.0) (past_comma_items o (layout.trailing_commas || is_some_node (laid_items layout vs)) _ vs (laid_lines o layout vs end h.1 past))))

  laid_named : (o : Options) (layout : Layout) (ms : Members) (end : OrderedTree) → AreNamedOfTexts ms → MembersOf o end no_members → MembersOf o (on_lines layout (laid_members layout ms) end) ms
  laid_named o layout no_members end h past = past
  laid_named o layout (member name v ms) end h past =
      MembersOf.pass_to_members refl (MembersOf.pass_to_members refl (MembersOf.one_member (property_has o layout name v h.0 (laid_value o layout v h.1)) (past_comma_members o (layout.trailing_commas || is_some_node (laid_members layout ms)) _ ms (laid_named o layout ms end h.2 past))))

pub laid_pair : (o : Options) (layout : Layout) (name : List ℕ) (v : Plain) → IsCharacters name → IsOfTexts v → PropertyOf o (laid_property layout name v).below name v
laid_pair o layout name v texts h = property_has o layout name v texts (laid_value o layout v h)
