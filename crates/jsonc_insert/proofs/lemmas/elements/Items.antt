-- The values of an array's row where blank lines leave it, and where an element comes into it.
use Rattle.std.proofs.Common.{◌≡◌, ◌∙◌, ℕ, suc, Bool, not, List, [], ◌∷◌, refl, sym, ap, subst, if◌then◌else◌}
use Rattle.jsonc_text.specs.Options.{Options}
use Rattle.jsonc_text.specs.Plain.{Plain, Items, no_items, item}
use Rattle.jsonc_tree.specs.Content.{Content, newline}
use Rattle.jsonc_tree.specs.OrderedTree.{OrderedTree, Top, none, more, followed_by}
use Rattle.jsonc_tree.specs.Values as values
use Rattle.jsonc_tree.specs.Values.{ItemsOf}
use Rattle.jsonc_sound.specs.Shape.{token_then}
use Rattle.jsonc_sound.specs.Leaving.{element_count}
use Rattle.jsonc_sound.specs.RowLaws.{items_then}
use Rattle.jsonc_sound.specs.Sound.{HasValue}
use Rattle.jsonc_sound.specs.TriviaChanges.{AreTrivia, leaves_then}
use Rattle.jsonc_sound.proofs.Entries.{blanks_trivia}
use Rattle.jsonc_sound.proofs.FirstNodes.{value_of_element}
use Rattle.jsonc_sound.proofs.JoinedRows.{joined_items, parted_items}
use Rattle.jsonc_sound.proofs.RemovedEntries.{item_taken}
use Rattle.jsonc_sound.proofs.RootRows.{trivia_passed}
use Rattle.jsonc_insert.specs.elements.Coming.{FirstLinesLeave, none_first, leave_first, LastLinesLeave, none_last, leave_last, BlankLinesLeave, Gap, nothing, a_space, a_line, CommaInserted, none_comes, one_comes, GoesOn, elements_follow, none_follow, comma_last, ElementInserted, comes}
use Rattle.jsonc_insert.specs.elements.Laws.{ItemInserted, this_item, later_item, item_count}
use Rattle.jsonc_insert.proofs.lemmas.elements.Stretches.{count_one}

-- the new value behind these
comes_behind : (v : Plain) (vs ws : Items) → ItemInserted v (item_count vs) (items_then vs ws) (items_then vs (item v ws))
comes_behind v no_items ws = this_item
comes_behind v (item w vs) ws = later_item (comes_behind v vs ws)

module _ (o : Options) where
  put_before : (ls : List Content) {row : OrderedTree} {vs : Items} → AreTrivia ls → ItemsOf o row vs → ItemsOf o (leaves_then ls row) vs
  put_before [] h g = g
  put_before (content ∷ ls) h g = values.pass_to_items (trivia_passed content h.0) (put_before ls h.1 g)

  taken_before : (ls : List Content) {row : OrderedTree} {vs : Items} → AreTrivia ls → ItemsOf o (leaves_then ls row) vs → ItemsOf o row vs
  taken_before [] h g = g
  taken_before (content ∷ ls) h g = taken_before ls h.1 (item_taken o (trivia_passed content h.0) g)

  first_items : {row kept : OrderedTree} {vs : Items} → FirstLinesLeave row kept → ItemsOf o row vs → ItemsOf o kept vs
  first_items none_first g = g
  first_items (leave_first spaces gone k row h w) g =
      let line = item_taken o {content = newline k} refl (taken_before spaces (blanks_trivia spaces h) g) in
      put_before spaces (blanks_trivia spaces h) (values.pass_to_items {content = newline k} refl (taken_before gone (blanks_trivia gone w) line))

  last_items : {row kept : OrderedTree} {vs : Items} → LastLinesLeave row kept → ItemsOf o row vs → ItemsOf o kept vs
  last_items none_last g = g
  last_items (leave_last front gone spaces k w h) g =
      let back : OrderedTree = more (newline k) none (leaves_then spaces none) in
      let d = parted_items o front (leaves_then gone back) g in
      subst (ItemsOf o (followed_by front back)) (sym d.4) (joined_items o d.2 (taken_before gone (blanks_trivia gone w) d.3))

  pub kept_items : {row kept : OrderedTree} {vs : Items} → BlankLinesLeave row kept → ItemsOf o row vs → ItemsOf o kept vs
  kept_items b g = first_items b.first (last_items b.last g)

  -- there are as many as elements
  pub counted : {row : OrderedTree} {vs : Items} → ItemsOf o row vs → item_count vs ≡ element_count row
  counted values.no_more_items = refl
  counted (values.pass_to_items {after = after} p g) = counted g ∙ sym (ap (λ b. if (not b) then suc (element_count after) else element_count after) p)
  counted (values.one_item {content = content} {below = below} {after = after} h g) = ap suc (counted g) ∙ sym (count_one content below after (value_of_element h))

  gap_items : {b : Bool} {gap : List Content} {row : OrderedTree} {vs : Items} → Gap b gap → ItemsOf o row vs → ItemsOf o (leaves_then gap row) vs
  gap_items nothing g = g
  gap_items a_space g = values.pass_to_items refl g
  gap_items (a_line i) g = values.pass_to_items refl (values.pass_to_items refl g)

  comma_before : {row : OrderedTree} {vs : Items} → ItemsOf o row vs → ItemsOf o (token_then 0x2C row) vs
  comma_before g = values.pass_to_items refl g

  first_with_comma : {content : Content} {below row : OrderedTree} {vs : Items} → ItemsOf o (more content below row) vs → ItemsOf o (more content below (token_then 0x2C row)) vs
  first_with_comma (values.pass_to_items p g) = values.pass_to_items p (comma_before g)
  first_with_comma (values.one_item h g) = values.one_item h (comma_before g)

  led_items : {front led : OrderedTree} {vs : Items} → CommaInserted front led → ItemsOf o front vs → ItemsOf o led vs
  led_items none_comes g = g
  led_items (one_comes front last beside el be) g =
      let rest : OrderedTree = leaves_then beside none in
      let d = parted_items o front (more last.content last.below rest) g in
      subst (ItemsOf o (followed_by front (more last.content last.below (token_then 0x2C rest)))) (sym d.4) (joined_items o d.2 (first_with_comma d.3))

  behind_items : {before : List Content} {rest behind : OrderedTree} {vs : Items} → GoesOn o before rest behind → ItemsOf o rest vs → ItemsOf o behind vs
  behind_items (elements_follow gap w n) g = comma_before (gap_items w g)
  behind_items (none_follow gap w n) g = gap_items w g
  behind_items (comma_last t b n) g = comma_before g

  pub items_come : {top : Top} {i : ℕ} {row new : OrderedTree} {v : Plain} {us : Items} → ElementInserted o top i row new → HasValue o top v → ItemsOf o row us → (ws : Items) × ItemInserted v i us ws × ItemsOf o new ws
  items_come {v = v} (comes front back led behind gap c t n w g q e) h r =
      let d = parted_items o front back r in
      let number : ItemInserted v (element_count front) (items_then d.0 d.1) (items_then d.0 (item v d.1)) =
      subst (λ j. ItemInserted v j (items_then d.0 d.1) (items_then d.0 (item v d.1))) (counted d.2) (comes_behind v d.0 d.1) in (
        items_then d.0 (item v d.1),
        subst (λ l. ItemInserted v (element_count front) l (items_then d.0 (item v d.1))) (sym d.4) number,
        joined_items o (led_items c d.2) (gap_items w (values.one_item h (behind_items g d.3))),
      )
