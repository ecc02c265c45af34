-- The properties of an object's row where blank lines leave it, and where a property comes into it.
use Rattle.std.proofs.Common.{◌≡◌, ◌∙◌, ℕ, suc, Bool, not, List, [], ◌∷◌, refl, sym, ap, subst, if◌then◌else◌}
use Rattle.jsonc_text.specs.Options.{Options}
use Rattle.jsonc_text.specs.Plain.{Plain, Members, no_members, member}
use Rattle.jsonc_tree.specs.Content.{Content, newline}
use Rattle.jsonc_tree.specs.OrderedTree.{OrderedTree, none, more, followed_by}
use Rattle.jsonc_tree.specs.Values as values
use Rattle.jsonc_tree.specs.Values.{MembersOf, PropertyOf}
use Rattle.jsonc_sound.specs.Shape.{token_then}
use Rattle.jsonc_sound.specs.Leaving.{element_count}
use Rattle.jsonc_sound.specs.RowLaws.{members_then}
use Rattle.jsonc_sound.specs.TreeChanges.{property_of}
use Rattle.jsonc_sound.specs.TriviaChanges.{AreTrivia, leaves_then}
use Rattle.jsonc_sound.proofs.Entries.{blanks_trivia}
use Rattle.jsonc_sound.proofs.JoinedRows.{joined_members, parted_members}
use Rattle.jsonc_sound.proofs.RemovedEntries.{member_taken}
use Rattle.jsonc_sound.proofs.RootRows.{trivia_passed}
use Rattle.jsonc_insert.specs.elements.Coming.{FirstLinesLeave, none_first, leave_first, LastLinesLeave, none_last, leave_last, BlankLinesLeave, Gap, nothing, a_space, a_line, CommaInserted, none_comes, one_comes, GoesOn, elements_follow, none_follow, comma_last, ElementInserted, comes}
use Rattle.jsonc_insert.specs.elements.Members.{MemberInserted, this_member, later_member, member_count}

-- the new property behind these
comes_behind : (name : List ℕ) (v : Plain) (ms ns : Members) → MemberInserted name v (member_count ms) (members_then ms ns) (members_then ms (member name v ns))
comes_behind name v no_members ns = this_member
comes_behind name v (member n w ms) ns = later_member (comes_behind name v ms ns)

module _ (o : Options) where
  put_before : (ls : List Content) {row : OrderedTree} {ms : Members} → AreTrivia ls → MembersOf o row ms → MembersOf o (leaves_then ls row) ms
  put_before [] h g = g
  put_before (content ∷ ls) h g = values.pass_to_members (trivia_passed content h.0) (put_before ls h.1 g)

  taken_before : (ls : List Content) {row : OrderedTree} {ms : Members} → AreTrivia ls → MembersOf o (leaves_then ls row) ms → MembersOf o row ms
  taken_before [] h g = g
  taken_before (content ∷ ls) h g = taken_before ls h.1 (member_taken o (trivia_passed content h.0) g)

  first_members : {row kept : OrderedTree} {ms : Members} → FirstLinesLeave row kept → MembersOf o row ms → MembersOf o kept ms
  first_members none_first g = g
  first_members (leave_first spaces gone k row h w) g =
      let line = member_taken o {content = newline k} refl (taken_before spaces (blanks_trivia spaces h) g) in
      put_before spaces (blanks_trivia spaces h) (values.pass_to_members {content = newline k} refl (taken_before gone (blanks_trivia gone w) line))

  last_members : {row kept : OrderedTree} {ms : Members} → LastLinesLeave row kept → MembersOf o row ms → MembersOf o kept ms
  last_members none_last g = g
  last_members (leave_last front gone spaces k w h) g =
      let back : OrderedTree = more (newline k) none (leaves_then spaces none) in
      let d = parted_members o front (leaves_then gone back) g in
      subst (MembersOf o (followed_by front back)) (sym d.4) (joined_members o d.2 (taken_before gone (blanks_trivia gone w) d.3))

  pub kept_members : {row kept : OrderedTree} {ms : Members} → BlankLinesLeave row kept → MembersOf o row ms → MembersOf o kept ms
  kept_members b g = first_members b.first (last_members b.last g)

  -- there are as many as elements
  pub members_counted : {row : OrderedTree} {ms : Members} → MembersOf o row ms → member_count ms ≡ element_count row
  members_counted values.no_more_members = refl
  members_counted (values.pass_to_members {after = after} p g) = members_counted g ∙ sym (ap (λ b. if (not b) then suc (element_count after) else element_count after) p)
  members_counted (values.one_member h g) = ap suc (members_counted g)

  gap_members : {b : Bool} {gap : List Content} {row : OrderedTree} {ms : Members} → Gap b gap → MembersOf o row ms → MembersOf o (leaves_then gap row) ms
  gap_members nothing g = g
  gap_members a_space g = values.pass_to_members refl g
  gap_members (a_line i) g = values.pass_to_members refl (values.pass_to_members refl g)

  comma_before : {row : OrderedTree} {ms : Members} → MembersOf o row ms → MembersOf o (token_then 0x2C row) ms
  comma_before g = values.pass_to_members refl g

  first_with_comma : {content : Content} {below row : OrderedTree} {ms : Members} → MembersOf o (more content below row) ms → MembersOf o (more content below (token_then 0x2C row)) ms
  first_with_comma (values.pass_to_members p g) = values.pass_to_members p (comma_before g)
  first_with_comma (values.one_member h g) = values.one_member h (comma_before g)

  led_members : {front led : OrderedTree} {ms : Members} → CommaInserted front led → MembersOf o front ms → MembersOf o led ms
  led_members none_comes g = g
  led_members (one_comes front last beside el be) g =
      let rest : OrderedTree = leaves_then beside none in
      let d = parted_members o front (more last.content last.below rest) g in
      subst (MembersOf o (followed_by front (more last.content last.below (token_then 0x2C rest)))) (sym d.4) (joined_members o d.2 (first_with_comma d.3))

  behind_members : {before : List Content} {rest behind : OrderedTree} {ms : Members} → GoesOn o before rest behind → MembersOf o rest ms → MembersOf o behind ms
  behind_members (elements_follow gap w n) g = comma_before (gap_members w g)
  behind_members (none_follow gap w n) g = gap_members w g
  behind_members (comma_last t b n) g = comma_before g

  pub members_come : {held : OrderedTree} {i : ℕ} {row new : OrderedTree} {name : List ℕ} {v : Plain} {ls : Members} → ElementInserted o (property_of held) i row new → PropertyOf o held name v → MembersOf o row ls
      → (ns : Members) × MemberInserted name v i ls ns × MembersOf o new ns
  members_come {name = name} {v = v} (comes front back led behind gap c t n w g q e) h r =
      let d = parted_members o front back r in
      let all : Members = members_then d.0 (member name v d.1) in
      let number : MemberInserted name v (element_count front) (members_then d.0 d.1) all = subst (λ j. MemberInserted name v j (members_then d.0 d.1) all) (members_counted d.2) (comes_behind name v d.0 d.1) in (
        all,
        subst (λ l. MemberInserted name v (element_count front) l all) (sym d.4) number,
        joined_members o (led_members c d.2) (gap_members w (values.one_member h (behind_members g d.3))),
      )
