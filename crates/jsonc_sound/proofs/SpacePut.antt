-- A space that comes before an element keeps a document sound.
use Rattle.std.proofs.Common.{◌≡◌, sym, ap, subst, refl, Bool, true, false, ◌&&◌, List, [], ◌∷◌, ◌++◌, Some, None, IsTrue}
use Rattle.jsonc_text.specs.Options.{Options}
use Rattle.jsonc_tree.specs.Content.{Content}
use Rattle.jsonc_tree.specs.OrderedTree.{OrderedTree, more}
use Rattle.jsonc_sound.specs.Lines.{is_loose, ends_loosely, LinesEndLoosely, DocumentLinesEndLoosely}
use Rattle.jsonc_sound.specs.TreeChanges.{IsElement}
use Rattle.jsonc_sound.specs.TriviaChanges as changes
use Rattle.jsonc_sound.specs.TriviaChanges.{LeavesChanged, StretchChanged}
use Rattle.jsonc_sound.proofs.TriviaLeaves.{document_differs}
use Rattle.jsonc_sound.specs.Adjacent.{or_else, follower, LeavesEnd, LastEnds}
use Rattle.jsonc_sound.specs.InRows.{SpaceCome, before_element, later, deeper, SpacePut, in_root}
use Rattle.jsonc_sound.specs.SoundTrees.{SoundTree}
use Rattle.jsonc_sound.specs.Spaces.{space_then}
use Rattle.jsonc_sound.proofs.NodesAlone.{document_leaves}
use Rattle.jsonc_sound.proofs.Leaves.{parted_leaves}
use Rattle.jsonc_sound.proofs.LooseChanges.{element_no_end}
use Rattle.jsonc_sound.proofs.Spaced.{space_first, space_trivia}
use Rattle.jsonc_sound.proofs.Spaces.{last_of, space_serves}
use Rattle.jsonc_sound.proofs.Trivia.{shaped_with_trivia}

-- the space, and no more, has come
abbrev the_space : List Content
the_space = Content.whitespace (0x20 ∷ []) ∷ []

pub row_put : {x y : OrderedTree} → SpaceCome x y → LeavesChanged [] the_space x y
row_put (before_element {first = first} {content = content} {below = below} {under = under} {after = after} e) = changes.come {first = first} {below = below} content under after refl
row_put (later k) = changes.later (row_put k)
row_put (deeper k) = changes.deeper (row_put k)

pub document_put : {t u : OrderedTree} → SpacePut t u → StretchChanged [] the_space t u
document_put (in_root k) = changes.inside (row_put k)

-- line comments end as they did
both_false : (a b : Bool) → (IsTrue b → ⊥) → IsTrue (a && b) → ⊥
both_false true b f h = f h
both_false false b f h = cc

put_first : (loose at_end : Bool) (first content : Content) (below under after : OrderedTree) → IsElement content → IsTrue (ends_loosely loose at_end (more first below (more content under after))) → IsTrue (ends_loosely loose at_end (more first below (space_then (more content under after))))
put_first loose at_end (Content.newline k) content below under after e h = refl
put_first loose at_end (Content.whitespace s) content below under after e h = absurd (both_false loose (ends_loosely loose at_end (more content under after)) (element_no_end loose at_end content under after e) h)
put_first loose at_end first content below under after e h = cc

past_first : (loose at_end : Bool) (content : Content) (below x y : OrderedTree) → (IsTrue (ends_loosely loose at_end x) → IsTrue (ends_loosely loose at_end y)) → IsTrue (ends_loosely loose at_end (more content below x)) → IsTrue (ends_loosely loose at_end (more content below y))
past_first loose at_end (Content.newline k) below x y f h = refl
past_first loose at_end (Content.whitespace s) below x y f h = both loose (ends_loosely loose at_end x) (ends_loosely loose at_end y) f h
  where
    both : (a b c : Bool) → (IsTrue b → IsTrue c) → IsTrue (a && b) → IsTrue (a && c)
    both true b c f g = f g
    both false b c f g = g
past_first loose at_end content below x y f h = cc

under_first : (loose at_end : Bool) (content : Content) (x y after : OrderedTree) → IsTrue (ends_loosely loose at_end (more content x after)) → IsTrue (ends_loosely loose at_end (more content y after))
under_first loose at_end (Content.newline k) x y after h = refl
under_first loose at_end (Content.whitespace s) x y after h = h
under_first loose at_end content x y after h = cc

end_put : (loose at_end : Bool) {x y : OrderedTree} → SpaceCome x y → IsTrue (ends_loosely loose at_end x) → IsTrue (ends_loosely loose at_end y)
end_put loose at_end (before_element {first = first} {content = content} {below = below} {under = under} {after = after} e) h = put_first loose at_end first content below under after e h
end_put loose at_end (later {content = content} {below = below} {x = x} {y = y} k) h = past_first loose at_end content below x y (end_put loose at_end k) h
end_put loose at_end (deeper {content = content} {x = x} {y = y} {after = after} k) h = under_first loose at_end content x y after h

lines_put : (loose at_end : Bool) {x y : OrderedTree} → SpaceCome x y → LinesEndLoosely loose at_end x → LinesEndLoosely loose at_end y
lines_put loose at_end (before_element {content = content} {under = under} {after = after} e) l =
    (λ h. absurd (element_no_end loose at_end content under after e (l.0 h)), l.1, (λ h. cc, tt, l.2))
lines_put loose at_end (later k) l = (λ h. end_put loose at_end k (l.0 h), l.1, lines_put loose at_end k l.2)
lines_put loose at_end (deeper {content = content} k) l = (l.0, lines_put (is_loose content) false k l.1, l.2)

document_lines_put : {t u : OrderedTree} → SpacePut t u → DocumentLinesEndLoosely t → DocumentLinesEndLoosely u
document_lines_put (in_root {row = row} {new = new} k) (below, same, l) =
    let first : below ≡ row = cc in
    (new, refl, lines_put false true k (subst (LinesEndLoosely false true) first l))

pub kept_with_space : (o : Options) (t : OrderedTree) → SoundTree o t → (u : OrderedTree) → SpacePut t u → SoundTree o u
kept_with_space o t s u k =
    let d = document_differs [] the_space tt (refl, tt) (document_put k) in
    let ends = (parted_leaves o d.front d.back None (subst (λ x. LeavesEnd o x None) d.before (document_leaves o s.shaped))).0 in
    let space = last_of o d.front (Some 0x20) (space_serves o d.front (follower d.back None) ends) in
    let served : LastEnds o d.front (follower (the_space ++ d.back) None) = subst (LastEnds o d.front) (sym (ap (λ x. or_else x (follower d.back None)) space_first)) space in
    record { shaped = shaped_with_trivia o t s.shaped [] the_space u (document_put k) tt (space_trivia o, tt) d served; lines = document_lines_put k s.lines }
