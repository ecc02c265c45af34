-- Rows of leaves that fill a text between two places.
use Rattle.std.proofs.Common.{ℕ, ◌≡◌, ◌∙◌, ◌==◌, sym, ap, subst, List, ◌∷◌, arith, IsTrue, IsCharBoundary}
use Rattle.jsonc_text.specs.Text.{rest, next, starts}
use Rattle.jsonc_text.proofs.Basics.{test_eq}
use Rattle.jsonc_tree.specs.Content.{Content, token}
use Rattle.jsonc_tree.specs.OrderedTree.{OrderedTree, none, more, followed_by}
use Rattle.jsonc_walk.specs.Located.{LocatedItems, LocatedMembers, Between, One}
use Rattle.jsonc_sound.specs.Filling.{is_separator}
use Rattle.jsonc_sound.specs.Leaves.{end}
use Rattle.jsonc_build.specs.Laid.{FillsBetween, ItemsLaid, MembersLaid, no_element, an_element, no_property, a_property}
use Rattle.jsonc_build.specs.Making.{LeadsOn}
use Rattle.jsonc_build.proofs.GapLeaves.{fills_append, mark_fills}
use Rattle.jsonc_build.proofs.Rows.{followed_assoc}

pub fills_none : (bytes : List ℕ) (i j : ℕ) → i ≡ j → IsCharBoundary bytes j → FillsBetween bytes i j none
fills_none bytes i j e b = subst (λ k. FillsBetween bytes k j none) (sym e) (record { spans = record { from = b; to = b; order = omega arith }; fills = end })

pub fills_join : {bytes : List ℕ} {i j k : ℕ} {row after : OrderedTree} → FillsBetween bytes i j row → FillsBetween bytes j k after → FillsBetween bytes i k (followed_by row after)
fills_join f g = record {
  spans = record { from = f.spans.from; to = g.spans.to; order = omega (arith, f.spans.order, g.spans.order) };
  fills = fills_append f.fills g.fills;
}

-- elements and properties behind the leaves of a gap
pub items_behind : {bytes : List ℕ} {i j k : ℕ} {fill row : OrderedTree} {xs : LocatedItems} → FillsBetween bytes i j fill → ItemsLaid bytes j xs k row → ItemsLaid bytes i xs k (followed_by fill row)
items_behind f (no_element g) = no_element (fills_join f g)
items_behind {bytes} {i} {k = k} {fill = fill} {xs = xs} f (an_element {row = row} {below = below} {after = after} {content = content} g laid rest) =
    subst (ItemsLaid bytes i xs k) (followed_assoc fill row (more content below after)) (an_element (fills_join f g) laid rest)

pub members_behind : {bytes : List ℕ} {i j k : ℕ} {fill row : OrderedTree} {ms : LocatedMembers} → FillsBetween bytes i j fill → MembersLaid bytes j ms k row → MembersLaid bytes i ms k (followed_by fill row)
members_behind f (no_property g) = no_property (fills_join f g)
members_behind {bytes} {i} {k = k} {fill = fill} {ms = ms} f (a_property {row = row} {below = below} {after = after} g laid rest) =
    subst (MembersLaid bytes i ms k) (followed_assoc fill row (more Content.property below after)) (a_property (fills_join f g) laid rest)

-- where leaves go on
pub leads_start : {text : List ℕ} {i j : ℕ} → j ≡ i → LeadsOn text i j none
leads_start {text} e k next f = subst (λ p. FillsBetween text p k next) e f

pub leads_further : {text : List ℕ} {i j k : ℕ} {fill : OrderedTree} (row : OrderedTree) → LeadsOn text i j row → FillsBetween text j k fill → LeadsOn text i k (followed_by row fill)
leads_further {text} {i} {fill = fill} row leads f l next g = subst (FillsBetween text i l) (sym (followed_assoc row fill next)) (leads l (followed_by fill next) (fills_join f g))

-- a comma or colon that stands between two places
pub marked : (bytes : List ℕ) (i j c d : ℕ) → Between bytes (One c) i j → IsTrue (starts (λ e. e == d) (next (rest bytes i))) → IsTrue (is_separator d) → FillsBetween bytes i j (more (token d) none none)
marked bytes i j c d b here mark =
    let same : c ≡ d = test_eq c d (subst (λ t. IsTrue (starts (λ e. e == d) (next t))) b.stands here) in
    record { spans = b.spans; fills = mark_fills (b.stands ∙ ap (λ e. e ∷ rest bytes j) same) mark }

pub separator_there : (bytes : List ℕ) (i j c : ℕ) → Between bytes (One c) i j → IsTrue (is_separator c) → IsTrue (starts is_separator (next (rest bytes i)))
separator_there bytes i j c b mark = subst (λ t. IsTrue (starts is_separator (next t))) (sym b.stands) mark
