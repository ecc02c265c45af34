-- What has been made of a whole text.
use Rattle.std.proofs.Common.{ℕ, ◌≡◌, ◌∙◌, sym, ap, subst, refl, List, length, true, Option, Some, None, IfNone, [], option_map}
use Rattle.jsonc_text.specs.Options.{Options}
use Rattle.jsonc_tree.specs.OrderedTree.{OrderedTree, none, more, followed_by, ordered_tree}
use Rattle.jsonc_tree.specs.Tree.{Node, children_at, IsTree}
use Rattle.jsonc_walk.specs.Located.{Located, range_at, value_at, IsLocatedDocument}
use Rattle.jsonc_walk.specs.Handed.{Source, IsDocumentMade, MadeBetweenGaps}
use Rattle.jsonc_walk.specs.Reached.{FitsIn}
use Rattle.jsonc_build.specs.declared.maker.DocumentMaker.{DocumentMaker}
use Rattle.jsonc_build.specs.Growth.{Grows}
use Rattle.jsonc_build.specs.Laid.{DocumentLaid, FillsBetween, Laid, RootLaid}
use Rattle.jsonc_build.specs.Making.{container_in, source_in, nodes_in, Adds, Ends, IsAt, Passes}
use Rattle.jsonc_build.proofs.AddedChildren.{grows_append, grown_root}
use Rattle.jsonc_build.proofs.Building.{text_same}
use Rattle.jsonc_build.proofs.FilledGaps.{fills_join}
use Rattle.jsonc_build.proofs.Rows.{followed_assoc}

-- the value that a document is made of
abbrev pub AddsBetween : {A : Type 0} → DocumentMaker A → DocumentMaker A → Unit {0} → Located → Type 0
AddsBetween old new = MadeBetweenGaps Passes (λ s t i x. Adds s t x) old new

module _ {A : Type 0} (old new : DocumentMaker A) (at : IsAt old 0) (end : IsAt new (length old.text.now)) where
  -- leaves that fill from the one state to the other
  filled : (a b : DocumentMaker A) (i j : ℕ) (fill : OrderedTree) → b.place ≡ j → a.place ≡ i → a.text.now ≡ old.text.now → FillsBetween a.text.now a.place b.place fill → FillsBetween old.text.now i j fill
  filled a b i j fill to from text h = subst (λ k. FillsBetween old.text.now i k fill) to (subst (λ k. FillsBetween old.text.now k b.place fill) from (subst (λ t. FillsBetween t a.place b.place fill) text h))

  ended_none : IsDocumentMade (source_in old) true (AddsBetween old new) None → Passes old new → Ends (source_in old).options old new
  ended_none located p = record {
    value = None;
    located = located;
    fits = tt;
    row = p.fill;
    grows = p.grows;
    laid = filled old new 0 (length old.text.now) p.fill end.place at.place refl p.fills;
  }

  ended_some : (i : Unit {0}) → IsDocumentMade (source_in old) true (AddsBetween old new) (Some i) → Ends (source_in old).options old new
  ended_some i (x, located, fits, (m, n, p, made, q)) =
      let text = old.text.now in
      let to_m : m.text.now ≡ text = text_same old m p.stays in
      let to_n : n.text.now ≡ text = text_same m n made.stays ∙ to_m in
      let one = more made.content made.below none in
      let first : Grows (nodes_in old) (nodes_in n) (container_in old) (followed_by p.fill (followed_by made.fill one)) = grows_append p.stays.before.in_tree p.grows (subst (λ c. Grows (nodes_in m) (nodes_in n) c (followed_by made.fill one)) p.same made.grows) in
      let whole = grows_append p.stays.before.in_tree first (subst (λ c. Grows (nodes_in n) (nodes_in new) c q.fill) (made.same ∙ p.same) q.grows) in
      let before = followed_by p.fill made.fill in
      let row = followed_by before (more made.content made.below q.fill) in
      let same : followed_by (followed_by p.fill (followed_by made.fill one)) q.fill ≡ row = ap (λ u. followed_by u q.fill) (sym (followed_assoc p.fill made.fill one)) ∙ followed_assoc before one q.fill in
      record {
        value = Some x;
        located = located;
        fits = fits;
        row = row;
        grows = subst (Grows (nodes_in old) (nodes_in new) (container_in old)) same whole;
        laid = (
          before,
          q.fill,
          made.below,
          made.content,
          refl,
          subst (λ k. FillsBetween text k (range_at x).start before) at.place (fills_join p.fills (subst (λ t. FillsBetween t m.place (range_at x).start made.fill) to_m made.fills)),
          subst (λ t. Laid t x made.content made.below) to_m made.laid,
          filled n new (range_at x).end (length text) q.fill end.place made.place to_n q.fills,
        );
      }

  pub ended : (f : Option (Unit {0})) → IsDocumentMade (source_in old) true (AddsBetween old new) f → IfNone f (Passes old new) → Ends (source_in old).options old new
  ended None made passes = ended_none made passes
  ended (Some i) made passes = ended_some i made

-- what has been read of a text, and its tree
pub record HasRead (o : Options) (text : List ℕ) (tree : OrderedTree) : Type 0 where
  pub value : Option Located
  pub located : IsLocatedDocument o text value
  pub fits : FitsIn true (option_map value_at value)
  pub laid : DocumentLaid text value tree

pub has_read : {A : Type 0} (o : Options) (text : List ℕ) (there : Source) (old new : DocumentMaker A) → source_in old ≡ record { bytes = text; options = o } → there ≡ source_in old → IsAt old 0 → IsAt new (length old.text.now)
    → (f : Option (Unit {0})) → IsDocumentMade there true (AddsBetween old new) f → IfNone f (Passes old new)
    → (tree : List Node) → (container_in old) ≡ 0 → length (nodes_in old) ≡ 1 → children_at (nodes_in old) 0 ≡ [] → IsTree tree → tree ≡ nodes_in new → HasRead o text (ordered_tree tree 0)
has_read o text there old new source same at end f made passes tree root one bare is nodes =
    let ends = ended old new at end f (subst (λ s. IsDocumentMade s true (AddsBetween old new) f) same made) passes in
    let grown = subst (λ ns. Grows (nodes_in old) ns 0 ends.row) (sym nodes) (subst (λ c. Grows (nodes_in old) (nodes_in new) c ends.row) root ends.grows) in
    let shown = grown_root (nodes_in old) tree ends.row one bare is grown in
    let located = subst (λ s. IsLocatedDocument s.options s.bytes ends.value) source ends.located in record {
      value = ends.value;
      located = located;
      fits = ends.fits;
      laid = (ends.row, shown, subst (λ s. RootLaid s.bytes ends.value ends.row) source ends.laid);
    }
