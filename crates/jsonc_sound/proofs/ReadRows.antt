-- The change of an element behind trivia and marks.
use Rattle.std.proofs.Common.{ℕ, ◌≡◌, sym, subst, refl, arith}
use Rattle.jsonc_text.specs.Options.{Options}
use Rattle.jsonc_tree.specs.Content.{Content, token}
use Rattle.jsonc_tree.specs.OrderedTree.{OrderedTree, none, more, Top}
use Rattle.jsonc_sound.specs.Shape as shape
use Rattle.jsonc_sound.specs.Shape.{Trivia, Separated, Closed, token_then}
use Rattle.jsonc_sound.specs.TreeChanges.{IsElement, ElementChanged}
use Rattle.jsonc_sound.proofs.FirstNodes.{here, over, beyond, meets_first, none_changed, no_element, trivia_over}

-- what a row goes on with has changed, and nothing before it
pub record Carried (o : Options) (was now : Top) (i : ℕ) (r new : OrderedTree) : Type 0 where
  pub rest : OrderedTree
  pub trivia : Trivia o new rest
  pub changed : ElementChanged was now i r rest

-- the first node of a row with a change of its element 0 is that element, if it is one
pub record Only (was now : Top) (content : Content) (below after new : OrderedTree) : Type 0 where
  pub top : content ≡ was.content
  pub row : below ≡ was.below
  pub made : new ≡ more now.content now.below after

module _ (o : Options) {was now : Top} where
  pub trivia_changed : {i : ℕ} {t r new : OrderedTree} → Trivia o t r → ElementChanged was now i t new → Carried o was now i r new
  trivia_changed {new = new} shape.nothing e = record { rest = new; trivia = shape.nothing; changed = e }
  trivia_changed {i} {r = r} {new = new} (shape.trivia {content = content} {t = t} h g) e =
      elim (meets_first e) [
        | here a p b q f ↦ absurd (no_element content q (trivia_over o content h))
        | over {rest = rest} q k f ↦ (let m = trivia_changed g k in record { rest = m.rest; trivia = subst (λ u. Trivia o u m.rest) (sym f) (shape.trivia h m.trivia); changed = m.changed })
        | beyond a q k f ↦ absurd (no_element content q (trivia_over o content h))
      ]

  pub token_changed : (c : ℕ) {i : ℕ} {u new : OrderedTree} → ElementChanged was now i (token_then c u) new → (s : OrderedTree) × (new ≡ token_then c s) × ElementChanged was now i u s
  token_changed c e =
      elim (meets_first e) [
        | here a p b q f ↦ absurd (no_element (token c) q refl)
        | over {rest = rest} q k f ↦ (rest, f, k)
        | beyond a q k f ↦ absurd (no_element (token c) q refl)
      ]

  pub only_changed : {content : Content} {below after new : OrderedTree} → IsElement content → ElementChanged was now 0 (more content below after) new → Only was now content below after new
  only_changed {content = content} h e =
      elim (meets_first e) [
        | here a p b q f ↦ record { top = p; row = b; made = f }
        | over q k f ↦ absurd (no_element content h q)
        | beyond a q k f ↦ absurd (omega (arith, a))
      ]

  -- trivia, a mark and trivia
  pub marked_changed : {c i : ℕ} {t u r new : OrderedTree} → Trivia o t (token_then c u) → Trivia o u r → ElementChanged was now i t new → (a b : OrderedTree) × Trivia o new (token_then c a) × Trivia o a b × ElementChanged was now i r b
  marked_changed {c} {new = new} g h e =
      let m = trivia_changed g e in
      let k = token_changed c m.changed in
      let l = trivia_changed h k.2 in
      (k.0, l.rest, subst (Trivia o new) k.1 m.trivia, l.trivia, l.changed)

  pub separated_changed : {i : ℕ} {t r new : OrderedTree} → Separated o t r → ElementChanged was now i t new → (s : OrderedTree) × Separated o new s × ElementChanged was now i r s
  separated_changed (shape.comma g h) e = let m = marked_changed g h e in (m.1, shape.comma m.2 m.3, m.4)
  separated_changed (shape.no_comma x g) e = let m = trivia_changed g e in (m.rest, shape.no_comma x m.trivia, m.changed)

  -- no element stands behind the last
  last_token : {c i : ℕ} {new : OrderedTree} → ElementChanged was now i (token_then c none) new → ⊥
  last_token {c} e = none_changed (token_changed c e).2

  pub closed_changed : {c i : ℕ} {t new : OrderedTree} → Closed o c t → ElementChanged was now i t new → ⊥
  closed_changed (shape.plain g) e = last_token (trivia_changed g e).changed
  closed_changed (shape.trailing_comma x g h) e = last_token (marked_changed g h e).4
