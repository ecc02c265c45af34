-- Edits that were made at a node, and such as were refused there.
use Rattle.std.proofs.Common.{◌≡◌, ◌<◌, ◌≤◌, ◌∙◌, ◌↔◌, ℕ, Bool, true, false, length, None, Result, Ok, Err, IfErr, OnErr, OnOk, refl, sym, ap, subst, arith}
use Rattle.std.proofs.lemmas.Bool.{false≢true}
use Rattle.jsonc_text.specs.declared.edit.EditError.{EditError}
use Rattle.jsonc_text.specs.declared.edit.EditError.TheVariants.{NestingDepthExceeded, NoSuchPlace}
use Rattle.jsonc_tree.specs.Building.{Keeps}
use Rattle.jsonc_tree.specs.OrderedTree.{ordered_tree}
use Rattle.jsonc_tree.specs.Tree.{parent_at}
use Rattle.jsonc_tree.proofs.Builder.{Keeps-same}
use Rattle.jsonc_run.specs.Depth.{needs_at}
use Rattle.jsonc_run.specs.Edits.{PlainEdit, MakesAt}
use Rattle.jsonc_run.specs.Refusals.{RefusedAt}
use Rattle.jsonc_cst.specs.declared.cst.CstRootNode.{CstRootNode}
use Rattle.jsonc_cst.specs.Document.{nodes_of}
use Rattle.jsonc_cst.specs.typed.There.{detached, refused, too_deep, IsMadeThere}

-- what is told not to be so is not
pub not_told : {P : Type 0} (b : Bool) → (b ≡ true) ↔ P → b ≡ false → ¬ P
not_told b told is = λ p. false≢true (sym is ∙ told.1 p)

-- a value that fits
pub fits_told : (b : Bool) (limit n : ℕ) → (b ≡ true) ↔ (n ≤ limit) → b ≡ true → ¬ (limit < n)
fits_told b limit n told is = λ deep. (let few : n ≤ limit = told.0 is in omega (arith, few, deep))

pub deep_told : (b : Bool) (limit n : ℕ) → (b ≡ true) ↔ (n ≤ limit) → b ≡ false → limit < n
deep_told b limit n told is = omega (arith, not_few)
  where
    not_few : ¬ (n ≤ limit)
    not_few = not_told b told is

-- what was made at a node was made at the node of this number
pub at_number : {A : Type 0} {old new : CstRootNode A} {k n : ℕ} {e : PlainEdit} {r : Result (Unit {0}) EditError} → k ≡ n → IsMadeThere old new k e r → IsMadeThere old new n e r
at_number {old = old} {new = new} {e = e} {r = r} same said = subst (λ m. IsMadeThere old new m e r) same said

module _ {A : Type 0} (old : CstRootNode A) (n : ℕ) (e : PlainEdit) where
  pub too_deep_there : 512 < needs_at (nodes_of old) n e → IsMadeThere old old n e (Err NestingDepthExceeded)
  too_deep_there deep = record { made = tt; fits = tt; error = too_deep deep; kept = Keeps-same (length (nodes_of old)) (nodes_of old); document = refl }

  module _ (new : CstRootNode A) where
    pub detached_there : parent_at (nodes_of old) n ≡ None → nodes_of new ≡ nodes_of old → IsMadeThere old new n e (Err NoSuchPlace)
    detached_there alone same = record {
      made = tt;
      fits = tt;
      error = detached alone;
      kept = subst (Keeps (length (nodes_of old)) (nodes_of old)) (sym same) (Keeps-same (length (nodes_of old)) (nodes_of old));
      document = ap (λ ns. ordered_tree ns 0) same;
    }

    pub made_there : MakesAt (nodes_of old) n e (nodes_of new) → ¬ (512 < needs_at (nodes_of old) n e) → IsMadeThere old new n e (Ok tt)
    made_there made small = record { made = made; fits = small; error = tt; kept = tt; document = tt }

    pub refused_there : (why : EditError) → RefusedAt (nodes_of old) n e why → Keeps (length (nodes_of old)) (nodes_of old) (nodes_of new) → ordered_tree (nodes_of new) 0 ≡ ordered_tree (nodes_of old) 0
        → IsMadeThere old new n e (Err why)
    refused_there why k kept same = record { made = tt; fits = tt; error = refused k; kept = kept; document = same }

    pub done_there : (r : Result (Unit {0}) EditError) → OnOk r (MakesAt (nodes_of old) n e (nodes_of new)) → ¬ (512 < needs_at (nodes_of old) n e) → IfErr r (RefusedAt (nodes_of old) n e)
        → OnErr r (Keeps (length (nodes_of old)) (nodes_of old) (nodes_of new)) → OnErr r (ordered_tree (nodes_of new) 0 ≡ ordered_tree (nodes_of old) 0) → IsMadeThere old new n e r
    done_there (Ok x) made small k kept same = made_there made small
    done_there (Err why) made small k kept same = refused_there why k kept same
