-- Why the first property of a name is not as it is to be: nothing else is told where memory is.
use Rattle.std.proofs.Common.{◌≡◌, ◌⊎◌, ℕ, Bool, true, false, cond, inl, inr, List, Option, Some, None, Result, Ok, Err, IfErr, refl, sym, subst, ◌∙◌}
use Rattle.jsonc_tree.specs.Tree.{Node, children_at}
use Rattle.jsonc_layout.specs.nodes.Names.{FirstInObject, HoldsEscapedName}
use Rattle.jsonc_layout.specs.nodes.Properties.{lacks_name_at}
use Rattle.jsonc_text.specs.declared.edit.EditError.{EditError}
use Rattle.jsonc_text.specs.declared.edit.EditError.TheVariants.{OutOfMemory, MissingBrackets, MissingName, NoSuchPlace, InvalidComment, LineContinues, NotAnEntry, NestingDepthExceeded}
use Rattle.jsonc_insert.specs.Inserted.{refusal}
use Rattle.jsonc_insert.specs.Planned.{has_brackets}
use Rattle.jsonc_edit.specs.set.PropertyValues.{EnsureValueError}
use Rattle.jsonc_text.specs.declared.edit.Over.{Over}
use Rattle.jsonc_text.specs.declared.edit.Over.TheVariants as over
use Rattle.jsonc_text.specs.declared.edit.Shape.{Shape}
use Rattle.jsonc_insert.specs.named.Named.{to_come, to_read, to_set, EnsureError}
use Rattle.jsonc_edit.specs.set.Shapes.{is_of}

no_name : {X : Type 0} → OutOfMemory ≡ MissingName → X
no_name e = absurd (let wrong : OutOfMemory ≡ MissingName = e in cc)

-- an insertion is refused for memory or for a bracket
either : (b : Bool) (e : EditError) → e ≡ cond b OutOfMemory MissingBrackets → (e ≡ OutOfMemory) ⊎ (e ≡ MissingBrackets)
either true e is = inl is
either false e is = inr is

pub no_other : (b : Bool) (e : EditError) → e ≡ cond b OutOfMemory MissingBrackets → ¬ (e ≡ NoSuchPlace)
no_other true e is w = let wrong : OutOfMemory ≡ NoSuchPlace = sym is ∙ w in cc
no_other false e is w = let wrong : MissingBrackets ≡ NoSuchPlace = sym is ∙ w in cc

-- a flag that would tell of a name is not set where memory is told
pub named : (b : Bool) → (b ≡ true → OutOfMemory ≡ MissingName) → b ≡ false
named true told = no_name (told refl)
named false told = refl

module _ (shape : Shape) (ns : List Node) (c : ℕ) (name : List ℕ) where
  -- the names were not read
  pub none_read : {T : Type 0} (how : Over) (r : Result T EditError) → IfErr r (λ e. e ≡ OutOfMemory) → HoldsEscapedName ns c → IfErr r (EnsureError shape how ns c name)
  none_read how (Ok x) memory escaped = tt
  none_read how (Err e) memory escaped = subst (EnsureError shape how ns c name) (sym memory) (to_read escaped)

  -- none has the name, and none has come
  come_by : (how : Over) (e : EditError) → FirstInObject ns c name None → e ≡ refusal ns c → EnsureError shape how ns c name e
  come_by how e first is = by (either (has_brackets ns (children_at ns c)) e is)
    where
      by : (e ≡ OutOfMemory) ⊎ (e ≡ MissingBrackets) → EnsureError shape how ns c name e
      by (inl same) = subst (EnsureError shape how ns c name) (sym same) (to_come first (sym is ∙ same))
      by (inr same) = subst (EnsureError shape how ns c name) (sym same) (first, sym is ∙ same)

  pub none_come : (how : Over) (found : Option ℕ) (e : EditError) → FirstInObject ns c name found → ((r : ℕ) → found ≡ Some r → ⊥) → e ≡ refusal ns c
      → EnsureError shape how ns c name e
  none_come how None e first none is = come_by how e first is
  none_come how (Some r) e first none is = absurd (none r refl)

  -- the value of the one that was found has not been set
  set_by : (r : ℕ) (e : EditError) → FirstInObject ns c name (Some r) → EnsureValueError (is_of shape) ns r e → (lacks_name_at ns r ≡ true → e ≡ MissingName)
      → EnsureError shape over.Replace ns c name e
  set_by r OutOfMemory first unset missing = to_set r first (named (lacks_name_at ns r) missing) unset
  set_by r MissingName first unset missing = (r, first, unset)
  set_by r MissingBrackets first unset missing = absurd unset
  set_by r NoSuchPlace first unset missing = absurd unset
  set_by r InvalidComment first unset missing = absurd unset
  set_by r LineContinues first unset missing = absurd unset
  set_by r NotAnEntry first unset missing = absurd unset
  set_by r NestingDepthExceeded first unset missing = absurd unset

  pub none_set : (how : Over) (found : Option ℕ) (r : ℕ) (e : EditError) → how ≡ over.Replace → found ≡ Some r → FirstInObject ns c name found → EnsureValueError (is_of shape) ns r e
      → (lacks_name_at ns r ≡ true → e ≡ MissingName) → EnsureError shape how ns c name e
  none_set how found r e replaces is first unset missing =
      subst (λ h. EnsureError shape h ns c name e) (sym replaces) (set_by r e (subst (FirstInObject ns c name) is first) unset missing)
