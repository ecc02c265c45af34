-- What setting a property's value says where only a value of a kind is kept.
use Rattle.std.proofs.Common.{◌≡◌, ℕ, Bool, true, false, List, Option, Some, None, IfSome, IfNone, Result, Ok, Err, IfOk, IfErr, OnOk, refl, sym, subst, true≢false, ◌∙◌}
use Rattle.jsonc_text.specs.Plain.{Plain}
use Rattle.jsonc_tree.specs.Content.{Content}
use Rattle.jsonc_tree.specs.Tree.{Node, content_at}
use Rattle.jsonc_edit.specs.Reading.{IsReplaced}
use Rattle.jsonc_text.specs.declared.edit.EditError.{EditError}
use Rattle.jsonc_text.specs.declared.edit.EditError.TheVariants.{OutOfMemory}
use Rattle.jsonc_layout.specs.nodes.Properties.{value_at}
use Rattle.jsonc_edit.specs.set.Kinds.{KeptOrReplaced, LacksKind}
use Rattle.jsonc_edit.specs.set.PropertyValues.{HeldOrSet, EnsureValueError, LastValue}

pub none_found : (o : Option ℕ) → ((n : ℕ) → o ≡ Some n → ⊥) → o ≡ None
none_found None not = refl
none_found (Some n) not = absurd (not n refl)

-- no value stood, and one came at the property's end
pub set_last : (kind : Content → Bool) (v w : Plain) (old new : List Node) (p : ℕ) (o : Option ℕ) (r : Result ℕ EditError) → o ≡ None → w ≡ v → IfOk r (λ m. IfNone o (LastValue old new p w m))
    → IfOk r (HeldOrSet kind v old new p o)
set_last kind v w old new p o r none same last =
    subst (λ q. IfOk r (HeldOrSet kind v old new p q)) (sym none)
    (subst (λ x. IfOk r (λ m. LastValue old new p x m)) same (subst (λ q. IfOk r (λ m. IfNone q (LastValue old new p w m))) none last))

-- a value of another kind stood, and one has taken its place
pub set_other : (kind : Content → Bool) (v w : Plain) (old new : List Node) (p : ℕ) (o : Option ℕ) (n : ℕ) (r : Result ℕ EditError) → o ≡ Some n → kind (content_at old n) ≡ false → w ≡ v
    → IfOk r (λ m. IfSome o (λ k. IsReplaced old new k w m)) → IfOk r (HeldOrSet kind v old new p o)
set_other kind v w old new p o n r found other same replaced =
    subst (λ q. IfOk r (HeldOrSet kind v old new p q)) (sym found)
    (subst (λ b. IfOk r (λ m. KeptOrReplaced b v old new n m)) (sym other)
    (subst (λ x. IfOk r (λ m. IsReplaced old new n x m)) same (subst (λ q. IfOk r (λ m. IfSome q (λ k. IsReplaced old new k w m))) found replaced)))

-- none of the kind stood
pub lacks_none : (kind : Content → Bool) (ns : List Node) (o : Option ℕ) → o ≡ None → LacksKind kind ns o
lacks_none kind ns o none = subst (LacksKind kind ns) (sym none) tt

pub lacks_other : (kind : Content → Bool) (ns : List Node) (o : Option ℕ) (n : ℕ) → o ≡ Some n → kind (content_at ns n) ≡ false → LacksKind kind ns o
lacks_other kind ns o n found other = subst (LacksKind kind ns) (sym found) other

pub on_ok : (X : Type 0) (r : Result ℕ EditError) → X → OnOk r X
on_ok X (Ok m) x = x
on_ok X (Err e) x = tt

-- allocation failed
pub unset : (kind : Content → Bool) (ns : List Node) (p : ℕ) (r : Result ℕ EditError) → IfErr r (λ e. e ≡ OutOfMemory) → LacksKind kind ns (value_at ns p) → IfErr r (EnsureValueError kind ns p)
unset kind ns p (Ok m) memory lacks = tt
unset kind ns p (Err e) memory lacks = subst (EnsureValueError kind ns p) (sym memory) lacks

pub not_missing : (b : Bool) (X : EditError → Type 0) (r : Result ℕ EditError) → b ≡ false → IfErr r (λ e. b ≡ true → X e)
not_missing b X (Ok m) is = tt
not_missing b X (Err e) is = λ lacks. absurd (true≢false (sym lacks ∙ is))
