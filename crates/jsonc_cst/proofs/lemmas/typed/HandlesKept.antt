-- Nodes that a document still has after an edit.
use Rattle.std.proofs.Common.{◌≡◌, not, inl, inr, ℕ, ◌<◌, ◌≤◌, List, [], ◌∷◌, length, Option, Some, None, Result, Ok, Err, OnErr, OnOk, IfSome, refl, sym, ap, subst, ◌∙◌, arith}
use Rattle.jsonc_text.specs.Plain.{Plain}
use Rattle.jsonc_tree.specs.Building.{Keeps}
use Rattle.jsonc_tree.specs.Changes.{Splices}
use Rattle.jsonc_tree.specs.OrderedTree.{Top}
use Rattle.jsonc_tree.specs.Tree.{Node, content_at, parent_at, IsTree}
use Rattle.jsonc_tree.proofs.Order.{parent_there}
use Rattle.jsonc_edit.specs.Put.{AreSpaced}
use Rattle.jsonc_edit.specs.Comments.{TakesOut}
use Rattle.jsonc_edit.specs.Reading.{IsReplaced, IsReplacedRaw}
use Rattle.jsonc_edit.specs.Replacing.{ReplacedBy}
use Rattle.jsonc_edit.proofs.TakingOut.{parents_spaced}
use Rattle.std.proofs.lemmas.Bool.{cases_Bool}
use Rattle.jsonc_edit.specs.remove.Removed.{is_hollow, IsClosedUp, IsTakenFrom, LosesChild, TakesElement}
use Rattle.jsonc_cst.specs.declared.cst.node.CstNode.{CstNode}
use Rattle.jsonc_cst.specs.Nodes.{number_of, typed, typed_at, IsNodeOf}
use Rattle.jsonc_cst.proofs.Family.{number_of-typed}

-- what was there is there still, and is what it was
pub record Stays (old new : List Node) : Type 0 where
  pub len : length old ≤ length new
  pub content : (n : ℕ) → n < length old → content_at new n ≡ content_at old n

pub nodes_stay : (old new : List Node) → Stays old new → (node : CstNode) → IsNodeOf old node → IsNodeOf new node
nodes_stay old new s node held = (
  omega (arith, held.0, s.len),
  ap (λ w. typed w (number_of node)) (s.content (number_of node) held.0) ∙ held.1,
)

pub stay_same : (old new : List Node) → new ≡ old → Stays old new
stay_same old new e = record { len = omega (arith, ap length e); content = λ n h. ap (λ ns. content_at ns n) e }

pub stay_both : (a b d : List Node) → Stays a b → Stays b d → Stays a d
stay_both a b d s t = record {
  len = omega (arith, s.len, t.len);
  content = λ n h. t.content n (omega (arith, h, s.len)) ∙ s.content n h;
}

pub stay_kept : (old new : List Node) → Keeps (length old) old new → Stays old new
stay_kept old new k = record { len = k.len; content = k.content }

pub stay_spliced : (old new : List Node) (c i j : ℕ) (xs : List ℕ) → Splices old new c i j xs → Stays old new
stay_spliced old new c i j xs s = record { len = omega (arith, s.len); content = λ n h. s.content n }

pub stay_spaced : (xs : List ℕ) (old new : List Node) → AreSpaced old xs new → Stays old new
stay_spaced [] old new e = stay_same old new e
stay_spaced (x ∷ xs) old new (now, leaf, r, rest) =
    stay_both old now new (stay_spliced old now _ _ _ _ r.put) (stay_spaced xs now new rest)

-- so it is where a node is replaced by another
module _ (old new : List Node) (n m : ℕ) (now : Top) (g : ReplacedBy old new n m now) where
  pub stay_given : Stays old new
  stay_given =
      stay_both old g.ready new (stay_kept old g.ready g.prepared.keeps)
      (stay_both g.ready g.spaced new (stay_spaced _ g.ready g.spaced g.spaces) (stay_spliced g.spaced new _ _ _ _ g.place.replaces.spliced))

  -- the new node is there
  pub given_there : m < length new
  given_there =
      let there : m < length g.spaced = g.place.replaces.join.in_tree 0 (omega arith) in
      omega (arith, there, g.place.replaces.spliced.len)

pub stay_replaced : (old new : List Node) (n : ℕ) (v : Plain) (m : ℕ) → IsReplaced old new n v m → Stays old new
stay_replaced old new n v m (c, said, g) = stay_given old new n m _ g

pub replaced_there : (old new : List Node) (n : ℕ) (v : Plain) (m : ℕ) → IsReplaced old new n v m → m < length new
replaced_there old new n v m (c, said, g) = given_there old new n m _ g

-- the same where no space is inserted
pub stay_raw : (old new : List Node) (n : ℕ) (v : Plain) (m : ℕ) → IsReplacedRaw old new n v m → Stays old new
stay_raw old new n v m (c, said, g) = stay_both old g.ready new (stay_kept old g.ready g.prepared.keeps) (stay_spliced g.ready new _ _ _ _ g.place.replaces.spliced)

pub raw_there : (old new : List Node) (n : ℕ) (v : Plain) (m : ℕ) → IsReplacedRaw old new n v m → m < length new
raw_there old new n v m (c, said, g) =
    let there : m < length g.ready = g.place.replaces.join.in_tree 0 (omega arith) in
    omega (arith, there, g.place.replaces.spliced.len)

-- what holds of an answer that is there
pub of_some : {T : Type 0} (P : T → Type 0) (o : Option T) (x : T) → o ≡ Some x → IfSome o P → P x
of_some P o x e h = subst (λ z. IfSome z P) e h

-- the new node by what it is
pub as_typed : (P : ℕ → Type 0) (ns : List Node) (m : ℕ) (node : CstNode) → node ≡ typed_at ns m → P m → P (number_of node)
as_typed P ns m node e h = subst P (sym (ap number_of e ∙ number_of-typed (content_at ns m) m)) h

-- and where a comment is taken out
pub stay_taken : (old new : List Node) (n : ℕ) → IsTree old → (parent_at old n ≡ None → new ≡ old) → TakesOut old new n → (o : Option ℕ) → parent_at old n ≡ o → Stays old new
stay_taken old new n tree untouched taken None e = stay_same old new (untouched e)
stay_taken old new n tree untouched taken (Some c) e =
    let t = taken c e in
    let ready : parent_at t.ready n ≡ Some c = t.prepared.keeps.parent n (parent_there old tree n c e).0 ∙ e in
    let spaced : parent_at t.spaced n ≡ Some c = parents_spaced _ t.ready t.spaced t.prepared.tree t.spaces n c ready in
    stay_both old t.ready new (stay_kept old t.ready t.prepared.keeps)
    (stay_both t.ready t.spaced new (stay_spaced _ t.ready t.spaced t.spaces) (stay_spliced t.spaced new _ _ _ _ (t.removed c spaced)))

-- whether it was taken out, or allocation failed
pub stay_either : {T E : Type 0} (old new : List Node) (n : ℕ) (r : Result T E) → IsTree old → (parent_at old n ≡ None → new ≡ old) → OnOk r (TakesOut old new n) → OnErr r (Keeps (length old) old new) → Stays old new
stay_either old new n (Ok x) tree untouched taken kept = stay_taken old new n tree untouched taken (parent_at old n) refl
stay_either old new n (Err e) tree untouched taken kept = stay_kept old new kept

-- nothing changes where a node has no parent, and what was there stays where it has one
pub stay_by : (old new : List Node) (n : ℕ) → (parent_at old n ≡ None → new ≡ old) → ((c : ℕ) → parent_at old n ≡ Some c → Stays old new) → (o : Option ℕ) → parent_at old n ≡ o → Stays old new
stay_by old new n untouched taken None e = stay_same old new (untouched e)
stay_by old new n untouched taken (Some c) e = taken c e

stay_lost : (old new : List Node) (c : ℕ) (o : Option ℕ) → LosesChild old new c o → Stays old new
stay_lost old new c None e = stay_same old new e
stay_lost old new c (Some k) s = stay_spliced old new _ _ _ _ s

stay_closed : (old new : List Node) (c : ℕ) → IsClosedUp old new c → Stays old new
stay_closed old new c closed =
    elim (cases_Bool (is_hollow old c)) [
      | inl e ↦ stay_spliced old new _ _ _ _ (closed.0 e)
      | inr e ↦ stay_same old new (closed.1 (ap not e))
    ]

-- where an element is taken out
stay_taken_from : (old new : List Node) (n c : ℕ) → IsTakenFrom old new n c → Stays old new
stay_taken_from old new n c t =
    stay_both old t.ready new (stay_kept old t.ready t.prepared.keeps)
    (stay_both t.ready t.spaced new (stay_spaced _ t.ready t.spaced t.spaces)
    (stay_both t.spaced t.parted new (stay_spliced t.spaced t.parted _ _ _ _ t.stretch)
    (stay_both t.parted t.joined new (stay_lost t.parted t.joined c _ t.comma) (stay_closed t.joined new c t.closed))))

pub stay_element : {T E : Type 0} (old new : List Node) (n : ℕ) (r : Result T E) → (parent_at old n ≡ None → new ≡ old) → OnOk r (TakesElement old new n) → OnErr r (Keeps (length old) old new) → Stays old new
stay_element old new n (Ok x) untouched taken kept = stay_by old new n untouched (λ c e. stay_taken_from old new n c (taken c e).1) (parent_at old n) refl
stay_element old new n (Err e) untouched taken kept = stay_kept old new kept
