-- An entry is taken out, and then its comments.
use Rattle.std.proofs.Common.{◌≡◌, inl, inr, ℕ, ◌<◌, Bool, true, false, cond, ◌==◌, if◌then◌else◌, filter, IsTrue, ◌++◌, not, List, [], ◌∷◌, length, slice_range, Option, Some, None, Result, Ok, Err, is_ok, IfErr, OnErr, OnOk, refl, sym, ap, subst, ◌∙◌, arith}
use Rattle.std.specs.List.{All}
use Rattle.std.proofs.lemmas.Bool.{cases_Bool, false≢true}
use Rattle.std.proofs.lemmas.List.Elements.{All-cons, All-head, All-nil, All-tail, All-weaker}
use Rattle.jsonc_text.specs.declared.edit.EditError.{EditError}
use Rattle.jsonc_text.specs.declared.edit.EditError.TheVariants.{NotAnEntry, OutOfMemory}
use Rattle.jsonc_tree.specs.Changes.{Splices}
use Rattle.jsonc_tree.specs.Content as content
use Rattle.jsonc_tree.specs.Content.{Content, is_container}
use Rattle.jsonc_tree.specs.Tree.{Node, content_at, children_at, parent_at, is_container_at, is_in, IsTree}
use Rattle.jsonc_layout.specs.nodes.Kinds.{is_comment, is_comment_at}
use Rattle.jsonc_sort.specs.Leads.{own_lead}
use Rattle.jsonc_sort.specs.Parts.{Part}
use Rattle.jsonc_edit.specs.Comments.{space_needed_without}
use Rattle.jsonc_edit.specs.remove.Removed.{is_hollow, IsClosedUp}
use Rattle.jsonc_edit.specs.remove.Comments.{begins_line, blanks_at, AreCleared, ClearedBy, IsCleared, none_left, not_there, one_cleared}
use Rattle.jsonc_edit.proofs.lemmas.remove.ClearedComments.{same_cleared}
use Rattle.jsonc_cst.specs.declared.cst.node.CstNode.{CstNode}
use Rattle.jsonc_cst.specs.declared.cst.node.CstNode.TheVariants.{Container, Leaf}
use Rattle.jsonc_cst.specs.Nodes.{number_of, typed, typed_at, IsNodeOf}
use Rattle.jsonc_cst.specs.typed.Edits.{NodesStillThere}
use Rattle.jsonc_cst.specs.declared.cst.CstRootNode.{CstRootNode}
use Rattle.jsonc_cst.specs.declared.typed.removing.Removal.{Removal}
use Rattle.jsonc_cst.specs.declared.typed.removing.Removal.TheVariants.{Clearing, OfComment, OfElement, OfLeaf}
use Rattle.jsonc_cst.specs.Document.{nodes_of}
use Rattle.jsonc_cst.specs.EntryComments.{comment_numbers, comments_around, comments_at, comments_of_part, is_entry_at}
use Rattle.jsonc_cst.specs.typed.Calls.{IsEntryRemoval, IsRemoval, IsRemovalWithComments}
use Rattle.jsonc_cst.specs.typed.Removing.{is_name_or_value, removal_of, AreClearedIfAny, CommentsRemoved, EntryCleared, IsDetachedBy, IsKeptIn, IsKeptWithComments, IsLooseFor}
use Rattle.jsonc_cst.proofs.Family.{number_of-typed, typed_held}
use Rattle.jsonc_cst.proofs.lemmas.typed.ClearedChains.{steps_made}
use Rattle.jsonc_cst.proofs.lemmas.typed.Detached.{nobodys}
use Rattle.jsonc_cst.proofs.lemmas.typed.Places.{comment_kind}
use Rattle.jsonc_cst.proofs.lemmas.typed.HandlesKept.{nodes_stay, stay_both, stay_same, stay_spliced, Stays}

-- nodes that are there still are there by their numbers, and containers are ones
module _ (old new : List Node) (handles : NodesStillThere old new) (n : ℕ) (there : n < length old) where
  held : IsNodeOf new (typed_at old n)
  held = handles (typed_at old n) (typed_held old n there)

  same : number_of (typed_at old n) ≡ n
  same = number_of-typed (content_at old n) n

  pub there_still : n < length new
  there_still = subst (λ k. k < length new) same held.0

  abbrev is_holder : CstNode → Bool
  is_holder (Container x) = true
  is_holder (Leaf x) = false

  holder_typed : (what : Content) (k : ℕ) → is_holder (typed what k) ≡ is_container what
  holder_typed content.root k = refl
  holder_typed content.object k = refl
  holder_typed content.array k = refl
  holder_typed content.property k = refl
  holder_typed (content.string s) k = refl
  holder_typed (content.word s) k = refl
  holder_typed (content.number s) k = refl
  holder_typed (content.boolean b) k = refl
  holder_typed content.null k = refl
  holder_typed (content.token c) k = refl
  holder_typed (content.whitespace s) k = refl
  holder_typed (content.newline k) m = refl
  holder_typed (content.comment s) k = refl

  pub contains_still : is_container_at new n ≡ is_container_at old n
  contains_still =
      sym (holder_typed (content_at new n) n) ∙ ap is_holder (subst (λ k. typed_at new k ≡ typed_at old n) same held.1) ∙ holder_typed (content_at old n) n

-- comments are still comments
module _ (old new : List Node) (handles : NodesStillThere old new) where
  kind_comment : (x : Content) (n : ℕ) → IsTrue (is_comment x) → removal_of (typed x n) ≡ OfComment
  kind_comment (content.comment s) n h = refl
  kind_comment x n h = cc

  comment_still : (n : ℕ) → n < length old → IsTrue (is_comment_at old n) → IsTrue (is_comment_at new n)
  comment_still n there h =
      let same : typed_at new n ≡ typed_at old n = subst (λ k. typed_at new k ≡ typed_at old n) (number_of-typed (content_at old n) n) (handles (typed_at old n) (typed_held old n there)).1 in
      comment_kind (content_at new n) n (ap removal_of same ∙ kind_comment (content_at old n) n h)

  pub comments_still : (ns : List ℕ) → All (λ n. n < length old) ns → All (λ n. IsTrue (is_comment_at old n)) ns → All (λ n. IsTrue (is_comment_at new n)) ns
  comments_still [] there h = All-nil (λ n. IsTrue (is_comment_at new n))
  comments_still (n ∷ ns) there h =
      All-cons (λ k. IsTrue (is_comment_at new k)) n ns (comment_still n (All-head (λ k. k < length old) n ns there) (All-head (λ k. IsTrue (is_comment_at old k)) n ns h))
      (comments_still ns (All-tail (λ k. k < length old) n ns there) (All-tail (λ k. IsTrue (is_comment_at old k)) n ns h))

-- those of an entry are comments
filtered : (p : ℕ → Bool) (xs : List ℕ) → All (λ n. IsTrue (p n)) (filter p xs)
filtered p [] = All-nil (λ n. IsTrue (p n))
filtered p (x ∷ xs) = by (p x) refl (filtered p xs)
  where
    by : (b : Bool) → p x ≡ b → All (λ n. IsTrue (p n)) (filter p xs) → All (λ n. IsTrue (p n)) (cond b (x ∷ filter p xs) (filter p xs))
    by true h rest = All-cons (λ n. IsTrue (p n)) x (filter p xs) h rest
    by false h rest = rest

part_comments : (at : ℕ → Content) (n : ℕ) (lead : List ℕ) (ps : List Part) → All (λ m. IsTrue (is_comment (at m))) (comments_of_part at n lead ps)
part_comments at n lead [] = All-nil (λ m. IsTrue (is_comment (at m)))
part_comments at n lead (part ∷ rest) = by (part.element == n) (part_comments at n part.behind rest)
  where
    by : (b : Bool) → All (λ m. IsTrue (is_comment (at m))) (comments_of_part at n part.behind rest)
        → All (λ m. IsTrue (is_comment (at m))) (if b then comments_around at lead part.tail else comments_of_part at n part.behind rest)
    by true more = filtered (λ m. is_comment (at m)) (own_lead at lead ++ part.tail)
    by false more = more

entry_comments : {A : Type 0} (d : CstRootNode A) (node : CstNode) → All (λ n. IsTrue (is_comment_at (nodes_of d) n)) (comment_numbers d node)
entry_comments d node = by (is_entry_at (nodes_of d) (number_of node))
  where
    by : (b : Bool) → All (λ n. IsTrue (is_comment_at (nodes_of d) n)) (if b then comments_at (nodes_of d) (number_of node) else [])
    by true = part_comments (content_at (nodes_of d)) (number_of node) _ _
    by false = All-nil (λ n. IsTrue (is_comment_at (nodes_of d) n))

-- a node's parent is a container
pub parent_contains : (ns : List Node) → IsTree ns → (n c : ℕ) → parent_at ns n ≡ Some c → is_container_at ns c ≡ true
parent_contains ns tree n c said = by (is_container_at ns c) refl
  where
    by : (b : Bool) → is_container_at ns c ≡ b → is_container_at ns c ≡ true
    by true e = e
    by false e = absurd (omega (arith, tree.within n c said, ap length (tree.leaf c e)))

pub all_still : (old new : List Node) → NodesStillThere old new → (ns : List ℕ) → All (λ n. n < length old) ns → All (λ n. n < length new) ns
all_still old new handles ns all = All-weaker (λ n. n < length old) (λ n. n < length new) (λ n h. there_still old new handles n h) ns all

-- what was there is there still where comments were removed
stay_one : (old new : List Node) (c n : ℕ) → parent_at old n ≡ Some c → IsCleared old new c n → Stays old new
stay_one old new c n said cleared = let s = same_cleared old new c n said cleared in record { len = omega (arith, s.len); content = λ m h. s.content m }

stay_closed : (old new : List Node) (c : ℕ) → IsClosedUp old new c → Stays old new
stay_closed old new c closed =
    elim (cases_Bool (is_hollow old c)) [
      | inl e ↦ stay_spliced old new _ _ _ _ (closed.0 e)
      | inr e ↦ stay_same old new (closed.1 (ap not e))
    ]

stay_cleared : (old new : List Node) (c : ℕ) (ns : List ℕ) → AreCleared old new c ns → Stays old new
stay_cleared old new c _ (none_left closed) = stay_closed old new c closed
stay_cleared old new c _ (not_there {rest = rest} away more) = stay_cleared old new c rest more
stay_cleared old new c _ (one_cleared {n = n} {rest = rest} mid tree said cleared more) = stay_both old mid new (stay_one old mid c n said cleared) (stay_cleared mid new c rest more)

pub stay_if_any : (old new : List Node) (c : ℕ) (ns : List ℕ) → AreClearedIfAny old new c ns → Stays old new
stay_if_any old new c [] e = stay_same old new e
stay_if_any old new c (n ∷ rest) cleared = stay_cleared old new c (n ∷ rest) cleared

-- a detached node stays detached
none_spliced : (old new : List Node) (c i j n : ℕ) → Splices old new c i j [] → parent_at old n ≡ None → parent_at new n ≡ None
none_spliced old new c i j n s e = s.parents n ∙ by (is_in n (slice_range (children_at old c) i j))
  where
    by : (b : Bool) → cond b None (parent_at old n) ≡ None
    by true = refl
    by false = e

none_same : (old new : List Node) (n : ℕ) → new ≡ old → parent_at old n ≡ None → parent_at new n ≡ None
none_same old new n same e = ap (λ ns. parent_at ns n) same ∙ e

none_by : (old new : List Node) (c k n : ℕ) → parent_at old k ≡ Some c → (b : Bool) (o : Option ℕ) → ClearedBy old new c k b o → parent_at old n ≡ None → parent_at new n ≡ None
none_by old new c k n said true o s e = none_spliced old new c _ _ n s e
none_by old new c k n said false None r e = none_spliced old new c _ _ n (r c said) e
none_by old new c k n said false (Some m) same e = none_same old new n same e

none_closed : (old new : List Node) (c n : ℕ) → IsClosedUp old new c → parent_at old n ≡ None → parent_at new n ≡ None
none_closed old new c n closed e =
    elim (cases_Bool (is_hollow old c)) [
      | inl h ↦ none_spliced old new c _ _ n (closed.0 h) e
      | inr h ↦ none_same old new n (closed.1 (ap not h)) e
    ]

none_cleared : (old new : List Node) (c : ℕ) (ns : List ℕ) (n : ℕ) → AreCleared old new c ns → parent_at old n ≡ None → parent_at new n ≡ None
none_cleared old new c _ n (none_left closed) e = none_closed old new c n closed e
none_cleared old new c _ n (not_there {rest = rest} away more) e = none_cleared old new c rest n more e
none_cleared old new c _ n (one_cleared {n = k} {rest = rest} mid tree said cleared more) e =
    none_cleared mid new c rest n more (none_by old mid c k n said (begins_line old (children_at old c) (blanks_at old c k)) (space_needed_without old c k) cleared e)

none_if_any : (old new : List Node) (c : ℕ) (ns : List ℕ) (n : ℕ) → AreClearedIfAny old new c ns → parent_at old n ≡ None → parent_at new n ≡ None
none_if_any old new c [] n same e = none_same old new n same e
none_if_any old new c (k ∷ rest) n cleared e = none_cleared old new c (k ∷ rest) n cleared e

detached_still : (r : Removal) (old new : List Node) (c : ℕ) (ns : List ℕ) (n : ℕ) → IsTree new → AreClearedIfAny old new c ns → IsDetachedBy r old n → IsDetachedBy r new n
detached_still Clearing old new c ns n after cleared d = tt
detached_still OfComment old new c ns n after cleared d = nobodys new n after (none_if_any old new c ns n cleared d.0)
detached_still OfElement old new c ns n after cleared d = nobodys new n after (none_if_any old new c ns n cleared d.0)
detached_still OfLeaf old new c ns n after cleared d = nobodys new n after (none_if_any old new c ns n cleared d.0)

-- a node with a parent is not loose
loose_none : (r : Removal) (ns : List Node) (n c : ℕ) → parent_at ns n ≡ Some c → IsLooseFor r ns n → ⊥
loose_none Clearing ns n c said h = h
loose_none OfComment ns n c said h = let wrong : None ≡ Some c = sym h ∙ said in cc
loose_none OfElement ns n c said h = let wrong : None ≡ Some c = sym h ∙ said in cc
loose_none OfLeaf ns n c said h = let wrong : None ≡ Some c = sym h ∙ said in cc

module _ {A : Type 0} (old : CstRootNode A) (node : CstNode) where
  kept_so : (r : Result (Unit {0}) EditError) → IfErr r (IsKeptIn old node) → IfErr r (IsKeptWithComments old node)
  kept_so (Ok u) h = tt
  kept_so (Err e) h = inr h

  ok_absurd : (r : Result (Unit {0}) EditError) (P : Type 0) → P → OnOk r P
  ok_absurd (Ok u) P x = x
  ok_absurd (Err e) P x = tt

  -- of a node without a parent it is the removal alone
  pub cleared_alone : (new : CstRootNode A) (r : Result (Unit {0}) EditError) → parent_at (nodes_of old) (number_of node) ≡ None → IsRemoval old new node r → IsRemovalWithComments old new node r
  cleared_alone new r none i = record {
    removed = ok_absurd r (EntryCleared old new node) (λ c said. absurd (let wrong : None ≡ Some c = sym none ∙ said in cc));
    alone = λ h. i;
    gone = i.gone;
    untouched = i.untouched;
    handles = i.handles;
    error = kept_so r i.error;
    memory = i.memory;
    kept = i.kept;
    document = i.document;
  }

  -- and where it is refused
  pub cleared_refused : (new : CstRootNode A) (r : Result (Unit {0}) EditError) → is_ok r ≡ false → IsRemoval old new node r → IsRemovalWithComments old new node r
  cleared_refused new (Ok u) failed i = absurd (let wrong : true ≡ false = failed in cc)
  cleared_refused new (Err e) failed i = record {
    removed = tt;
    alone = λ h. i;
    gone = tt;
    untouched = i.untouched;
    handles = i.handles;
    error = inr i.error;
    memory = i.memory;
    kept = i.kept;
    document = i.document;
  }

  -- and where there is no memory for the numbers of an entry's comments
  pub cleared_unread : {X : Type 0} (c : ℕ) → parent_at (nodes_of old) (number_of node) ≡ Some c → (r : Result X EditError) → ((x : X) → r ≡ Ok x → ⊥) → OnErr r (IsTrue (is_entry_at (nodes_of old) (number_of node))) → IsRemovalWithComments old old node (Err OutOfMemory)
  cleared_unread c said (Ok x) unread entry = absurd (unread x refl)
  cleared_unread c said (Err e) unread entry = record {
    removed = tt;
    alone = λ none. absurd (let wrong : None ≡ Some c = sym none ∙ said in cc);
    gone = tt;
    untouched = λ loose. refl;
    handles = λ x h. h;
    error = inl (refl, entry);
    memory = λ o sound over. refl;
    kept = record { len = omega arith; content = λ n h. refl; parent = λ n h. refl; children = λ n h. refl };
    document = refl;
  }

  -- and then its comments are removed
  pub cleared_entry : (mid new : CstRootNode A) (c : ℕ) → parent_at (nodes_of old) (number_of node) ≡ Some c → IsTree (nodes_of mid) → IsTree (nodes_of new) → (r : Result (Unit {0}) EditError) → is_ok r ≡ true → IsRemoval old mid node r
      → All (λ n. n < length (nodes_of old)) (comment_numbers old node) → AreClearedIfAny (nodes_of mid) (nodes_of new) c (comment_numbers old node) → IsRemovalWithComments old new node r
  cleared_entry mid new c said between after (Err e) made i there cleared = absurd (let wrong : false ≡ true = made in cc)
  cleared_entry mid new c said between after (Ok u) made i there cleared = record {
    removed = λ d told.
        let both : Some c ≡ Some d = sym said ∙ told in
        let same : c ≡ d = cc in
        record {
          without = nodes_of mid;
          tree = between;
          taken = i.removed;
          written = i.written;
          around = i.around;
          step = i.step;
          cleared = subst (λ k. AreClearedIfAny (nodes_of mid) (nodes_of new) k (comment_numbers old node)) same cleared;
          steps =
              subst (λ k. CommentsRemoved (nodes_of mid) (nodes_of new) k (comment_numbers old node)) same
              (steps_made (nodes_of mid) (nodes_of new) c (comment_numbers old node) between after (comments_still (nodes_of old) (nodes_of mid) i.handles (comment_numbers old node) there (entry_comments old node)) cleared);
        };
    alone = λ none. absurd (let wrong : None ≡ Some c = sym none ∙ said in cc);
    gone = detached_still (removal_of node) (nodes_of mid) (nodes_of new) c (comment_numbers old node) (number_of node) after cleared i.gone;
    untouched = λ loose. absurd (loose_none (removal_of node) (nodes_of old) (number_of node) c said loose);
    handles = λ x h. nodes_stay (nodes_of mid) (nodes_of new) (stay_if_any (nodes_of mid) (nodes_of new) c (comment_numbers old node) cleared) x (i.handles x h);
    error = tt;
    memory = λ o. tt;
    kept = tt;
    document = tt;
  }

  -- the name or the value of a property is refused
  pub part_refused : is_name_or_value (nodes_of old) (number_of node) ≡ true → IsEntryRemoval old old node (Err NotAnEntry)
  part_refused part = record {
    removed = λ other. absurd (let wrong : true ≡ false = sym part ∙ other in cc);
    refused = λ h. (refl, refl);
    handles = λ x h. h;
    kept = record { len = omega arith; content = λ n h. refl; parent = λ n h. refl; children = λ n h. refl };
    document = refl;
  }

  -- and any other node is removed
  pub other_removed : (new : CstRootNode A) (r : Result (Unit {0}) EditError) → is_name_or_value (nodes_of old) (number_of node) ≡ false → IsRemovalWithComments old new node r → IsEntryRemoval old new node r
  other_removed new r other i = record {
    removed = λ h. i;
    refused = λ part. absurd (false≢true (sym other ∙ part));
    handles = i.handles;
    kept = i.kept;
    document = i.document;
  }
