-- Commas that are set in any document, sound or not.
use Rattle.std.proofs.Common.{◌≡◌, ◌∙◌, sym, ap, subst, refl, ℕ, ◌⊎◌, ◌||◌, inl, inr, Bool, true, false, IsTrue, List, [], ◌∷◌, ◌++◌, Option, Some, None, is_some, append_assoc}
use Rattle.std.specs.List.{find, list_any, All}
use Rattle.std.proofs.lemmas.Bool.{cases_eq}
use Rattle.std.proofs.lemmas.List.Elements.{All-cons, All-nil, All-weaker}
use Rattle.jsonc_tree.specs.Siblings.{siblings_after}
use Rattle.jsonc_tree.specs.Tree.{Node, children_at, IsOver, IsTree}
use Rattle.jsonc_layout.specs.lines.Siblings.{if_comma, is_no_trivia_at, trailing_comma_at}
use Rattle.jsonc_text.specs.declared.edit.TrailingCommaMode.{TrailingCommaMode}
use Rattle.jsonc_text.specs.declared.edit.TrailingCommaMode.TheVariants.{Never, IfMultiline}
use Rattle.jsonc_edit.specs.commas.Commas.{comma_gone, comma_wanted_behind, CommaIsSet, GainsIt, LosesIt, WantsComma}
use Rattle.jsonc_edit.specs.commas.InTurn.{holders, wants_comma, AreSetInPart, AreSetInTurn, CommaIsDue}
use Rattle.jsonc_edit.specs.commas.Laws.{HasSeveral, IsSet, SetsAllButSeveral}
use Rattle.jsonc_edit.proofs.lemmas.commas.Children.{gone_child}
use Rattle.jsonc_edit.proofs.lemmas.commas.CommaRows.{comma_first}
use Rattle.jsonc_edit.proofs.lemmas.commas.Documents.{are_holders, holders_stay, left_as_it_is}
use Rattle.jsonc_edit.proofs.lemmas.commas.OwnRow.{came_now, lost_now}
use Rattle.jsonc_edit.proofs.lemmas.commas.Splits.{comma_found, gone_parted, split_after, wanted_parted, GoneComma}
use Rattle.jsonc_edit.proofs.lemmas.commas.OtherRows.{gone_same, other_row, set_same, trailing_same, SameRow}
use Rattle.jsonc_edit.proofs.Standing.{standing}

-- one comma
module _ (old new : List Node) (tree : IsTree old) (after : IsTree new) (c : ℕ) where
  -- no other comes behind it
  alone : (k : ℕ) (g : GoneComma old c k) → trailing_comma_at old k ≡ None → comma_first (standing old g.back) ≡ false
  alone k g e =
      let kids : children_at old c ≡ (g.front ++ g.last ∷ g.mid) ++ k ∷ g.back = g.are ∙ sym (append_assoc g.front (g.last ∷ g.mid) (k ∷ g.back)) in
      let row : siblings_after old k ≡ g.back = split_after old tree c k (g.front ++ g.last ∷ g.mid) g.back kids in
      comma_found old g.back ∙ ap (λ l. is_some (if_comma old (find (is_no_trivia_at old) l))) (sym row) ∙ ap (λ (o : Option ℕ). is_some o) e

  behind_it : (k : ℕ) → comma_gone old c ≡ Some k → LosesIt old new c (Some k) → (m : Option ℕ) → trailing_comma_at old k ≡ m → IsSet Never new c ⊎ HasSeveral Never old c
  behind_it k e s None f = let g = gone_parted old tree c k e in inl (lost_now old new tree after c k g s (alone k g f))
  behind_it k e s (Some m) f = inr (k, m, e, f)

  loses_any : (k : Option ℕ) → comma_gone old c ≡ k → LosesIt old new c k → IsSet Never new c ⊎ HasSeveral Never old c
  loses_any None e s = inl (ap (λ ns. comma_gone ns c) s ∙ e)
  loses_any (Some k) e s = behind_it k e s (trailing_comma_at old k) refl

  gains_any : (n : Option ℕ) → comma_wanted_behind old c ≡ n → GainsIt old new c n → IsSet IfMultiline new c
  gains_any None e s = ap (λ ns. comma_wanted_behind ns c) s ∙ e
  gains_any (Some n) e s = came_now old new tree after c n (wanted_parted old tree c n e) s

  one_set : (mode : TrailingCommaMode) → CommaIsSet mode old new c → IsSet mode new c ⊎ HasSeveral mode old c
  one_set Never s = loses_any (comma_gone old c) refl s
  one_set IfMultiline s = inl (gains_any (comma_wanted_behind old c) refl s)

-- several stand there still, where another row has changed
several_same : (mode : TrailingCommaMode) (old new : List Node) → IsTree old → IsTree new → (m : ℕ) → SameRow old new m → HasSeveral mode new m → HasSeveral mode old m
several_same Never old new tree after m s (k, l, e, f) =
    let was : comma_gone old m ≡ Some k = sym (gone_same old new tree after m s) ∙ e in
    (k, l, was, sym (trailing_same old new tree after m s k (gone_child old tree m k was)) ∙ f)
several_same IfMultiline old new tree after m s h = h

not_both : (mode : TrailingCommaMode) (ns : List Node) (c : ℕ) → IsSet mode ns c → HasSeveral mode ns c → ⊥
not_both Never ns c e (k, m, f, g) = let wrong : None ≡ Some k = sym e ∙ f in cc
not_both IfMultiline ns c e h = h

record AnyChain (mode : TrailingCommaMode) (old new : List Node) (all : List ℕ) : Type 0 where
  each : All (λ n. IsSet mode new n ⊎ HasSeveral mode old n) all
  stay : (m : ℕ) → IsSet mode old m → IsSet mode new m

module _ (mode : TrailingCommaMode) where
  any_chain : (all : List ℕ) (old new : List Node) → IsTree old → AreSetInTurn mode old all new → AnyChain mode old new all
  any_chain [] old new tree e = record { each = All-nil (λ n. IsSet mode new n ⊎ HasSeveral mode old n); stay = λ m s. subst (λ ns. IsSet mode ns m) (sym e) s }
  any_chain (n ∷ rest) old new tree (now, s, after, later) =
      let one = one_set old now tree after n mode s in
      let r : AnyChain mode now new rest = any_chain rest now new after later in
      let before : (m : ℕ) → HasSeveral mode now m → HasSeveral mode old m = λ m h.
      elim (cases_eq m n) [
        | inl e ↦ elim one [
          | inl set ↦ absurd (not_both mode now n set (subst (HasSeveral mode now) e h))
          | inr several ↦ subst (HasSeveral mode old) (sym e) several
        ]
        | inr ne ↦ several_same mode old now tree after m (other_row mode old now tree n s m ne) h
      ] in
      let first : IsSet mode new n ⊎ HasSeveral mode old n = elim one [ inl set ↦ inl (r.stay n set) | inr several ↦ inr several ] in
      record {
        each = All-cons (λ m. IsSet mode new m ⊎ HasSeveral mode old m) n rest first
            (All-weaker (λ m. IsSet mode new m ⊎ HasSeveral mode now m) (λ m. IsSet mode new m ⊎ HasSeveral mode old m)
            (λ m h. elim h [ inl set ↦ inl set | inr several ↦ inr (before m several) ]) rest r.each);
        stay = λ m set. r.stay m (
            elim (cases_eq m n) [
              | inl e ↦ subst (λ ns. IsSet mode ns m) (sym (left_as_it_is mode old now n (subst (IsSet mode old) e set) s)) set
              | inr ne ↦ set_same old now tree after m (other_row mode old now tree n s m ne) mode set
            ]);
      }

-- one that wants a comma once others have theirs wanted it before
wanted_before : (old new : List Node) → IsTree old → (next : ℕ) (done : List ℕ) → AreSetInTurn IfMultiline old done new → WantsComma new next → (o : Option ℕ) → comma_wanted_behind old next ≡ o → wants_comma old next ≡ true
wanted_before old new tree next done set (n, w) None e = let wrong : None ≡ Some n = sym ((any_chain IfMultiline done old new tree set).stay next e) ∙ w in cc
wanted_before old new tree next done set w (Some m) e = ap (λ (x : Option ℕ). is_some x) e

any_with : (p : ℕ → Bool) (front back : List ℕ) (n : ℕ) → p n ≡ true → list_any p (front ++ n ∷ back) ≡ true
any_with p [] back n e = ap (λ b. b || list_any p back) e
any_with p (x ∷ front) back n e = by (p x) (any_with p front back n e)
  where
    by : (b : Bool) → list_any p (front ++ n ∷ back) ≡ true → b || list_any p (front ++ n ∷ back) ≡ true
    by true h = refl
    by false h = h

comma_due : (old new : List Node) (c : ℕ) → IsTree old → AreSetInPart IfMultiline old (holders old c) new → CommaIsDue old c
comma_due old new c tree part =
    subst (λ l. IsTrue (list_any (wants_comma old) l)) (sym part.are)
    (any_with (wants_comma old) part.done part.left part.next (wanted_before old new tree part.next part.done part.set part.wants (comma_wanted_behind old part.next) refl))

pub due_where_refused : (mode : TrailingCommaMode) (old new : List Node) (c : ℕ) → IsTree old → mode ≡ IfMultiline → AreSetInPart mode old (holders old c) new → CommaIsDue old c
due_where_refused mode old new c tree e part = comma_due old new c tree (subst (λ m. AreSetInPart m old (holders old c) new) e part)

pub sets_anyway : (mode : TrailingCommaMode) (old : List Node) (c : ℕ) (new : List Node) → SetsAllButSeveral mode old c new
sets_anyway mode old c new tree there set =
    subst (All (λ n. IsSet mode new n ⊎ HasSeveral mode old n)) (sym (holders_stay mode c (holders old c) old new tree (are_holders old tree c c IsOver.itself) set c there)) (any_chain mode (holders old c) old new tree set).each
