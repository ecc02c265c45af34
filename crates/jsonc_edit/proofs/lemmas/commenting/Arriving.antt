-- Trivia comes into the row of an entry of a sound document.
use Rattle.std.proofs.Common.{◌≡◌, ◌≢◌, ◌∙◌, ℕ, ◌+◌, ◌<◌, Bool, true, false, inl, inr, List, [], length, take, drop, slice_index, IsTrue, refl, sym, ap, subst, arith, length-take}
use Rattle.std.proofs.lemmas.List.{drop_more}
use Rattle.jsonc_text.specs.Options.{Options}
use Rattle.jsonc_tree.specs.Content.{Content, root}
use Rattle.jsonc_tree.specs.OrderedTree.{none, more, followed_by, ordered_tree, Shows, shows_none}
use Rattle.jsonc_tree.specs.Tree.{Node, content_at, children_at, IsTree}
use Rattle.jsonc_layout.specs.lines.Kinds.{is_array_or_object}
use Rattle.jsonc_sound.specs.Lines.{LinesEndLoosely}
use Rattle.jsonc_sound.specs.SoundTrees.{SoundTree}
use Rattle.jsonc_sound.specs.TriviaChanges.{AreTrivia, AreTriviaOf, leaves_then, LeavesChanged}
use Rattle.jsonc_edit.specs.commenting.Come.{LeavesCome}
use Rattle.jsonc_edit.specs.commenting.Laws.{IsEntry}
use Rattle.jsonc_edit.proofs.InsertedSpaces.{first_of}
use Rattle.jsonc_edit.proofs.lemmas.commenting.Coming.{come_replaced, root_now, root_was, Cut}
use Rattle.jsonc_edit.proofs.lemmas.commenting.Rows.{container_is, container_over, entry_there}
use Rattle.jsonc_edit.proofs.lemmas.commenting.Sound.{arrives_in_root, arrives_inside, comes_inside, Arrival, EndsAhead}

pub no_root : (content : Content) → content ≡ root → IsTrue (is_array_or_object content) → ⊥
no_root content e h = let wrong : IsTrue (is_array_or_object root) = subst (λ w. IsTrue (is_array_or_object w)) e h in cc

shown_length : (ns : List Node) {xs : List ℕ} → Shows ns xs none → length xs ≡ 0
shown_length ns shows_none = refl

module _ (o : Options) (old new : List Node) (tree : IsTree old) (sound : SoundTree o (ordered_tree old 0)) (n : ℕ) (e : IsEntry old n) (contents : List Content) (place : ℕ) (r : LeavesCome old new e.container place contents) (trivia : AreTrivia contents) (allowed : AreTriviaOf o contents) (cut : Cut old (children_at old e.container) place) where
  abbrev c : ℕ
  c = e.container

  there : c < length old
  there = (entry_there old tree n e).1

  -- line comments end as they did
  abbrev pub KeepsLines : Bool → Bool → Type 0
  KeepsLines loose at_end = LinesEndLoosely loose at_end (followed_by cut.front cut.back) → LinesEndLoosely loose at_end (followed_by cut.front (leaves_then contents cut.back))

  front_there : 0 < place → place < length (children_at old c) → cut.front ≢ none
  front_there low high empty =
      let gone : length (take place (children_at old c)) ≡ 0 = shown_length old (subst (Shows old (take place (children_at old c))) empty cut.ahead) in
      omega (arith, low, high, gone, length-take place (children_at old c))

  comes : 0 < place → place < length (children_at old c) → LeavesChanged [] contents (followed_by cut.front cut.back) (followed_by cut.front (leaves_then contents cut.back))
  comes low high =
      let kids : List ℕ = children_at old c in
      let one = first_of old (slice_index kids place) (drop (place + 1) kids) cut.back (subst (λ (l : List ℕ). Shows old l cut.back) (drop_more kids place 0 high) cut.behind) in
      subst (λ b. LeavesChanged [] contents (followed_by cut.front b) (followed_by cut.front (leaves_then contents b))) (sym one.2) (comes_inside contents cut.front (front_there low high) (content_at old (slice_index kids place)) one.0 one.1)

  pub arrival : (IsTrue (is_array_or_object (content_at old c)) → (0 < place) × (place < length (children_at old c))) → ((loose at_end : Bool) → (c ≡ 0 → IsTrue at_end) → KeepsLines loose at_end)
      → ((front behind : List Content) → (c ≡ 0 → front ≡ []) → EndsAhead o contents cut.front cut.back front behind) → Arrival o contents (ordered_tree old 0) (ordered_tree new 0)
  arrival inside lines ends =
      elim (container_is old tree n e) [
        | inl h ↦ in_root h
        | inr h ↦
            (let out : c ≡ 0 → ⊥ = λ k. no_root (content_at old c) (ap (content_at old) k ∙ tree.root_first) h in
            arrives_inside contents cut.front cut.back o trivia allowed (comes (inside h).0 (inside h).1) (λ loose at_end. lines loose at_end (λ k. absurd (out k))) (λ front behind. ends front behind (λ k. absurd (out k)))
            (come_replaced old new tree c place contents r trivia there cut (container_over old tree n e)) sound)
      ]
    where
      in_root : c ≡ 0 → Arrival o contents (ordered_tree old 0) (ordered_tree new 0)
      in_root h =
          let was = root_was old new tree c place contents r trivia there cut h in
          let now = root_now old new tree c place contents r trivia there cut h in
          subst (λ t. Arrival o contents t (ordered_tree new 0)) (sym was)
          (subst (λ u. Arrival o contents (more root (followed_by cut.front cut.back) none) u) (sym now)
          (arrives_in_root contents cut.front cut.back o trivia allowed (lines false true (λ k. refl)) (ends [] [] (λ k. refl)) (subst (SoundTree o) was sound)))
