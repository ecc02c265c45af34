-- What the words of a command are.
use Rattle.std.proofs.Common.{ℕ, ◌≡◌, ◌∙◌, ap, sym, codes, length, map, slice_index_or, inl, inr, subst, List, []}
use Rattle.std.proofs.Math.ListN.{get_or-map}
use Rattle.std.proofs.lemmas.List.{length-map}
use Rattle.std.specs.Borrow.{Bor}
use Rattle.jsonc_engine.specs.Command.{append, as_json, check, drop, find, get, merge, patch, print, put, remove, set, sort, Name, Request, WritesBytes}

abbrev no_word : Bor (List ℕ)
no_word = record { ref_ptr = (0, 0); now = [] }

-- the word of this number
abbrev pub word_at : List (Bor (List ℕ)) → ℕ → List ℕ
word_at words i = (slice_index_or words i no_word).now

module _ (words : List (Bor (List ℕ))) (texts : List (List ℕ)) (are : map (λ word. word.now) words ≡ texts) where
  count : length words ≡ length texts
  count = sym (length-map words (λ word. word.now)) ∙ ap length are

  at : (i : ℕ) → word_at words i ≡ slice_index_or texts i []
  at i = sym (get_or-map (λ word. word.now) words i no_word) ∙ ap (λ (l : List (List ℕ)). slice_index_or l i []) are

-- words that name no command, where they are none of these
pub none_named : (words : List (Bor (List ℕ)))
    → (length words ≡ 1 → word_at words 0 ≡ codes "check" → ⊥)
    → (length words ≡ 1 → word_at words 0 ≡ codes "print" → ⊥)
    → (length words ≡ 3 → word_at words 0 ≡ codes "set" → ⊥)
    → (length words ≡ 2 → word_at words 0 ≡ codes "append" → ⊥)
    → (length words ≡ 2 → word_at words 0 ≡ codes "remove" → ⊥)
    → (length words ≡ 1 → word_at words 0 ≡ codes "sort" → ⊥)
    → (length words ≡ 2 → word_at words 0 ≡ codes "get" → ⊥)
    → (length words ≡ 3 → word_at words 0 ≡ codes "put" → ⊥)
    → (length words ≡ 2 → word_at words 0 ≡ codes "drop" → ⊥)
    → (length words ≡ 2 → word_at words 0 ≡ codes "patch" → ⊥)
    → (length words ≡ 4 → word_at words 0 ≡ codes "patch" → word_at words 1 ≡ codes "--max-bytes" → (n : ℕ) → WritesBytes (word_at words 2) n → ⊥)
    → (length words ≡ 2 → word_at words 0 ≡ codes "merge" → ⊥)
    → (length words ≡ 1 → word_at words 0 ≡ codes "json" → ⊥)
    → (request : Request) → Name words request → ⊥
none_named words a b c d e f g h i j k l m check n = a (count words _ n) (at words _ n 0)
none_named words a b c d e f g h i j k l m print n = b (count words _ n) (at words _ n 0)
none_named words a b c d e f g h i j k l m (set name json) n = c (count words _ n) (at words _ n 0)
none_named words a b c d e f g h i j k l m (append json) n = d (count words _ n) (at words _ n 0)
none_named words a b c d e f g h i j k l m (remove name) n = e (count words _ n) (at words _ n 0)
none_named words a b c d e f g h i j k l m sort n = f (count words _ n) (at words _ n 0)
none_named words a b c d e f g h i j k l m (get path) n = g (count words _ n.0) (at words _ n.0 0)
none_named words a b c d e f g h i j k l m (find pointer) n = g (count words _ n.0) (at words _ n.0 0)
none_named words a b c d e f g h i j k l m (put path json) n = h (count words _ n) (at words _ n 0)
none_named words a b c d e f g h i j k l m (drop path) n = i (count words _ n) (at words _ n 0)
none_named words a b c d e f g h i j k l m (patch text most) (inl n) = j (count words _ n.0) (at words _ n.0 0)
none_named words a b c d e f g h i j k l m (patch text most) (inr n) =
    k (count words _ n.1) (at words _ n.1 0) (at words _ n.1 1) most (subst (λ w. WritesBytes w most) (sym (at words _ n.1 2)) n.2)
none_named words a b c d e f g h i j k l m (merge text) n = l (count words _ n) (at words _ n 0)
none_named words a b c d e f g h i j k l m as_json n = m (count words _ n) (at words _ n 0)
