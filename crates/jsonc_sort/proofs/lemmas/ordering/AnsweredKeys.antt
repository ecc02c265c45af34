-- Keys that were told, one after another.
use Rattle.std.proofs.Common.{◌≡◌, ◌++◌, [], ◌∷◌, ℕ, ◌+◌, ◌<◌, List, Option, Some, None, Result, Ok, Err, length, refl, sym, subst, ◌∙◌, arith, inl, inr}
use Rattle.std.proofs.lemmas.Bool.{cases_lt}
use Rattle.std.proofs.lemmas.List.{get_or_append_left, get_or_push}
use denote.Ref.{Bor}
use denote.Param.Members.{Shared}
use Rattle.jsonc_sort.specs.ordering.Keys.{Answers, AreKeys, IsFirstRefused, IsKeyOf, WantsMemory}
use Rattle.jsonc_sort.specs.ordering.Order.{node_in}

module _ {F D N K E : Type 0} (g : Shared F (Bor D × (N × Unit {0})) (Result K E)) (key : F) (doc : D) where
  pub key_is : (o : Option N) (x : N) (told : K) → o ≡ Some x → Answers g key doc x (Ok told) → IsKeyOf g key doc o (Some told)
  key_is o x told e a = subst (λ (p : Option N). IsKeyOf g key doc p (Some told)) (sym e) (told, refl, a)

  -- so far each place below this one has its key
  abbrev pub AreKeysBelow : List (Option N) → ℕ → List (Option K) → Type 0
  AreKeysBelow nodes n keys = (i : ℕ) → i < n → IsKeyOf g key doc (node_in nodes i) (node_in keys i)

  pub one_more : (nodes : List (Option N)) (n : ℕ) (keys : List (Option K)) (k : Option K) → length keys ≡ n → AreKeysBelow nodes n keys → IsKeyOf g key doc (node_in nodes n) k → AreKeysBelow nodes (n + 1) (keys ++ k ∷ [])
  one_more nodes n keys k count below now = λ i h.
      elim (cases_lt i n) [
        | inl less ↦ subst (λ (o : Option K). IsKeyOf g key doc (node_in nodes i) o) (sym (get_or_append_left keys (k ∷ []) None i (omega (arith, less, count)))) (below i less)
        | inr more ↦
            let last : n ≡ i = omega (arith, h, more) in
            subst (λ (o : Option K). IsKeyOf g key doc (node_in nodes i) o) (sym (get_or_push keys k None i (count ∙ last)))
            (subst (λ (j : ℕ). IsKeyOf g key doc (node_in nodes j) k) last now)
      ]

  pub all_keys : (nodes : List (Option N)) (n : ℕ) (keys : List (Option K)) → length keys ≡ n → n ≡ length nodes → AreKeysBelow nodes n keys → AreKeys g key doc nodes keys
  all_keys nodes n keys count end below = record { count = count ∙ end; at = λ i h. below i (omega (arith, h, end)) }

  pub first_refused : (nodes : List (Option N)) (n : ℕ) (keys : List (Option K)) (e : E) → AreKeysBelow nodes n keys → (x : N) × (node_in nodes n ≡ Some x) × Answers g key doc x (Err e) → IsFirstRefused g key doc nodes e
  first_refused nodes n keys e below told = record { place = n; node = told.0; in_tree = told.1; error = told.2; before = λ i h. (node_in keys i, below i h) }

  pub memory_wanted : (nodes : List (Option N)) (n : ℕ) (keys : List (Option K)) (k : Option K) → n < length nodes → AreKeysBelow nodes n keys → IsKeyOf g key doc (node_in nodes n) k → WantsMemory g key doc nodes
  memory_wanted nodes n keys k there below now = record {
    place = n;
    in_tree = there;
    keys = λ i h. elim (cases_lt i n) [
      | inl less ↦ (node_in keys i, below i less)
      | inr more ↦
          let same : n ≡ i = omega (arith, h, more) in
          (k, subst (λ (j : ℕ). IsKeyOf g key doc (node_in nodes j) k) same now)
    ];
  }
