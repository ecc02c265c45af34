-- Pairs that are inserted one after another.
use Rattle.std.proofs.Common.{◌≡◌, Bool, List, [], ◌∷◌, ◌++◌, refl, sym, ap, ◌∙◌, reverse}
use Rattle.std.proofs.lemmas.List.{reverse-append}
use Rattle.indexmap.specs.IndexMap.{insert_entry, insert_all}
use Rattle.jsonc_value.specs.Lists.{InsertsUpTo}

module _ {K V : Type 0} (eq : K → K → Bool) where
  pub one_later : (old done : List (K × V)) (p : K × V) → insert_all eq old (done ++ p ∷ []) ≡ insert_entry eq (insert_all eq old done) p.0 p.1
  one_later old [] p = refl
  one_later old (d ∷ done) p = one_later (insert_entry eq old d.0 d.1) done p

  moved : (done : List (K × V)) (p : K × V) (rest : List (K × V)) → done ++ p ∷ rest ≡ (done ++ p ∷ []) ++ rest
  moved [] p rest = refl
  moved (d ∷ done) p rest = ap (λ l. d ∷ l) (moved done p rest)

  pub none_yet : (old pairs : List (K × V)) → InsertsUpTo eq old pairs pairs old
  none_yet old pairs = ([], refl, refl)

  pub one_more : (old pairs rest now new : List (K × V)) (p : K × V) → InsertsUpTo eq old pairs (p ∷ rest) now → new ≡ insert_entry eq now p.0 p.1 → InsertsUpTo eq old pairs rest new
  one_more old pairs rest now new p h e =
      (h.0 ++ p ∷ [], h.1 ∙ moved h.0 p rest, e ∙ ap (λ m. insert_entry eq m p.0 p.1) h.2 ∙ sym (one_later old h.0 p))

  at_the_end : (l : List (K × V)) → l ++ [] ≡ l
  at_the_end [] = refl
  at_the_end (p ∷ l) = ap (λ l. p ∷ l) (at_the_end l)

  pub all_inserted : (old pairs new : List (K × V)) → InsertsUpTo eq old pairs [] new → new ≡ insert_all eq old pairs
  all_inserted old pairs new h = h.2 ∙ ap (insert_all eq old) (sym (h.1 ∙ at_the_end h.0))

pub reverse_last : {X : Type 0} (xs : List X) (x : X) → reverse (xs ++ x ∷ []) ≡ x ∷ reverse xs
reverse_last xs x = reverse-append xs (x ∷ [])
