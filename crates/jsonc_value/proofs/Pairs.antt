-- The pair at the place of a key.
use Rattle.std.proofs.Common.{◌≡◌, ℕ, zero, suc, ◌<◌, Bool, true, false, cond, List, [], ◌∷◌, ◌++◌, length, get_or, set, position, Option, Some, None, slice_get, refl, sym, ap, ◌∙◌, arith}
use Rattle.std.specs.Option.{option_map}
use Rattle.std.specs.List.{remove, list_any, AllZip}
use Rattle.std.specs.Map.{lookup, lookup_entry, remove_entry, set_value, keys_of, values_of}
use Rattle.std.proofs.lemmas.List.{get_or-map}
use Rattle.std.proofs.lemmas.Map.Entries.{length-keys_of}
use Rattle.indexmap.specs.IndexMap.{insert_entry}
use Rattle.indexmap.specs.Layout.{set_value_at}
use Rattle.jsonc_value.specs.Copies.{IsPairClone}
use Rattle.jsonc_value.proofs.Firsts.{First, first_later, first_at, apart}

module _ {K V : Type 0} (p : K → Bool) where
  chosen : (b : Bool) (e : K × V) (r : Option (K × V)) → cond b (Some e.1) (option_map (λ e. e.1) r) ≡ option_map (λ e. e.1) (cond b (Some e) r)
  chosen true e r = refl
  chosen false e r = refl

  pub value_of_entry : (es : List (K × V)) → lookup p es ≡ option_map (λ e. e.1) (lookup_entry p es)
  value_of_entry [] = refl
  value_of_entry (e ∷ es) = (λ j. cond (p e.0) (Some e.1) (value_of_entry es j)) ∙ chosen (p e.0) e (lookup_entry p es)

  -- the place of the first pair whose key passes
  pub first_place : (es : List (K × V)) (i : ℕ) → i < length es → Some i ≡ position p (keys_of es) → First p (keys_of es) i
  first_place es i lt at = first_at p (keys_of es) i (omega (arith, lt, length-keys_of es)) (sym at)

  module _ (e : K × V) where
    entry_first : (es : List (K × V)) (i : ℕ) → First p (keys_of es) i → slice_get es i ≡ Some e → lookup_entry p es ≡ Some e
    entry_first [] i f at = absurd (omega (arith, f.0))
    entry_first (x ∷ es) zero f at = rw (f.1 x.0) at
    entry_first (x ∷ es) (suc i) f at = rw (f.2 0 x.0 (omega arith)) (entry_first es i (first_later p x.0 (keys_of es) i f) at)

    set_first : (es : List (K × V)) (i : ℕ) (w : V) → First p (keys_of es) i → slice_get es i ≡ Some e → set_value p es w ≡ set es i (e.0, w)
    set_first [] i w f at = absurd (omega (arith, f.0))
    set_first (x ∷ es) zero w f at = let same : x ≡ e = cc in rw (f.1 x.0) (ap (λ y. (y.0, w) ∷ es) same)
    set_first (x ∷ es) (suc i) w f at = rw (f.2 0 x.0 (omega arith)) (ap (λ l. x ∷ l) (set_first es i w (first_later p x.0 (keys_of es) i f) at))

  value_set_first : (es : List (K × V)) (i : ℕ) (w : V) → First p (keys_of es) i → set_value p es w ≡ set_value_at es i w
  value_set_first [] i w f = absurd (omega (arith, f.0))
  value_set_first (x ∷ es) zero w f = rw (f.1 x.0) refl
  value_set_first (x ∷ es) (suc i) w f = rw (f.2 0 x.0 (omega arith)) (ap (λ l. x ∷ l) (value_set_first es i w (first_later p x.0 (keys_of es) i f)))

  value_first : (es : List (K × V)) (i : ℕ) (v : V) → First p (keys_of es) i → slice_get (values_of es) i ≡ Some v → lookup p es ≡ Some v
  value_first [] i v f at = absurd (omega (arith, f.0))
  value_first (x ∷ es) zero v f at = rw (f.1 x.0) at
  value_first (x ∷ es) (suc i) v f at = rw (f.2 0 x.0 (omega arith)) (value_first es i v (first_later p x.0 (keys_of es) i f) at)

  remove_first : (es : List (K × V)) (i : ℕ) → First p (keys_of es) i → remove_entry p es ≡ remove es i
  remove_first [] i f = absurd (omega (arith, f.0))
  remove_first (x ∷ es) zero f = rw (f.1 x.0) refl
  remove_first (x ∷ es) (suc i) f = rw (f.2 0 x.0 (omega arith)) (ap (λ l. x ∷ l) (remove_first es i (first_later p x.0 (keys_of es) i f)))

  pub entry_there : (es : List (K × V)) (i : ℕ) (e : K × V) → i < length es → Some i ≡ position p (keys_of es) → slice_get es i ≡ Some e → Some e ≡ lookup_entry p es
  entry_there es i e lt at here = sym (entry_first e es i (first_place es i lt at) here)

  pub value_there : (es : List (K × V)) (i : ℕ) (e : K × V) → i < length es → Some i ≡ position p (keys_of es) → slice_get es i ≡ Some e → Some e.1 ≡ lookup p es
  value_there es i e lt at here = ap (option_map (λ e. e.1)) (entry_there es i e lt at here) ∙ sym (value_of_entry es)

  pub removed_there : (es : List (K × V)) (i : ℕ) → i < length es → Some i ≡ position p (keys_of es) → remove es i ≡ remove_entry p es
  removed_there es i lt at = sym (remove_first es i (first_place es i lt at))

  pub set_there : (es : List (K × V)) (i : ℕ) (e : K × V) (w : V) → i < length es → Some i ≡ position p (keys_of es) → slice_get es i ≡ Some e → set es i (e.0, w) ≡ set_value p es w
  set_there es i e w lt at here = sym (set_first e es i w (first_place es i lt at) here)

  -- the value at the place of a key, as it is read and written
  pub value_at_place : (es : List (K × V)) (i : ℕ) (v : V) → i < length es → Some i ≡ position p (keys_of es) → slice_get (values_of es) i ≡ Some v → Some v ≡ lookup p es
  value_at_place es i v lt at here = sym (value_first es i v (first_place es i lt at) here)

  pub set_at_place : (es : List (K × V)) (i : ℕ) (w : V) → i < length es → Some i ≡ position p (keys_of es) → set_value_at es i w ≡ set_value p es w
  set_at_place es i w lt at = sym (value_set_first es i w (first_place es i lt at))

  pub entry_none : (es : List (K × V)) → false ≡ list_any p (keys_of es) → None ≡ lookup_entry p es
  entry_none [] e = refl
  entry_none (x ∷ es) e = let both = apart (p x.0) (list_any p (keys_of es)) (sym e) in rw both.0 (entry_none es (sym both.1))

  pub value_none : (es : List (K × V)) → false ≡ list_any p (keys_of es) → None ≡ lookup p es
  value_none es e = ap (option_map (λ e. e.1)) (entry_none es e) ∙ sym (value_of_entry es)

  pub removed_none : (es : List (K × V)) → false ≡ list_any p (keys_of es) → es ≡ remove_entry p es
  removed_none [] e = refl
  removed_none (x ∷ es) e = let both = apart (p x.0) (list_any p (keys_of es)) (sym e) in rw both.0 (ap (λ l. x ∷ l) (removed_none es (sym both.1)))

module _ {K V : Type 0} (eq : K → K → Bool) where
  insert_first : (es : List (K × V)) (i : ℕ) (e : K × V) (key : K) (v : V) → First (eq key) (keys_of es) i → slice_get es i ≡ Some e → insert_entry eq es key v ≡ set es i (e.0, v)
  insert_first [] i e key v f at = absurd (omega (arith, f.0))
  insert_first (x ∷ es) zero e key v f at = let same : x ≡ e = cc in rw (f.1 x.0) (ap (λ y. (y.0, v) ∷ es) same)
  insert_first (x ∷ es) (suc i) e key v f at = rw (f.2 0 x.0 (omega arith)) (ap (λ l. x ∷ l) (insert_first es i e key v (first_later (eq key) x.0 (keys_of es) i f) at))

  pub inserted_there : (es : List (K × V)) (i : ℕ) (e : K × V) (key : K) (v : V) → i < length es → Some i ≡ position (eq key) (keys_of es) → slice_get es i ≡ Some e → set es i (e.0, v) ≡ insert_entry eq es key v
  inserted_there es i e key v lt at here = sym (insert_first es i e key v (first_place (eq key) es i lt at) here)

  pub inserted_last : (es : List (K × V)) (key : K) (v : V) → false ≡ list_any (eq key) (keys_of es) → es ++ (key, v) ∷ [] ≡ insert_entry eq es key v
  inserted_last [] key v e = refl
  inserted_last (x ∷ es) key v e = let both = apart (eq key x.0) (list_any (eq key) (keys_of es)) (sym e) in rw both.0 (ap (λ l. x ∷ l) (inserted_last es key v (sym both.1)))

-- the key of the pair at a place
pub key_at : {K V : Type 0} (es : List (K × V)) (i : ℕ) (e : K × V) (d : K) → i < length es → get_or (keys_of es) i d ≡ (get_or es i e).0
key_at es i e d lt = get_or-map (λ p. p.0) es i e d lt

module _ {K V : Type 0} (eq : K → K → Bool) where
  written_first : (es : List (K × V)) (i : ℕ) (key : K) (w : V) → First (eq key) (keys_of es) i → insert_entry eq es key w ≡ set_value_at es i w
  written_first [] i key w f = absurd (omega (arith, f.0))
  written_first (x ∷ es) zero key w f = rw (f.1 x.0) refl
  written_first (x ∷ es) (suc i) key w f = rw (f.2 0 x.0 (omega arith)) (ap (λ l. x ∷ l) (written_first es i key w (first_later (eq key) x.0 (keys_of es) i f)))

  -- a value that is written at the place of its key is inserted
  pub written_there : (es : List (K × V)) (i : ℕ) (key : K) (w : V) → i < length es → Some i ≡ position (eq key) (keys_of es) → set_value_at es i w ≡ insert_entry eq es key w
  written_there es i key w lt at = sym (written_first es i key w (first_place (eq key) es i lt at))

  -- and so is one in the place of a new pair's value
  pub written_last : (es : List (K × V)) (key : K) (v w : V) → false ≡ list_any (eq key) (keys_of es) → set_value_at (es ++ (key, v) ∷ []) (length es) w ≡ insert_entry eq es key w
  written_last [] key v w e = refl
  written_last (x ∷ es) key v w e = let both = apart (eq key x.0) (list_any (eq key) (keys_of es)) (sym e) in rw both.0 (ap (λ l. x ∷ l) (written_last es key v w (sym both.1)))

module _ {K V : Type 0} where
  pub value_at : (es : List (K × V)) (i : ℕ) (e : K × V) → slice_get es i ≡ Some e → slice_get (values_of es) i ≡ Some e.1
  value_at [] i e at = let never : ⊥ = cc in absurd never
  value_at (x ∷ es) zero e at = ap (option_map (λ p. p.1)) at
  value_at (x ∷ es) (suc i) e at = value_at es i e at

  pub value_last : (es : List (K × V)) (key : K) (v : V) → slice_get (values_of (es ++ (key, v) ∷ [])) (length es) ≡ Some v
  value_last [] key v = refl
  value_last (x ∷ es) key v = value_last es key v

  -- a value that is written leaves the keys
  pub same_keys : (es : List (K × V)) (i : ℕ) (e : K × V) (w : V) → e ≡ get_or es i e → keys_of (set es i (e.0, w)) ≡ keys_of es
  same_keys [] i e w at = refl
  same_keys (x ∷ es) zero e w at = ap (λ p. p.0 ∷ keys_of es) at
  same_keys (x ∷ es) (suc i) e w at = ap (λ l. x.0 ∷ l) (same_keys es i e w at)

  pub set_is_value : (es : List (K × V)) (i : ℕ) (e : K × V) (w : V) → e ≡ get_or es i e → set es i (e.0, w) ≡ set_value_at es i w
  set_is_value [] i e w at = refl
  set_is_value (x ∷ es) zero e w at = ap (λ p. (p.0, w) ∷ es) at
  set_is_value (x ∷ es) (suc i) e w at = ap (λ l. x ∷ l) (set_is_value es i e w at)

-- where keys are clones of keys and values of values, pairs are clones of pairs, and their keys of keys
pub cloned_keys : {K V : Type 0} (is_key : K → K → Type 0) (is_value : V → V → Type 0) (es fs : List (K × V)) → AllZip (IsPairClone is_key is_value) es fs → AllZip is_key (keys_of es) (keys_of fs)
cloned_keys is_key is_value [] [] all = tt
cloned_keys is_key is_value [] (f ∷ fs) all = absurd all
cloned_keys is_key is_value (e ∷ es) [] all = absurd all
cloned_keys is_key is_value (e ∷ es) (f ∷ fs) all = (all.0.0, cloned_keys is_key is_value es fs all.1)
