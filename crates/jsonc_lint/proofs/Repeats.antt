-- What the names of the nodes that were passed say of one more node.
use Rattle.std.proofs.Common.{◌≡◌, ◌∙◌, refl, sym, ap, subst, arith, ℕ, Bool, true, false, ◌&&◌, cond, nat_eq, List, [], ◌∷◌, ◌++◌, Option, Some, None, String, string_bytes, chars, inl, inr}
use Rattle.std.specs.HashMap.{HashMap, get, get_by}
use Rattle.std.specs.List.{Contains}
use Rattle.std.specs.Map.{lookup}
use Rattle.std.specs.Cmp.Lexicographic.{pointwise}
use Rattle.std.specs.String.{string_eq}
use Rattle.std.proofs.lemmas.Bool.{and_parts, false≢true}
use Rattle.std.proofs.lemmas.List.{append_assoc}
use Rattle.std.proofs.lemmas.List.Elements.{Contains-append_right, Contains-push_cases}
use Rattle.std.proofs.lemmas.Slice.Eq.{bytes_eq-Decides}
use Rattle.std.proofs.lemmas.Str.{IsUtf8-string_bytes}
use Rattle.jsonc_tree.specs.Tree.{Node, parent_at}
use Rattle.jsonc_layout.specs.nodes.Names.{IsNamed}
use Rattle.jsonc_layout.proofs.lemmas.nodes.NodeNames.{has_name_once, same_text}
use Rattle.jsonc_cst.specs.Ranges.{IsBefore}
use Rattle.jsonc_lint.specs.Findings.{IsFirst, IsPropertyOf, Repeats}
use Rattle.jsonc_lint.specs.SeenNames.{FirstBegins, IsAnswered, IsSeen, Knows, RepeatsAs, same_key}

contains_here : (before after : List ℕ) (m : ℕ) → Contains (before ++ m ∷ after) m
contains_here before after m = Contains-append_right before (m ∷ after) m (0, omega arith, refl)

module _ (ns : List Node) (P : ℕ → Type 0) (row : List ℕ) (n : ℕ) where
  -- the first of some nodes is that of one more
  first_stays : (m : ℕ) → IsFirst P row m → IsFirst P (row ++ n ∷ []) m
  first_stays m f = record {
    before = f.before;
    after = f.after ++ n ∷ [];
    split = ap (λ l. l ++ n ∷ []) f.split ∙ append_assoc f.before (m ∷ f.after) (n ∷ []);
    none_before = f.none_before;
    here = f.here;
  }

  none_still : ((m : ℕ) → Contains row m → P m → ⊥) → (P n → ⊥) → (m : ℕ) → Contains (row ++ n ∷ []) m → P m → ⊥
  none_still none other m c p = elim (Contains-push_cases row n m c) [ inl k ↦ none m k p | inr e ↦ other (subst P (sym e) p) ]

  stays : (o : Option ℕ) → FirstBegins ns P row o → (o ≡ None → P n → ⊥) → FirstBegins ns P (row ++ n ∷ []) o
  stays None h other = none_still h (other refl)
  stays (Some start) h other = (h.0, first_stays h.0 h.1, h.2)

  -- where none was, the node is the first
  begins_here : (start : ℕ) → FirstBegins ns P row None → P n → IsBefore ns n start → FirstBegins ns P (row ++ n ∷ []) (Some start)
  begins_here start none here at = (n, record { before = row; after = []; split = refl; none_before = none; here = here }, at)

-- a name of these bytes in this object
abbrev key_of : {A : Type 0} → ℕ → List ℕ → ℕ × String A → Bool
key_of object bytes x = nat_eq object x.0 && pointwise nat_eq bytes (string_bytes x.1)

-- no names are those of no nodes
pub none_known : {A S : Type 0} (ns : List Node) (names : HashMap (ℕ × String A) ℕ S) → names.entries ≡ [] → Knows ns [] names
none_known ns names e object name =
    subst (FirstBegins ns (IsPropertyOf ns object (chars (string_bytes name))) []) (sym (ap (lookup (same_key (object, name))) e)) (λ m c p. absurd (omega (arith, c.1)))

module _ {A S : Type 0} (ns : List Node) (n : ℕ) (old : HashMap (ℕ × String A) ℕ S) where
  -- a node that is no property with a name in a container
  pub nameless : ((object : ℕ) (v : List ℕ) → IsPropertyOf ns object v n → ⊥) → IsAnswered ns n old old None
  nameless nobody before knows =
      (λ v m r. nobody r.0 v r.1, λ object name. stays ns (IsPropertyOf ns object (chars (string_bytes name))) before n (get same_key old (object, name)) (knows object name) (λ e p. nobody object _ p))

  module _ (object start : ℕ) (name : String A) (parent : parent_at ns n ≡ Some object) (named : IsNamed ns (chars (string_bytes name)) n) (at : IsBefore ns n start) where
    abbrev text : String A → List ℕ
    text s = chars (string_bytes s)

    -- it is a property of one name in one container
    same_object : (other : ℕ) → parent_at ns n ≡ Some other → other ≡ object
    same_object other p = let both : Some other ≡ Some object = sym p ∙ parent in cc

    same_name : (v : List ℕ) → IsNamed ns v n → v ≡ text name
    same_name v k = has_name_once ns n v (text name) k.1 named.1

    same_bytes : (other : String A) → text other ≡ text name → string_bytes other ≡ string_bytes name
    same_bytes other e = same_text (string_bytes other) (string_bytes name) (IsUtf8-string_bytes other) (IsUtf8-string_bytes name) e

    -- a key under which it is known is its own
    is_key : (q : ℕ × String A) → IsPropertyOf ns q.0 (text q.1) n → (q.0 ≡ object) × (string_bytes q.1 ≡ string_bytes name)
    is_key q p = (same_object q.0 p.0, same_bytes q.1 (same_name (text q.1) p.1))

    key_passes : (q : ℕ × String A) → q.0 ≡ object → string_bytes q.1 ≡ string_bytes name → same_key (object, name) q ≡ true
    key_passes q e f = both (nat_eq object q.0) (string_eq name q.1) (unsigned q.0 object e) ((bytes_eq-Decides (string_bytes name) (string_bytes q.1)).1 (sym f))
      where
        both : (a b : Bool) → a ≡ true → b ≡ true → (a && b) ≡ true
        both true b e f = f
        both false b e f = absurd (false≢true e)

        unsigned : (k m : ℕ) → k ≡ m → nat_eq m k ≡ true
        unsigned k m e = grind arith

    key_is : (q : ℕ × String A) → same_key (object, name) q ≡ true → (object ≡ q.0) × (string_bytes name ≡ string_bytes q.1)
    key_is q e =
        let parts = and_parts (nat_eq object q.0) (string_eq name q.1) e in
        (numbers object q.0 parts.0, (bytes_eq-Decides (string_bytes name) (string_bytes q.1)).0 parts.1)
      where
        numbers : (k m : ℕ) → nat_eq k m ≡ true → k ≡ m
        numbers k m e = grind arith

    -- equal keys find the same
    found_same : (q : ℕ × String A) → q.0 ≡ object → string_bytes q.1 ≡ string_bytes name → get same_key old q ≡ get same_key old (object, name)
    found_same q e f = ap (λ k. get_by (key_of k (string_bytes q.1)) old) e ∙ ap (λ s. get_by (key_of object s) old) f

    module _ (before : List ℕ) (knows : Knows ns before old) where
      -- the object has the name
      known : (new : HashMap (ℕ × String A) ℕ S) (answer : String A × ℕ) → IsSeen old object name start new (Some answer) → RepeatsAs ns before n (Some answer) × Knows ns (before ++ n ∷ []) new
      known new answer (same, there, kept) =
          let first : FirstBegins ns (IsPropertyOf ns object (text name)) before (Some answer.1) = subst (FirstBegins ns (IsPropertyOf ns object (text name)) before) there (knows object name) in (
            (first.0, subst (λ s. Repeats ns before n (text s) first.0) (sym same) (object, (parent, named), first.1), first.2),
            subst (Knows ns (before ++ n ∷ [])) (sym kept) (λ other s. stays ns (IsPropertyOf ns other (text s)) before n (get same_key old (other, s)) (knows other s) (missing other s)),
          )
        where
          missing : (other : ℕ) (s : String A) → get same_key old (other, s) ≡ None → IsPropertyOf ns other (text s) n → ⊥
          missing other s e p =
              let key = is_key (other, s) p in
              let wrong : None ≡ Some answer.1 = sym e ∙ found_same (other, s) key.0 key.1 ∙ there in cc

      -- it does not have it yet
      joined : (new : HashMap (ℕ × String A) ℕ S) → IsSeen old object name start new None → RepeatsAs {A = A} ns before n None × Knows ns (before ++ n ∷ []) new
      joined new (missing, put) = (fresh, names)
        where
          none : (m : ℕ) → Contains before m → IsPropertyOf ns object (text name) m → ⊥
          none = subst (FirstBegins ns (IsPropertyOf ns object (text name)) before) missing (knows object name)

          fresh : (v : List ℕ) (m : ℕ) → Repeats ns before n v m → ⊥
          fresh v m (other, p, f) =
              none m (subst (λ l. Contains l m) (sym f.split) (contains_here f.before f.after m))
              (subst (λ w. IsPropertyOf ns object w m) (same_name v p.1) (subst (λ c. IsPropertyOf ns c v m) (same_object other p.0) f.here))

          by : (other : ℕ) (s : String A) (b : Bool) → same_key (object, name) (other, s) ≡ b → FirstBegins ns (IsPropertyOf ns other (text s)) (before ++ n ∷ []) (cond b (Some start) (get same_key old (other, s)))
          by other s true e =
              let key = key_is (other, s) e in
              let as_here : (m : ℕ) → IsPropertyOf ns other (text s) m → IsPropertyOf ns object (text name) m =
              λ m p. subst (λ w. IsPropertyOf ns object w m) (ap chars (sym key.1)) (subst (λ c. IsPropertyOf ns c (text s) m) (sym key.0) p) in
              begins_here ns (IsPropertyOf ns other (text s)) before n start (λ m c p. none m c (as_here m p))
              (subst (λ w. IsPropertyOf ns other w n) (ap chars key.1) (subst (λ c. IsPropertyOf ns c (text name) n) key.0 (parent, named))) at
          by other s false e =
              stays ns (IsPropertyOf ns other (text s)) before n (get same_key old (other, s)) (knows other s)
              (λ _ p. (let key = is_key (other, s) p in false≢true (sym e ∙ key_passes (other, s) key.0 key.1)))

          names : Knows ns (before ++ n ∷ []) new
          names other s = subst (FirstBegins ns (IsPropertyOf ns other (text s)) (before ++ n ∷ [])) (sym (put (other, s))) (by other s (same_key (object, name) (other, s)) refl)

    -- a property with a name, by what was seen
    pub answered : (new : HashMap (ℕ × String A) ℕ S) (answer : Option (String A × ℕ)) → IsSeen old object name start new answer → IsAnswered ns n old new answer
    answered new None h before knows = joined before knows new h
    answered new (Some answer) h before knows = known before knows new answer h
