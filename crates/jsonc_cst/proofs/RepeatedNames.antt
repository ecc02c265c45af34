-- Names among those seen, and the properties that repeat one.
use Rattle.std.proofs.Common.{◌≡◌, ◌∙◌, ◌+◌, ◌<◌, ◌↔◌, ◌⊎◌, inl, inr, ℕ, Bool, true, false, not, List, [], ◌∷◌, ◌++◌, length, get_or, take, Option, None, Some, String, string_bytes, chars, refl, sym, ap, subst, arith, if◌then◌else◌}
use Rattle.std.specs.Bool.{Decides}
use Rattle.std.specs.List.{All, list_any}
use Rattle.std.specs.String.{string_eq}
use Rattle.std.specs.declared.borrow.CowStr.{CowStr}
use Rattle.std.proofs.lemmas.Bool.{false≢true}
use Rattle.std.proofs.lemmas.List.{take_more}
use Rattle.std.proofs.lemmas.List.Elements.{All-contains, All-push, Contains-append_left, Contains-push, Contains-push_cases}
use Rattle.std.proofs.lemmas.List.Folds.{Any-from_list_any, list_any-from_Any}
use Rattle.std.proofs.lemmas.Slice.Eq.{bytes_eq-Decides}
use Rattle.std.proofs.lemmas.Str.{IsUtf8-string_bytes}
use Rattle.indexmap.specs.IndexSet.{insert_key}
use Rattle.jsonc_tree.specs.Content.{property}
use Rattle.jsonc_tree.specs.Tree.{Node, content_at}
use Rattle.jsonc_layout.specs.nodes.Kinds.{is_property}
use Rattle.jsonc_layout.specs.nodes.Names.{HasName, IsNamed, NameReads, ReadsAs}
use Rattle.jsonc_layout.proofs.lemmas.nodes.NodeNames.{has_name_once, same_text}
use Rattle.jsonc_cst.specs.RepeatedNames.{AreRepeated, none, fresh, repeated, HasNamed, HasText, IsNameJoined, IsPassed, IsTextJoined, RepeatsName, RepeatsOneOf}

module _ {A : Type 0} where
  abbrev text : String A → List ℕ
  text s = chars (string_bytes s)

  -- a test for equal bytes finds a text of these characters
  decides_text : (texts : List (String A)) (s : String A) → Decides (list_any (string_eq s) texts) (HasText texts (text s))
  decides_text texts s = (found, finds)
    where
      found : list_any (string_eq s) texts ≡ true → HasText texts (text s)
      found e =
          let any = Any-from_list_any (string_eq s) texts e in
          (any.1, (any.0, any.2, any.3), ap chars (sym ((bytes_eq-Decides (string_bytes s) (string_bytes any.1)).0 any.4)))

      finds : HasText texts (text s) → list_any (string_eq s) texts ≡ true
      finds (x, at, e) =
          let same : string_bytes s ≡ string_bytes x = same_text (string_bytes s) (string_bytes x) (IsUtf8-string_bytes s) (IsUtf8-string_bytes x) (sym e) in
          list_any-from_Any (string_eq s) texts (at.0, x, at.1, at.2, (bytes_eq-Decides (string_bytes s) (string_bytes x)).1 same)

  -- what is not added was there
  pub text_there : (texts : List (String A)) (s : String A) (added : Bool) → added ≡ not (list_any (string_eq s) texts) → Decides (not added) (HasText texts (text s))
  text_there texts s added e = subst (λ b. Decides b (HasText texts (text s))) (sym (twice (list_any (string_eq s) texts) added e)) (decides_text texts s)
    where
      twice : (b c : Bool) → c ≡ not b → not c ≡ b
      twice true c e = ap not e
      twice false c e = ap not e

  -- an inserted text joins
  pub text_joined : (old new : List (String A)) (s : String A) → new ≡ insert_key string_eq old s → IsTextJoined old (text s) new
  text_joined old new s e = subst (IsTextJoined old (text s)) (sym e) (by (list_any (string_eq s) old) refl)
    where
      kept : list_any (string_eq s) old ≡ true → IsTextJoined old (text s) old
      kept f v = (inl, back)
        where
          back : HasText old v ⊎ (text s ≡ v) → HasText old v
          back (inl k) = k
          back (inr k) = subst (HasText old) k ((decides_text old s).0 f)

      pushed : IsTextJoined old (text s) (old ++ s ∷ [])
      pushed v = (there, back)
        where
          there : HasText (old ++ s ∷ []) v → HasText old v ⊎ (text s ≡ v)
          there (x, among, is) = elim (Contains-push_cases old s x among) [ inl k ↦ inl (x, k, is) | inr k ↦ inr (ap text k ∙ is) ]

          back : HasText old v ⊎ (text s ≡ v) → HasText (old ++ s ∷ []) v
          back (inl (x, among, is)) = (x, Contains-append_left old (s ∷ []) x among, is)
          back (inr k) = (s, Contains-push old s, k)

      by : (b : Bool) → list_any (string_eq s) old ≡ b → IsTextJoined old (text s) (insert_key string_eq old s)
      by true f = subst (IsTextJoined old (text s)) (sym (ap (λ c. if c then old else old ++ s ∷ []) f)) (kept f)
      by false f = subst (IsTextJoined old (text s)) (sym (ap (λ c. if c then old else old ++ s ∷ []) f)) pushed

  -- the name of a property is that of the node
  pub property_named : (ns : List Node) (n : ℕ) → content_at ns n ≡ property → (read : Option (String A)) → NameReads (HasName ns n) read → NameReads (λ v. IsNamed ns v n) read
  property_named ns n e None h = λ v k. h v k.1
  property_named ns n e (Some s) h = (e, h)

  pub property_lent : (ns : List Node) (n : ℕ) → content_at ns n ≡ property → (read : Option (CowStr A)) → ReadsAs (HasName ns n) read → ReadsAs (λ v. IsNamed ns v n) read
  property_lent ns n e None h = λ v k. h v k.1
  property_lent ns n e (Some s) h = (e, h)

  module _ (ns : List Node) (n : ℕ) (old : List (String A)) where
    module _ (w : List ℕ) (named : IsNamed ns w n) where
      -- a node repeats one of the names where its own is among them
      pub name_repeats : (b : Bool) → Decides b (HasText old w) → Decides b (RepeatsOneOf ns old n)
      name_repeats b d = (λ e. (w, d.0 e, named), λ r. d.1 (subst (HasText old) (has_name_once ns n r.0 w r.2.1 named.1) r.1))

      -- its name joins
      pub name_joined : (new : List (String A)) → IsTextJoined old w new → IsNameJoined ns old n new
      name_joined new joined v = (there, back)
        where
          there : HasText new v → HasText old v ⊎ IsNamed ns v n
          there h = elim ((joined v).0 h) [ inl k ↦ inl k | inr e ↦ inr (subst (λ u. IsNamed ns u n) e named) ]

          back : HasText old v ⊎ IsNamed ns v n → HasText new v
          back (inl k) = (joined v).1 (inl k)
          back (inr k) = (joined v).1 (inr (has_name_once ns n w v named.1 k.1))

    module _ (nobody : (v : List ℕ) → IsNamed ns v n → ⊥) where
      -- a node with no name repeats none
      pub nameless_repeats : Decides false (RepeatsOneOf ns old n)
      nameless_repeats = (λ e. absurd (false≢true e), λ r. absurd (nobody r.0 r.2))

      -- and nothing joins
      pub nameless_joined : IsNameJoined ns old n old
      nameless_joined v = (inl, back)
        where
          back : HasText old v ⊎ IsNamed ns v n → HasText old v
          back (inl k) = k
          back (inr k) = absurd (nobody v k)

  -- the texts are the names of the children
  abbrev pub AreNames : List Node → List ℕ → List (String A) → Type 0
  AreNames ns row texts = (v : List ℕ) → HasText texts v ↔ HasNamed ns row v

  pub no_names : (ns : List Node) (texts : List (String A)) → texts ≡ [] → AreNames ns [] texts
  no_names ns texts e v = (λ h. absurd (omega (arith, ap length e, h.1.1)), λ h. absurd (omega (arith, h.1.1)))

  module _ (ns : List Node) (row : List ℕ) (n : ℕ) (old : List (String A)) (names : AreNames ns row old) where
    -- with the name of one more node, they are those of one more
    pub one_more_name : (new : List (String A)) → IsNameJoined ns old n new → AreNames ns (row ++ n ∷ []) new
    one_more_name new joined v = (there, back)
      where
        there : HasText new v → HasNamed ns (row ++ n ∷ []) v
        there h = from ((joined v).0 h)
          where
            from : HasText old v ⊎ IsNamed ns v n → HasNamed ns (row ++ n ∷ []) v
            from (inl k) = let m = (names v).0 k in (m.0, Contains-append_left row (n ∷ []) m.0 m.1, m.2)
            from (inr k) = (n, Contains-push row n, k)

        back : HasNamed ns (row ++ n ∷ []) v → HasText new v
        back (m, among, named) = elim (Contains-push_cases row n m among) [ inl k ↦ (joined v).1 (inl ((names v).1 (m, k, named))) | inr e ↦ (joined v).1 (inr (subst (IsNamed ns v) (sym e) named)) ]

    -- the node repeats one of them where an earlier one has its name
    pub repeats_earlier : (b : Bool) → Decides b (RepeatsOneOf ns old n) → Decides b (RepeatsName ns row n)
    repeats_earlier b d = (λ e. let r = d.0 e in (r.0, (names r.0).0 r.1, r.2), λ r. d.1 (r.0, (names r.0).1 r.1, r.2))

  -- the same after one more child
  pub next_names : (ns : List Node) (row : List ℕ) (k n : ℕ) (old new : List (String A)) → k < length row → n ≡ get_or row k 0 → AreNames ns (take k row) old → IsNameJoined ns old n new → AreNames ns (take (k + 1) row) new
  next_names ns row k n old new h e names joined =
      subst (λ l. AreNames ns l new) (sym (take_more row k 0 h)) (one_more_name ns (take k row) (get_or row k 0) old names new (subst (λ m. IsNameJoined ns old m new) e joined))

-- one of some nodes and one more has a name
named_cases : (ns : List Node) (row : List ℕ) (n : ℕ) (v : List ℕ) → HasNamed ns (row ++ n ∷ []) v → HasNamed ns row v ⊎ IsNamed ns v n
named_cases ns row n v (m, among, named) = elim (Contains-push_cases row n m among) [ inl k ↦ inl (m, k, named) | inr e ↦ inr (subst (IsNamed ns v) (sym e) named) ]

named_more : (ns : List Node) (row : List ℕ) (n : ℕ) (v : List ℕ) → HasNamed ns row v ⊎ IsNamed ns v n → HasNamed ns (row ++ n ∷ []) v
named_more ns row n v (inl (m, among, named)) = (m, Contains-append_left row (n ∷ []) m among, named)
named_more ns row n v (inr named) = (n, Contains-push row n, named)

-- a property of a name that none of those passed has is added to them
pub passed_named : (ns : List Node) (old : List ℕ) (n : ℕ) (w : List ℕ) (new : List ℕ) → IsNamed ns w n → All (λ m. IsNamed ns w m → ⊥) old → new ≡ old ++ n ∷ [] → IsPassed ns old n new
passed_named ns old n w new named lacking e = record {
  apart = λ (v, (m, among, is), mine). All-contains (λ m. IsNamed ns w m → ⊥) old m lacking among (subst (λ u. IsNamed ns u m) (has_name_once ns n v w mine.1 named.1) is);
  joined = λ v h. subst (λ l. HasNamed ns l v) (sym e) (named_more ns old n v h);
}

-- a node without a name is passed
pub passed_nameless : (ns : List Node) (old : List ℕ) (n : ℕ) → ((v : List ℕ) → IsNamed ns v n → ⊥) → IsPassed ns old n old
passed_nameless ns old n nobody = record {
  apart = λ r. nobody r.0 r.2;
  joined = λ v h. elim h [ inl k ↦ k | inr k ↦ absurd (nobody v k) ];
}

-- the names of some children, none of which repeats another, are those of the nodes passed
pub record AreApart (ns : List Node) (row passed : List ℕ) : Type 0 where
  pub names : (v : List ℕ) → HasNamed ns row v → HasNamed ns passed v
  pub apart : AreRepeated ns row []

pub none_apart : (ns : List Node) (passed : List ℕ) → AreApart ns [] passed
none_apart ns passed = record { names = λ v h. absurd (omega (arith, h.1.1)); apart = none }

-- one more child
pub next_apart : (ns : List Node) (row : List ℕ) (k n : ℕ) (old new : List ℕ) → k < length row → n ≡ get_or row k 0 → AreApart ns (take k row) old → IsPassed ns old n new → AreApart ns (take (k + 1) row) new
next_apart ns row k n old new h e so_far passed =
    subst (λ l. AreApart ns l new) (sym (take_more row k 0 h ∙ ap (λ m. take k row ++ m ∷ []) (sym e))) (record {
      names = λ v has. passed.joined v (elim (named_cases ns (take k row) n v has) [ inl x ↦ inl (so_far.names v x) | inr x ↦ inr x ]);
      apart = fresh (take k row) [] n so_far.apart (λ r. passed.apart (r.0, so_far.names r.0 r.1, r.2));
    })

-- of no nodes none repeats
pub none_repeated : (ns : List Node) (found : List ℕ) → found ≡ [] → AreRepeated ns [] found
none_repeated ns found e = subst (AreRepeated ns []) (sym e) none

module _ (ns : List Node) (row : List ℕ) (k n : ℕ) (found : List ℕ) (h : k < length row) (e : n ≡ get_or row k 0) (so_far : AreRepeated ns (take k row) found) where
  -- one more child, with a name of its own or with one that occurred before
  pub next_fresh : (RepeatsName ns (take k row) n → ⊥) → AreRepeated ns (take (k + 1) row) found
  next_fresh other = subst (λ l. AreRepeated ns l found) (sym (take_more row k 0 h ∙ ap (λ m. take k row ++ m ∷ []) (sym e))) (fresh (take k row) found n so_far other)

  pub next_repeated : (more : List ℕ) → RepeatsName ns (take k row) n → more ≡ found ++ n ∷ [] → AreRepeated ns (take (k + 1) row) more
  next_repeated more same pushed =
      subst (λ l. AreRepeated ns l more) (sym (take_more row k 0 h ∙ ap (λ m. take k row ++ m ∷ []) (sym e)))
      (subst (AreRepeated ns (take k row ++ n ∷ [])) (sym pushed) (repeated (take k row) found n so_far same))

-- each of them is a property
pub repeated_properties : {ns : List Node} {row found : List ℕ} → AreRepeated ns row found → All (λ n. is_property (content_at ns n) ≡ true) found
repeated_properties {ns} none = λ k d l. absurd (omega (arith, l))
repeated_properties {ns} (fresh row found n r other) = repeated_properties r
repeated_properties {ns} (repeated row found n r same) = All-push (λ m. is_property (content_at ns m) ≡ true) found n (repeated_properties r) (ap is_property same.2.0)
