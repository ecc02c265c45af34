-- Syntax trees that a receiver makes, one item more at a time.
use Rattle.std.proofs.Common.{ℕ, ◌+◌, ◌-◌, ◌≡◌, ◌≤◌, ◌∙◌, ◌++◌, ◌∷◌, [], sym, ap, subst, true, IfSome, List, Option, None, Some, map, option_map, chars, slice_range, refl, rules}
use denote.Bor.{Bor}
use Rattle.std.specs.declared.borrow.CowStr.TheVariants.{Borrowed}
use Rattle.std.specs.Cow.{cow_str_bytes}
use Rattle.jsonc_text.specs.Lexemes.{Lexeme}
use Rattle.jsonc_text.specs.Lexemes.{string as lexeme_kind}
use Rattle.jsonc_text.specs.Plain.{string}
use Rattle.jsonc_text.specs.string.Escapes.{IsLentUnescaped}
use Rattle.std.proofs.lemmas.List.{map_push}
use Rattle.std.proofs.lemmas.List.Elements.{All-cons, All-nil}
use Rattle.jsonc_text.specs.declared.common.Range.{Range}
use Rattle.jsonc_ast.specs.declared.ast.ObjectProp.{ObjectProp}
use Rattle.jsonc_walk.specs.declared.name.ObjectPropName.{ObjectPropName}
use Rattle.jsonc_walk.specs.declared.name.ObjectPropName.TheVariants.{String}
use Rattle.jsonc_walk.specs.declared.name.StringLit.{StringLit}
use Rattle.jsonc_ast.specs.declared.ast.Value.{Value, the_lemmas}
use Rattle.jsonc_ast.specs.declared.ast.Value as value
use Rattle.jsonc_ast.specs.declared.to_ast.values.TreeMaker.{TreeMaker}
use Rattle.jsonc_walk.specs.Located.{In, Located, LocatedName, IsLocatedDocument, leaf_at, array_at, object_at, value_at, LocatedMember, items_of, members_of}
use Rattle.jsonc_ast.specs.Spelled.{spelled, spelled_in_property, spelled_in_elements, spelled_in_properties}
use Rattle.jsonc_ast.specs.Views.{located, member_of, items_located, members_located}
use Rattle.jsonc_walk.specs.Name.{name_at}
use Rattle.jsonc_walk.specs.Handed.{Source, HasPlainString, chars_between, IsDocumentMade, MadeBetweenGaps}
use Rattle.jsonc_walk.specs.Reached.{size}
use Rattle.jsonc_ast.specs.to_ast.Trees.{source_in, AreProperties, AreTrees, IsName, IsTree, SameOpen}
use Rattle.jsonc_walk.specs.Written.{AreWritten, IsWritten}
use Rattle.jsonc_ast.proofs.lemmas.to_ast.Spelling.{element_written, property_written}

pushed : {X : Type 0} (xs : List X) (x y : X) → x ≡ y → xs ++ x ∷ [] ≡ xs ++ y ∷ []
pushed xs x y e = ap (λ z. xs ++ z ∷ []) e

module _ {A : Type 0} where
  moved_written : (s m : Source) (names : List (ObjectPropName A)) → m ≡ s → AreWritten m.options m.bytes names → AreWritten s.options s.bytes names
  moved_written s m names e h = subst (λ x. AreWritten x.options x.bytes names) e h

  pub element_made : (s m old new : TreeMaker A) (xs ys : List (Value A)) (v : Value A) (ls : List Located) (x : Located) → AreTrees s m xs ls → IsTree m old v x → source_in new ≡ source_in old → ys ≡ xs ++ v ∷ [] → AreTrees s new ys (ls ++ x ∷ [])
  element_made s m old new xs ys v ls x held made stays grown = record {
    same = stays ∙ made.same ∙ held.same;
    located = ap (map located) grown ∙ map_push located xs v ∙ ap (λ l. l ++ located v ∷ []) held.located ∙ pushed ls (located v) x made.located;
    written = element_written (source_in s).options (source_in s).bytes xs ys v held.written (moved_written (source_in s) (source_in m) (spelled v) held.same made.written) grown;
  }

  pub array_made : (s old new : TreeMaker A) (vs : List (Value A)) (v : Value A) (r : Range) (xs : List Located) → AreTrees s old vs xs → source_in new ≡ source_in old → SameOpen s new → located v ≡ array_at r (items_located vs) → spelled v ≡ spelled_in_elements vs → IsTree s new v (array_at r (items_of xs))
  array_made s old new vs v r xs held stays stacks at spells = record {
    same = stays ∙ held.same;
    stacks = stacks;
    located = at ∙ ap (λ l. array_at r (items_of l)) held.located;
    written = subst (AreWritten (source_in s).options (source_in s).bytes) (sym spells) held.written;
  }

  pub property_made : (s m k old new : TreeMaker A) (ps qs : List (ObjectProp A)) (p : ObjectProp A) (name : ObjectPropName A) (v : Value A) (r : Range) (ms : List LocatedMember) (n : LocatedName) (x : Located)
      → AreProperties s m ps ms → IsName m k name n → IsTree k old v x → source_in new ≡ source_in old → member_of p ≡ record { range = r; name = name_at name; value = located v } → spelled_in_property p ≡ name ∷ spelled v
      → qs ≡ ps ++ p ∷ [] → AreProperties s new qs (ms ++ record { range = r; name = n; value = x } ∷ [])
  property_made s m k old new ps qs p name v r ms n x held named made stays at spells grown =
      let o = (source_in s).options in
      let b = (source_in s).bytes in
      let key : IsWritten o b name = subst (λ q. IsWritten q.options q.bytes name) held.same named.written in
      let value = moved_written (source_in s) (source_in k) (spelled v) (named.same ∙ held.same) made.written in
      record {
        same = stays ∙ made.same ∙ named.same ∙ held.same;
        located = ap (map member_of) grown ∙ map_push member_of ps p ∙ ap (λ l. l ++ member_of p ∷ []) held.located
            ∙ pushed ms (member_of p) (record { range = r; name = n; value = x }) (at ∙ ap (λ y. record { range = r; name = y; value = located v }) named.located ∙ ap (λ y. record { range = r; name = n; value = y }) made.located);
        written = property_written o b ps qs p held.written (subst (AreWritten o b) (sym spells) (All-cons (IsWritten o b) name (spelled v) key value)) grown;
      }

  pub object_made : (s old new : TreeMaker A) (ps : List (ObjectProp A)) (v : Value A) (r : Range) (ms : List LocatedMember) → AreProperties s old ps ms → source_in new ≡ source_in old → SameOpen s new → located v ≡ object_at r (members_located ps) → spelled v ≡ spelled_in_properties ps → IsTree s new v (object_at r (members_of ms))
  object_made s old new ps v r ms held stays stacks at spells = record {
    same = stays ∙ held.same;
    stacks = stacks;
    located = at ∙ ap (λ l. object_at r (members_of l)) held.located;
    written = subst (AreWritten (source_in s).options (source_in s).bytes) (sym spells) held.written;
  }

  -- the value of a document, and gaps around it
  abbrev pub DocumentTree : TreeMaker A → TreeMaker A → Source → Option (Value A) → Type 0
  DocumentTree old new s found = IsDocumentMade s true (MadeBetweenGaps (λ s t. t ≡ s) IsTree old new) found

  pub tree_located : (old new : TreeMaker A) (s : Source) (found : Option (Value A)) → DocumentTree old new s found → IsLocatedDocument s.options s.bytes (option_map located found)
  tree_located old new s None h = h
  tree_located old new s (Some v) (x, document, small, (m, n, before, made, after)) = subst (λ y. IsLocatedDocument s.options s.bytes (Some y)) (sym made.located) document

  pub tree_written : (old new : TreeMaker A) (s : Source) (found : Option (Value A)) → source_in old ≡ s → DocumentTree old new s found → IfSome found (λ v. AreWritten s.options s.bytes (spelled v))
  tree_written old new s None e h = tt
  tree_written old new s (Some v) e (x, document, small, (m, n, before, made, after)) = moved_written s (source_in m) (spelled v) (ap source_in before ∙ e) made.written

  pub tree_within : (old new : TreeMaker A) (s : Source) (found : Option (Value A)) → DocumentTree old new s found → IfSome found (λ v. size true (value_at (located v)) ≤ 512)
  tree_within old new s None h = tt
  tree_within old new s (Some v) (x, document, small, (m, n, before, made, after)) = subst (λ y. size true (value_at y) ≤ 512) (sym made.located) small

  spelled_string : (q : StringLit A) → spelled (value.StringLit q) ≡ String q ∷ []
  spelled_string q = search (rules, the_lemmas)

  located_string : (q : StringLit A) → located (value.StringLit q) ≡ leaf_at q.range (string (chars (cow_str_bytes q.value)))
  located_string q = search (rules, the_lemmas)

  -- a string that has no backslash, lent by the text
  pub plain_string_made : (old : TreeMaker A) (r : Range) (b : Bor (List ℕ)) → HasPlainString (source_in old) r → b.now ≡ slice_range old.text.now (r.start + 1) (r.end - 1)
      → IsTree old old (value.StringLit (record { range = r; value = Borrowed b })) (leaf_at r (string (chars_between (source_in old) (r.start + 1) (r.end - 1))))
  plain_string_made old r b h e =
      let s = source_in old in
      let q : StringLit A = record { range = r; value = Borrowed b } in
      let stands : In s.bytes (Lexeme s.options (lexeme_kind (chars b.now))) r = subst (λ w. In s.bytes (Lexeme s.options (lexeme_kind (chars w))) r) (sym e) h.stands in
      let lent : IsLentUnescaped {A = A} s.bytes r.start r.end (Borrowed b) = record { copied = ((λ x. absurd x), λ x. absurd (h.plain x)); slice = λ x. e } in
      record {
        same = refl;
        stacks = (refl, refl);
        located = located_string q ∙ ap (λ w. leaf_at r (string (chars w))) e;
        written = subst (AreWritten s.options s.bytes) (sym (spelled_string q)) (All-cons (IsWritten s.options s.bytes) (String q) [] (stands, lent) (All-nil (IsWritten s.options s.bytes)));
      }
