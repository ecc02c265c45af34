-- What leaves give.
use Rattle.std.proofs.Common.{◌≡◌, ℕ, List, true, false, Option, None, Some, IsTrue, refl, subst, option_map, sym, rules}
use Rattle.std.proofs.lemmas.Bool.{false≢true}
use Rattle.jsonc_text.specs.Plain.{Plain, collapse}
use Rattle.jsonc_tree.specs.Content.{Content, text_of, is_container}
use Rattle.jsonc_tree.specs.declared.node.Kind.{Kind}
use Rattle.jsonc_tree.specs.declared.node.Kind.TheVariants as kind
use Rattle.jsonc_tree.specs.Stored.{content_of}
use Rattle.jsonc_tree.specs.Tree.{Node, content_at}
use Rattle.jsonc_tree.specs.OrderedTree.{OrderedTree}
use Rattle.jsonc_layout.specs.declared.input.value.CstInputValue.{CstInputValue, Null, the_lemmas}
use Rattle.jsonc_layout.specs.input.Views.{plain}
use Rattle.jsonc_layout.specs.nodes.Names.{StandsFor, is_string}
use Rattle.jsonc_layout.specs.nodes.Kinds.{is_property}
use Rattle.jsonc_layout.specs.to_input.Given.{Gives, gives_nothing}
use Rattle.jsonc_layout.specs.to_input.Taken.{IsTakenAt}

not_so : {X : Type 0} → false ≡ true → X
not_so h = absurd (false≢true h)

-- a string by what it stands for
string_gives : (content : Content) (found : Option Plain) → IsTrue (is_string content) → ((s : List ℕ) → s ≡ text_of content → (row : OrderedTree) → Gives (Content.string s) row found) → (row : OrderedTree) → Gives content row found
string_gives (Content.string s) found h g row = g s refl row
string_gives Content.root found h g row = not_so h
string_gives Content.property found h g row = not_so h
string_gives Content.object found h g row = not_so h
string_gives Content.array found h g row = not_so h
string_gives (Content.word s) found h g row = not_so h
string_gives (Content.number s) found h g row = not_so h
string_gives (Content.boolean b) found h g row = not_so h
string_gives Content.null found h g row = not_so h
string_gives (Content.token c) found h g row = not_so h
string_gives (Content.whitespace s) found h g row = not_so h
string_gives (Content.newline k) found h g row = not_so h
string_gives (Content.comment s) found h g row = not_so h

pub decoded_gives : (content : Content) (v : List ℕ) → IsTrue (is_string content) → StandsFor (text_of content) v → (row : OrderedTree) → Gives content row (Some (Plain.string v))
decoded_gives content v h k = string_gives content (Some (Plain.string v)) h (λ s e row. Gives.string (subst (λ t. StandsFor t v) (sym e) k))

pub undecoded_gives : (content : Content) → IsTrue (is_string content) → ((v : List ℕ) → StandsFor (text_of content) v → ⊥) → (row : OrderedTree) → Gives content row None
undecoded_gives content h k = string_gives content None h (λ s e row. Gives.undecoded (λ v d. k v (subst (λ t. StandsFor t v) e d)))

pub plain-Null : (A : Type 0) → plain {A = A} Null ≡ Plain.null
plain-Null A = search (rules, the_lemmas)

module _ {A : Type 0} where
  -- what is taken of a node of this content
  pub taken_at : (ns : List Node) (n : ℕ) (content : Content) (given : Option Plain) (taken : Option (CstInputValue A)) → content ≡ content_at ns n → ((row : OrderedTree) → Gives content row given) → option_map plain taken ≡ option_map collapse given → IsTakenAt ns n taken
  taken_at ns n content given taken e gives same = record {
    given = given;
    gives = λ row shows. subst (λ (c : Content). Gives c row given) e (gives row);
    collapsed = same;
  }

  -- another kind of leaf gives nothing
  pub other_leaf : (k : Kind A) → ((s : _) → k ≡ kind.String s → ⊥) → ((s : _) → k ≡ kind.Number s → ⊥) → ((b : _) → k ≡ kind.Boolean b → ⊥) → (k ≡ kind.Null → ⊥) → ((s : _) → k ≡ kind.StringPart s → ⊥) → ((s : _) → k ≡ kind.NumberPart s → ⊥)
      → is_container (content_of k) ≡ false → IsTrue (gives_nothing (content_of k))
  other_leaf (kind.Root ends) a b c d e f h = not_so (sym h)
  other_leaf (kind.Object ends) a b c d e f h = not_so (sym h)
  other_leaf (kind.Array ends) a b c d e f h = not_so (sym h)
  other_leaf (kind.Property ends) a b c d e f h = not_so (sym h)
  other_leaf (kind.String s) a b c d e f h = absurd (a s refl)
  other_leaf (kind.Word s) a b c d e f h = refl
  other_leaf (kind.Number s) a b c d e f h = absurd (b s refl)
  other_leaf (kind.Boolean s) a b c d e f h = absurd (c s refl)
  other_leaf kind.Null a b c d e f h = absurd (d refl)
  other_leaf (kind.Token s) a b c d e f h = refl
  other_leaf (kind.Whitespace s) a b c d e f h = refl
  other_leaf (kind.Newline s) a b c d e f h = refl
  other_leaf (kind.Comment s) a b c d e f h = refl
  other_leaf (kind.StringPart s) a b c d e f h = absurd (e s refl)
  other_leaf (kind.WordPart s) a b c d e f h = refl
  other_leaf (kind.NumberPart s) a b c d e f h = absurd (f s refl)
  other_leaf (kind.WhitespacePart s) a b c d e f h = refl
  other_leaf (kind.CommentPart s) a b c d e f h = refl

  -- a node of another kind is no property
  pub not_property : (k : Kind A) → ((ends : _) → k ≡ kind.Property ends → ⊥) → is_property (content_of k) ≡ false
  not_property (kind.Property ends) h = absurd (h ends refl)
  not_property (kind.Root ends) h = refl
  not_property (kind.Object ends) h = refl
  not_property (kind.Array ends) h = refl
  not_property (kind.String s) h = refl
  not_property (kind.Word s) h = refl
  not_property (kind.Number s) h = refl
  not_property (kind.Boolean b) h = refl
  not_property kind.Null h = refl
  not_property (kind.Token s) h = refl
  not_property (kind.Whitespace s) h = refl
  not_property (kind.Newline s) h = refl
  not_property (kind.Comment s) h = refl
  not_property (kind.StringPart s) h = refl
  not_property (kind.WordPart s) h = refl
  not_property (kind.NumberPart s) h = refl
  not_property (kind.WhitespacePart s) h = refl
  not_property (kind.CommentPart s) h = refl
