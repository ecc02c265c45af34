-- Which rule may be true of a node, by what the node is.
use Rattle.std.proofs.Common.{◌≡◌, ◌∙◌, sym, ap, refl, subst, ℕ, Bool, true, false, List, [], ◌∷◌, ◌++◌, Option, Some, None, String, IsTrue, chars, codes, string_bytes}
use Rattle.std.specs.HashMap.{HashMap}
use Rattle.std.specs.Str.Iter.{HasSubslice}
use Rattle.std.proofs.lemmas.Bool.{false≢true}
use Rattle.jsonc_text.specs.Places.{LineColumn}
use Rattle.jsonc_tree.specs.Content as content
use Rattle.jsonc_tree.specs.Content.{Content}
use Rattle.jsonc_tree.specs.Stored.{content_of}
use Rattle.jsonc_tree.specs.Tree.{Node, content_at}
use Rattle.jsonc_tree.specs.declared.node.Ends.{Ends}
use Rattle.jsonc_tree.specs.declared.node.Kind.{Kind}
use Rattle.jsonc_tree.specs.declared.node.Kind.TheVariants as kind
use Rattle.jsonc_tree.specs.declared.node.Kind.TheVariants.{Root, Object, Array, Property, Word, Number, Boolean, Null, Token, Whitespace, Newline, Comment, StringPart, WordPart, NumberPart, WhitespacePart, CommentPart}
use Rattle.jsonc_cst.specs.Ranges.{IsBefore}
use Rattle.jsonc_lint.specs.declared.finding.FindingKind.{FindingKind}
use Rattle.jsonc_lint.specs.declared.finding.FindingKind.TheVariants.{Fault, RepeatedName, Todo, TrailingComma}
use Rattle.jsonc_lint.specs.declared.rules.Rules.{Rules}
use Rattle.jsonc_lint.specs.declared.finding.FirstProperty.{FirstProperty}
use Rattle.jsonc_lint.specs.Findings.{BeginsAt, IsOf, IsPropertyOf, IsTrailingComma, Repeats}
use Rattle.jsonc_lint.specs.SeenNames.{AreKnown, IsAnswered, Knows}
use Rattle.jsonc_lint.specs.Steps.{IsAnswer, IsCommentKind, IsKindFound, IsTokenKind}
use Rattle.jsonc_lint.proofs.Repeats.{nameless}

-- there is a rule of nodes of this content
abbrev pub is_ruled : Content → Bool
is_ruled content.property = true
is_ruled (content.comment s) = true
is_ruled (content.token c) = true
is_ruled _ = false

no_property : (ns : List Node) (n : ℕ) (c : Content) → content_at ns n ≡ c → (c ≡ content.property → ⊥) → (object : ℕ) (v : List ℕ) → IsPropertyOf ns object v n → ⊥
no_property ns n c e other object v p = other (sym e ∙ p.1.0)

module _ {A : Type 0} (rules : Rules) (ns : List Node) (t : List ℕ) (n : ℕ) where
  abbrev Rule : List ℕ → FindingKind A → Type 0
  Rule before kind = IsOf rules ns t before n kind

  ruled : (before : List ℕ) (kind : FindingKind A) → Rule before kind → is_ruled (content_at ns n) ≡ true
  ruled before (Fault k) h = absurd h
  ruled before (RepeatedName name first) h = ap is_ruled h.1.1.1.0
  ruled before Todo h = ap is_ruled h.1
  ruled before TrailingComma h = ap is_ruled h.1.0

  -- of a comment, only the rule of comments
  comment_rule : (s : List ℕ) → content_at ns n ≡ content.comment s → (before : List ℕ) (kind : FindingKind A) → Rule before kind → (kind ≡ Todo) × HasSubslice s (codes "TODO")
  comment_rule s e before (Fault k) h = absurd h
  comment_rule s e before (RepeatedName name first) h = let wrong : content.comment s ≡ content.property = sym e ∙ h.1.1.1.0 in cc
  comment_rule s e before Todo h = let same : content.comment h.0 ≡ content.comment s = sym h.1 ∙ e in (refl, subst (λ x. HasSubslice x (codes "TODO")) (inside h.0 s same) h.2)
    where
      inside : (x y : List ℕ) → content.comment x ≡ content.comment y → x ≡ y
      inside x y e = cc
  comment_rule s e before TrailingComma h = let wrong : content.comment s ≡ content.token 0x2C = sym e ∙ h.1.0 in cc

  -- of a token, only the rule of tokens
  token_rule : (c : ℕ) → content_at ns n ≡ content.token c → (before : List ℕ) (kind : FindingKind A) → Rule before kind → (kind ≡ TrailingComma) × IsTrue rules.trailing_commas × IsTrailingComma ns n
  token_rule c e before (Fault k) h = absurd h
  token_rule c e before (RepeatedName name first) h = let wrong : content.token c ≡ content.property = sym e ∙ h.1.1.1.0 in cc
  token_rule c e before Todo h = let wrong : content.token c ≡ content.comment h.0 = sym e ∙ h.1 in cc
  token_rule c e before TrailingComma h = (refl, h.0, h.1)

  -- of a property, only the rule of names
  property_rule : content_at ns n ≡ content.property → (before : List ℕ) (kind : FindingKind A) → Rule before kind → (v : List ℕ) × (m : ℕ) × Repeats ns before n v m
  property_rule e before (Fault k) h = absurd h
  property_rule e before (RepeatedName name first) h = (chars (string_bytes name), h.0, h.1)
  property_rule e before Todo h = let wrong : content.property ≡ content.comment h.0 = sym e ∙ h.1 in cc
  property_rule e before TrailingComma h = let wrong : content.property ≡ content.token 0x2C = sym e ∙ h.1.0 in cc

  module _ {S : Type 0} (old new : HashMap (ℕ × String A) ℕ S) where
    pub fresh_found : content_at ns n ≡ content.property → IsAnswered ns n old new None → IsKindFound rules ns t n old new None
    fresh_found e h before knows =
        let answer = h before knows in
        (λ kind r. (let rule = property_rule e before kind r in answer.0 rule.0 rule.1 rule.2), answer.1)

    pub repeated_found : (repeat : String A × ℕ) (first : FirstProperty) → IsAnswered ns n old new (Some repeat) → first.start ≡ repeat.1 → LineColumn t repeat.1 first.line first.column
        → IsKindFound rules ns t n old new (Some (RepeatedName repeat.0 first))
    repeated_found repeat first h e position before knows =
        let answer = h before knows in
        let begins : BeginsAt ns t answer.0.0 first = record { start = subst (IsBefore ns answer.0.0) (sym e) answer.0.2; position = subst (λ k. LineColumn t k first.line first.column) (sym e) position } in
        ((answer.0.0, answer.0.1, begins), answer.1)

  module _ {S : Type 0} (names : HashMap (ℕ × String A) ℕ S) where
    abbrev Found : Option (FindingKind A) → Type 0
    Found answer = IsKindFound rules ns t n names names answer

    -- what is found at a node that is no property
    unnamed : (c : Content) → content_at ns n ≡ c → (c ≡ content.property → ⊥) → (before : List ℕ) → Knows ns before names → Knows ns (before ++ n ∷ []) names
    unnamed c e other before knows = (nameless ns n names (no_property ns n c e other) before knows).1

    pub comment_found : (s : List ℕ) (answer : Option (FindingKind A)) → content_at ns n ≡ content.comment s → IsCommentKind s answer → Found answer
    comment_found s answer e h before knows = (by answer h, unnamed (content.comment s) e (λ f. cc) before knows)
      where
        by : (answer : Option (FindingKind A)) → IsCommentKind s answer → IsAnswer rules ns t before n answer
        by None h = λ kind r. h (comment_rule s e before kind r).1
        by (Some kind) h = subst (IsOf rules ns t before n) (sym h.0) (s, e, h.1)

    pub token_found : (c : ℕ) (answer : Option (FindingKind A)) → content_at ns n ≡ content.token c → IsTokenKind rules ns n answer → Found answer
    token_found c answer e h before knows = (by answer h, unnamed (content.token c) e (λ f. cc) before knows)
      where
        by : (answer : Option (FindingKind A)) → IsTokenKind rules ns n answer → IsAnswer rules ns t before n answer
        by None h = λ kind r. (let rule = token_rule c e before kind r in h rule.1 rule.2)
        by (Some kind) h = subst (IsOf rules ns t before n) (sym h.0) (h.1, h.2)

    pub nothing_found : (c : Content) → content_at ns n ≡ c → is_ruled c ≡ false → Found None
    nothing_found c e unruled before knows = (
      λ kind r. false≢true (sym unruled ∙ ap is_ruled (sym e) ∙ ruled before kind r),
      unnamed c e (λ f. false≢true (sym unruled ∙ ap is_ruled f)) before knows,
    )

-- where a name is repeated, its first property begins there
pub first_begins : {A S : Type 0} (ns : List Node) (n : ℕ) (old new : HashMap (ℕ × String A) ℕ S) (repeat : String A × ℕ) → AreKnown ns old → IsAnswered ns n old new (Some repeat) → (m : ℕ) × IsBefore ns m repeat.1
first_begins ns n old new repeat (row, knows) h = let answer = (h row knows).0 in (answer.0, answer.2)

-- there is no rule of a node that is neither a property, a comment nor a token
pub no_rule : {A : Type 0} (k : Kind A) → ((e : Ends) → k ≡ Property e → ⊥) → ((c : ℕ) → k ≡ Token c → ⊥) → ((s : String A) → k ≡ Comment s → ⊥) → ((s : List ℕ) → k ≡ CommentPart s → ⊥) → is_ruled (content_of k) ≡ false
no_rule (Root e) p t c d = refl
no_rule (Object e) p t c d = refl
no_rule (Array e) p t c d = refl
no_rule (Property e) p t c d = absurd (p e refl)
no_rule (kind.String s) p t c d = refl
no_rule (Word s) p t c d = refl
no_rule (Number s) p t c d = refl
no_rule (Boolean b) p t c d = refl
no_rule Null p t c d = refl
no_rule (Token x) p t c d = absurd (t x refl)
no_rule (Whitespace s) p t c d = refl
no_rule (Newline n) p t c d = refl
no_rule (Comment s) p t c d = absurd (c s refl)
no_rule (StringPart s) p t c d = refl
no_rule (WordPart s) p t c d = refl
no_rule (NumberPart s) p t c d = refl
no_rule (WhitespacePart s) p t c d = refl
no_rule (CommentPart s) p t c d = absurd (d s refl)
