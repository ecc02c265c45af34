-- Values of one token, and documents.
use Rattle.std.proofs.Common.{ℕ, Bool, true, false, ◌≤◌, ◌≡◌, ◌∙◌, sym, ap, subst, refl, arith, List, [], ◌∷◌, ◌++◌, Option, Some, None, option_map, length}
use Rattle.jsonc_text.specs.declared.common.Range.{Range}
use Rattle.jsonc_text.specs.Gaps.{Gap}
use Rattle.jsonc_text.specs.Grammar.{literal_value}
use Rattle.jsonc_text.specs.Lexemes.{Scanned, lexeme, line_comment, block_comment, LexemeKind, IsScanned}
use Rattle.jsonc_text.specs.Plain.{Plain}
use Rattle.jsonc_text.specs.Words.{Keyword}
use Rattle.jsonc_scan.specs.Scanner.{IsThere}
use Rattle.jsonc_walk.specs.declared.context.Context.{Context}
use Rattle.jsonc_walk.specs.Context.{text_in, options_in, token_start, token_end, token_range, Keeps, Finds, GivesAway, IsToken}
use Rattle.jsonc_walk.specs.Handed.{ElementMade, LeafMade, ReadsLeaf}
use Rattle.jsonc_walk.specs.Located.{Located, leaf_at, range_at, value_at, Between, In, IsLeaf, IsLocated, IsLocatedDocument}
use Rattle.jsonc_walk.specs.Reached.{size}
use Rattle.jsonc_walk.specs.Reads.{Reads}
use Rattle.jsonc_walk.specs.Scanned.{leaf_value}
use Rattle.jsonc_walk.proofs.lemmas.Gaps.{change, stands}
use Rattle.jsonc_walk.proofs.lemmas.MovedTokens.{reads_self}
use Rattle.jsonc_walk.proofs.lemmas.Scans.{moved, kept_on}

-- the lexeme that a leaf is, and its value
record IsLeafOf (w : Scanned) (x : Located) (r : Range) : Type 0 where
  kind : LexemeKind
  is : w ≡ lexeme kind
  value : Plain
  means : literal_value kind ≡ Some value
  leaf : x ≡ leaf_at r value

some_same : (x y : Located) → Some x ≡ Some y → x ≡ y
some_same x y e = cc

none_same : (x : Located) → Some x ≡ None → ⊥
none_same x e = cc

literal_leaf : (k : LexemeKind) (x : Located) (r : Range) (q : Option Plain) → literal_value k ≡ q → Some x ≡ option_map (leaf_at r) q → IsLeafOf (lexeme k) x r
literal_leaf k x r None e h = absurd (none_same x h)
literal_leaf k x r (Some v) e h = record { kind = k; is = refl; value = v; means = e; leaf = some_same x (leaf_at r v) h }

leaf_of : (w : Scanned) (x : Located) (r : Range) → Some x ≡ option_map (leaf_at r) (leaf_value w) → IsLeafOf w x r
leaf_of (lexeme k) x r h = literal_leaf k x r (literal_value k) refl h
leaf_of (line_comment s) x r h = absurd (none_same x h)
leaf_of (block_comment s) x r h = absurd (none_same x h)

no_value : (whole : Bool) (v : Plain) → None ≡ Some v → size whole v ≡ 0
no_value whole v e = cc

-- nothing that counts is in a literal
flat_string : (whole : Bool) (s : List ℕ) → size whole (Plain.string s) ≡ 0
flat_string true s = refl
flat_string false s = refl

flat_number : (whole : Bool) (s : List ℕ) → size whole (Plain.number s) ≡ 0
flat_number true s = refl
flat_number false s = refl

flat_boolean : (whole b : Bool) → size whole (Plain.boolean b) ≡ 0
flat_boolean true b = refl
flat_boolean false b = refl

flat_null : (whole : Bool) → size whole Plain.null ≡ 0
flat_null true = refl
flat_null false = refl

same_value : (v w : Plain) → Some v ≡ Some w → v ≡ w
same_value v w e = cc

flat : (whole : Bool) (k : LexemeKind) (v : Plain) → literal_value k ≡ Some v → size whole v ≡ 0
flat whole (LexemeKind.string s) v e = ap (size whole) (sym (same_value (Plain.string s) v e)) ∙ flat_string whole s
flat whole (LexemeKind.number s) v e = ap (size whole) (sym (same_value (Plain.number s) v e)) ∙ flat_number whole s
flat whole (LexemeKind.keyword (Keyword.boolean b)) v e = ap (size whole) (sym (same_value (Plain.boolean b) v e)) ∙ flat_boolean whole b
flat whole (LexemeKind.keyword Keyword.null) v e = ap (size whole) (sym (same_value Plain.null v e)) ∙ flat_null whole
flat whole (LexemeKind.word s) v e = no_value whole v e
flat whole (LexemeKind.punctuation c) v e = no_value whole v e

module _ {A : Type 0} where
  leaf_stands : (c : Context A) (t : Scanned) (x : Located) (r : Range) → IsToken c t → IsLeafOf t x r → r ≡ token_range c → IsLocated (options_in c) (text_in c) x
  leaf_stands c t x r at h e =
      let token = subst (λ w. Between (text_in c) (IsScanned (options_in c) w) (token_start c) (token_end c)) h.is (stands (text_in c) (options_in c) c.scanner t refl refl at) in
      let leaf : In (text_in c) (IsLeaf (options_in c) h.value) (token_range c) = change (IsLeaf (options_in c) h.value) (λ u v k. (h.kind, k, h.means)) token in
      subst (λ y. IsLocated (options_in c) (text_in c) y) (sym h.leaf) (subst (λ q. In (text_in c) (IsLeaf (options_in c) h.value) q) (sym e) leaf)

  pub leaf_reads : (c : Context A) (t : Scanned) (is_made : Located → Type 0) (r : Range) → IsToken c t → LeafMade r t is_made → r ≡ token_range c → ReadsLeaf c is_made
  leaf_reads c t is_made r at m e =
      let leaf = leaf_of t m.leaf r m.is in
      record {
        leaf = m.leaf;
        reads = record {
          value = leaf_stands c t m.leaf r at leaf e;
          starts = ap (λ x. (range_at x).start) leaf.leaf ∙ ap (λ q. q.start) e;
          ends = ap (λ x. (range_at x).end) leaf.leaf ∙ ap (λ q. q.end) e;
          on = omega arith;
        };
        flat = λ whole. ap (λ x. size whole (value_at x)) leaf.leaf ∙ flat whole leaf.kind leaf.value leaf.means;
        made = m.made;
      }

  pub gives_nothing : (c : Context A) → GivesAway c c
  gives_nothing c = record { scanner = refl; decodes = refl; tokens = refl; comments = refl; apart = refl }

  -- a literal, put behind the elements so far
  pub element_put : (old new : Context A) (t : Scanned) (r : Range) (v : Plain) (whole : Bool) (count : ℕ) (held holds_now : List Located → Type 0) → IsToken old t → leaf_value t ≡ Some v → r ≡ token_range old → GivesAway old new → count ≤ 512
      → ((xs : List Located) → held xs → holds_now (xs ++ leaf_at r v ∷ [])) → ElementMade old new whole count held holds_now
  element_put old new t r v whole count held holds_now at is place gives small put =
      let x = leaf_at r v in
      let made : LeafMade r t (λ y. x ≡ y) = record { leaf = x; is = ap (option_map (leaf_at r)) (sym is); made = refl } in
      let read = leaf_reads old t (λ y. x ≡ y) r at made place in
      record {
        element = x;
        reads = reads_self old new x gives (subst (Reads old old) (sym read.made) read.reads);
        within = let none : size whole (value_at x) ≡ 0 = ap (λ y. size whole (value_at y)) read.made ∙ read.flat whole in omega (arith, none, small);
        put = put;
      }

  -- nothing but a gap
  pub empty_document : (c d : Context A) (f : Option Scanned) → token_end c ≡ 0 → Keeps c d → Finds (Gap (options_in c)) c d f → f ≡ None → IsLocatedDocument (options_in c) (text_in c) None
  empty_document c d f zero kept found is =
      let last : token_start d ≡ length (text_in c) = (subst (IsThere d.scanner) is found.1).0 ∙ ap length kept.text in
      subst (λ j. Between (text_in c) (Gap (options_in c)) 0 j) last (subst (λ i. Between (text_in c) (Gap (options_in c)) i (token_start d)) zero found.0)

  -- a value between two gaps
  pub value_document : (c d m e : Context A) (f h : Option Scanned) (x : Located) → token_end c ≡ 0 → Keeps c d → Finds (Gap (options_in c)) c d f → Keeps d m → Reads d m x → Keeps m e → Finds (Gap (options_in m)) m e h → h ≡ None
      → IsLocatedDocument (options_in c) (text_in c) (Some x)
  value_document c d m e f h x zero kept found on read further after is =
      let o = options_in c in
      let b = text_in c in
      let all = kept_on c d m kept on in
      let last : token_start e ≡ length b = (subst (IsThere e.scanner) is after.1).0 ∙ ap length (further.text ∙ all.text) in
      let gap = moved (λ p t. Between t (Gap p) (token_end m) (token_start e)) all.options all.text after.0 in (
        subst (λ i. Between b (Gap o) i (range_at x).start) zero (subst (λ j. Between b (Gap o) (token_end c) j) (sym read.starts) found.0),
        moved (λ p t. IsLocated p t x) kept.options kept.text read.value,
        subst (λ j. Between b (Gap o) (range_at x).end j) last (subst (λ i. Between b (Gap o) i (token_start e)) (sym read.ends) gap),
      )
