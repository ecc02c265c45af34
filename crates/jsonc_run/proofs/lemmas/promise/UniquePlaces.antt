-- A path leads to one place of a text.
use Rattle.std.proofs.Common.{ℕ, ◌≡◌, ◌∙◌, sym, subst, refl, inl, inr, List, ◌∷◌, IsTrue}
use Rattle.jsonc_text.specs.Options.{Options}
use Rattle.jsonc_text.specs.Text.{next, starts}
use Rattle.jsonc_text.specs.Lexemes.{LexemeKind}
use Rattle.jsonc_text.specs.Grammar.{IsName, IsProperty, named, Separates, comma, no_comma}
use Rattle.jsonc_text.specs.Plain.{Plain}
use Rattle.jsonc_text.proofs.Basics.{apart, tails}
use Rattle.jsonc_text.proofs.Begins.{begins_item}
use Rattle.jsonc_text.proofs.UniqueGaps.{gap_unique}
use Rattle.jsonc_text.proofs.UniqueLexemes.{lexeme_unique}
use Rattle.jsonc_text.proofs.UniqueValues.{gap_after, name_begins, no_item_at, not_gap, value_begins, value_unique}
use Rattle.jsonc_run.specs.texts.Paths.{Kind, an_array, an_object, opening, IsEntry, LeadsTo, EntryAt, this_entry, later_entry, HasEntry, ValueAt, itself, inside, Value}

-- an opening bracket tells the kind
pub kinds_same : (k l : Kind) {t u : List ℕ} → opening k ∷ t ≡ opening l ∷ u → k ≡ l
kinds_same an_array an_array e = refl
kinds_same an_object an_object e = refl
kinds_same an_array an_object e = absurd (apart refl e)
kinds_same an_object an_array e = absurd (apart refl e)

module _ (o : Options) where
  name_ends : {n m t r s : List ℕ} → IsName o t n r → IsName o t m s → r ≡ s
  name_ends {n} {m} {t} {r} {s} (inl l) (inl k) = (lexeme_unique o (LexemeKind.string n) (LexemeKind.string m) t r s l k).1
  name_ends {n} {m} {t} {r} {s} (inl l) (inr k) = (lexeme_unique o (LexemeKind.string n) k.2 t r s l k.4).1
  name_ends {n} {m} {t} {r} {s} (inr k) (inl l) = (lexeme_unique o k.2 (LexemeKind.string m) t r s k.4 l).1
  name_ends {n} {m} {t} {r} {s} (inr l) (inr k) = (lexeme_unique o l.2 k.2 t r s l.4 k.4).1

  property_ends : {n m t r s : List ℕ} {v w : Plain} → IsProperty o t n v r → IsProperty o t m w s → r ≡ s
  property_ends (named {x = x} n g h v) (named {x = y} m k l w) =
      let p = gap_after (tails (gap_after (name_ends n m) g k refl refl)) h l (not_gap x (value_begins o v)) (not_gap y (value_begins o w)) in
      (value_unique o v (rw (sym p) at w)).1

  -- an entry ends at one place, and begins as a value does
  pub entry_ends : (kind : Kind) (t r s : List ℕ) → IsEntry o kind t r → IsEntry o kind t s → r ≡ s
  entry_ends an_array t r s (v, h) (w, k) = (value_unique o h k).1
  entry_ends an_object t r s (n, v, h) (m, w, k) = property_ends h k

  property_begins : {n t r : List ℕ} {v : Plain} → IsProperty o t n v r → IsTrue (starts begins_item (next t))
  property_begins (named n g h v) = name_begins o n

  pub entry_begins : (kind : Kind) (t r : List ℕ) → IsEntry o kind t r → IsTrue (starts begins_item (next t))
  entry_begins an_array t r (v, h) = value_begins o h
  entry_begins an_object t r (n, v, h) = property_begins h

  pub separates_once : {t u r s : List ℕ} → t ≡ u → Separates o t r → Separates o u s → IsTrue (starts begins_item (next r)) → IsTrue (starts begins_item (next s)) → r ≡ s
  separates_once {r = r} {s = s} e (comma g h) (comma k l) a b = gap_after (tails (gap_after e g k refl refl)) h l (not_gap r a) (not_gap s b)
  separates_once {s = s} e (comma g h) (no_comma x k) a b = absurd (no_item_at refl (gap_after e g k refl (not_gap s b)) b)
  separates_once {r = r} e (no_comma x k) (comma g h) a b = absurd (no_item_at refl (sym (gap_after e k g (not_gap r a) refl)) a)
  separates_once {r = r} {s = s} e (no_comma x g) (no_comma y k) a b = gap_after e g k (not_gap r a) (not_gap s b)

  pub at_begins : (kind : Kind) {i : ℕ} {t u r : List ℕ} → EntryAt o kind i t u r → IsTrue (starts begins_item (next t))
  at_begins kind {t = t} {r = r} (this_entry h) = entry_begins kind t r h
  at_begins kind {t = t} (later_entry {x = x} h s k) = entry_begins kind t x h

  at_once : (kind : Kind) {i : ℕ} {t u r w s : List ℕ} → EntryAt o kind i t u r → EntryAt o kind i t w s → u ≡ w
  at_once kind (this_entry h) (this_entry k) = refl
  at_once kind {t = t} {w = w} {s = s} (later_entry {i = i} {x = x} h a k) (later_entry {x = y} l b m) =
      let p = separates_once (entry_ends kind t x y h l) a b (at_begins kind k) (at_begins kind m) in
      at_once kind k (subst (λ y. EntryAt o kind i y w s) (sym p) m)

  ends_once : (kind : Kind) {i : ℕ} {t u r w s : List ℕ} → EntryAt o kind i t u r → EntryAt o kind i t w s → r ≡ s
  ends_once kind {t = t} {r = r} {s = s} (this_entry h) (this_entry k) = entry_ends kind t r s h k
  ends_once kind {t = t} {w = w} {s = s} (later_entry {i = i} {x = x} h a k) (later_entry {x = y} l b m) =
      let p = separates_once (entry_ends kind t x y h l) a b (at_begins kind k) (at_begins kind m) in
      ends_once kind k (subst (λ y. EntryAt o kind i y w s) (sym p) m)

  pub has_ends : (kind : Kind) {i : ℕ} {t u r w s : List ℕ} → HasEntry o kind i t u r → HasEntry o kind i t w s → r ≡ s
  has_ends kind {i} {w = w} {s = s} (x, y, e, g, h) (a, b, f, k, l) =
      let p = gap_after (tails (sym e ∙ f)) g k (not_gap y (at_begins kind h)) (not_gap b (at_begins kind l)) in
      ends_once kind h (subst (λ z. EntryAt o kind i z w s) (sym p) l)

  pub has_once : (kind : Kind) {i : ℕ} {t u r w s : List ℕ} → HasEntry o kind i t u r → HasEntry o kind i t w s → u ≡ w
  has_once kind {i} {w = w} {s = s} (x, y, e, g, h) (a, b, f, k, l) =
      let p = gap_after (tails (sym e ∙ f)) g k (not_gap y (at_begins kind h)) (not_gap b (at_begins kind l)) in
      at_once kind h (subst (λ z. EntryAt o kind i z w s) (sym p) l)

  pub leads_once : (kind : Kind) (t a u w : List ℕ) → t ≡ a → LeadsTo o kind t u → LeadsTo o kind a w → IsTrue (starts begins_item (next u)) → IsTrue (starts begins_item (next w)) → u ≡ w
  leads_once an_array t c u w e f g a b = f ∙ e ∙ sym g
  leads_once an_object t c u w e (n, x, y, h, g, k) (m, x2, y2, h2, g2, k2) a b =
      gap_after (tails (gap_after (name_ends h (subst (λ z. IsName o z m x2) (sym e) h2)) g g2 refl refl)) k k2 (not_gap u a) (not_gap w b)

  bracket_begins : (kind : Kind) {t x : List ℕ} → t ≡ opening kind ∷ x → IsTrue (starts begins_item (next t))
  bracket_begins an_array e = subst (λ y. IsTrue (starts begins_item (next y))) (sym e) refl
  bracket_begins an_object e = subst (λ y. IsTrue (starts begins_item (next y))) (sym e) refl

  pub value_at_begins : {path t u r : List ℕ} → ValueAt o path t u r → IsTrue (starts begins_item (next t))
  value_at_begins (itself v) = value_begins o v
  value_at_begins (inside kind h l k) = bracket_begins kind h.2

  value_at_once : {path t u r w s : List ℕ} → ValueAt o path t u r → ValueAt o path t w s → u ≡ w
  value_at_once (itself v) (itself w) = refl
  value_at_once {w = w} {s = s} (inside an_array {path = path} {x = x} {z = z} h l k) (inside an_array {x = x2} {z = z2} h2 l2 k2) =
      let p = leads_once an_array x x2 z z2 (has_once an_array h h2) l l2 (value_at_begins k) (value_at_begins k2) in
      value_at_once k (subst (λ y. ValueAt o path y w s) (sym p) k2)
  value_at_once {w = w} {s = s} (inside an_object {path = path} {x = x} {z = z} h l k) (inside an_object {x = x2} {z = z2} h2 l2 k2) =
      let p = leads_once an_object x x2 z z2 (has_once an_object h h2) l l2 (value_at_begins k) (value_at_begins k2) in
      value_at_once k (subst (λ y. ValueAt o path y w s) (sym p) k2)
  value_at_once (inside an_array h l k) (inside an_object h2 l2 k2) = absurd (apart refl (sym h.2 ∙ h2.2))
  value_at_once (inside an_object h l k) (inside an_array h2 l2 k2) = absurd (apart refl (sym h.2 ∙ h2.2))

  pub value_once : {path text u r w s : List ℕ} → Value path o text u r → Value path o text w s → u ≡ w
  value_once {path} {w = w} {s = s} (t, g, v) (a, h, k) =
      let p = gap_unique g h (not_gap t (value_at_begins v)) (not_gap a (value_at_begins k)) in
      value_at_once v (subst (λ z. ValueAt o path z w s) (sym p) k)
