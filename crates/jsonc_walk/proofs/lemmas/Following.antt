-- What is handed to a receiver begins at the place that it has come to.
use Rattle.std.proofs.Common.{ℕ, ◌+◌, ◌-◌, ◌≡◌, ◌∙◌, ◌<◌, ◌==◌, ◌||◌, sym, ap, subst, refl, arith, List, Option, Some, None, IsTrue}
use Rattle.std.proofs.lemmas.Str.{IsUtf8-from_is_utf8}
use Rattle.jsonc_text.specs.Lexemes.{Scanned}
use Rattle.jsonc_walk.specs.declared.container.Container.{Container}
use Rattle.jsonc_walk.specs.declared.container.Container.TheVariants.{Array, Object}
use Rattle.jsonc_walk.specs.declared.context.Context.{Context}
use Rattle.jsonc_walk.specs.Located.{Located, LocatedName, Between, One, LocatedMember}
use Rattle.jsonc_walk.specs.Containers.{closing}
use Rattle.jsonc_walk.specs.Context.{text_in, options_in, token_start, token_end, Keeps, IsBracket, LeadsToFirst, LeadsToNext}
use Rattle.jsonc_walk.specs.Handed.{Source, source_of, Follows, IsBehind, behind_mark, StaysHeld}
use Rattle.jsonc_walk.proofs.lemmas.Scans.{one_byte}

-- what stays held stays so further on
pub held_on : {S P E O : Type 0} {names : S → S → P → LocatedName → Type 0} {holds_elements : S → S → E → ℕ → List Located → Type 0} {holds_properties : S → S → O → ℕ → List LocatedMember → Type 0} {a b c : S}
    → StaysHeld names holds_elements holds_properties a b → StaysHeld names holds_elements holds_properties b c → StaysHeld names holds_elements holds_properties a c
held_on h k = record {
  named = λ s p n x. k.named s p n (h.named s p n x);
  elements = λ s a i xs x. k.elements s a i xs (h.elements s a i xs x);
  properties = λ s o i ms x. k.properties s o i ms (h.properties s o i ms x);
}

pub held_same : {S P E O : Type 0} {names : S → S → P → LocatedName → Type 0} {holds_elements : S → S → E → ℕ → List Located → Type 0} {holds_properties : S → S → O → ℕ → List LocatedMember → Type 0} (a : S) → StaysHeld names holds_elements holds_properties a a
held_same a = record { named = λ s p n x. x; elements = λ s a i xs x. x; properties = λ s o i ms x. x }

-- the same at an equal source and place
pub follows_in : {s t : Source} {reached : ℕ → Type 0} {i j : ℕ} → t ≡ s → j ≡ i → Follows s reached i → Follows t reached j
follows_in {s} {t} {reached} {i} {j} e f h = subst (λ x. Follows x reached j) (sym e) (subst (Follows s reached) (sym f) h)

pub behind_in : {s t : Source} {reached : ℕ → Type 0} {i : ℕ} → t ≡ s → IsBehind s reached i → IsBehind t reached i
behind_in {reached = reached} {i = i} e h = subst (λ x. IsBehind x reached i) (sym e) h

module _ {A : Type 0} where
  -- where a token was found, or else before the closing bracket
  abbrev pub ItemFollows : Source → (ℕ → Type 0) → Context A → Option Scanned → Type 0
  ItemFollows s reached c None = Follows s reached (token_end c - 1)
  ItemFollows s reached c (Some t) = Follows s reached (token_start c)

  -- punctuation has one byte
  mark_ends : (c : Context A) (bracket : ℕ) → bracket < 128 → IsBracket bracket c → token_start c + 1 ≡ token_end c
  mark_ends c bracket small h = one_byte (text_in c) bracket (token_start c) (token_end c) (IsUtf8-from_is_utf8 (text_in c) c.utf8) small h

  close_follows : (k : Container) (c : Context A) (s : Source) (reached : ℕ → Type 0) → IsBracket (closing k) c → Follows s reached (token_start c) → Follows s reached (token_end c - 1)
  close_follows Array c s reached at h = let one = mark_ends c 0x5D (omega arith) at in follows_in refl (omega (arith, one)) h
  close_follows Object c s reached at h = let one = mark_ends c 0x7D (omega arith) at in follows_in refl (omega (arith, one)) h

  -- the source of a receiver, at a later state of the context
  pub source_on : (old new : Context A) (s : Source) → Keeps old new → s ≡ source_of old → s ≡ source_of new
  source_on old new s kept e = subst (λ b. s ≡ record { bytes = b; options = options_in new }) (sym kept.text) (subst (λ o. s ≡ record { bytes = text_in old; options = o }) (sym kept.options) e)

  -- the place behind an opening bracket
  pub opened_reached : (old : Context A) (bracket : ℕ) (reached : ℕ → Type 0) (i : ℕ) → bracket < 128 → IsBracket bracket old → i ≡ token_start old → reached (i + 1) → reached (token_end old)
  opened_reached old bracket reached i small opens place came = subst reached (ap (λ j. j + 1) place ∙ mark_ends old bracket small opens) came

  -- what comes first in a container, and behind an item
  pub first_follows : (k : Container) (old new : Context A) (s : Source) (reached : ℕ → Type 0) (found : Option Scanned) → LeadsToFirst k old new found → Follows s reached (token_start new) → ItemFollows s reached new found
  first_follows k old new s reached None h f = close_follows k new s reached h.1 f
  first_follows k old new s reached (Some t) h f = f

  pub next_follows : (k : Container) (old new : Context A) (s : Source) (reached : ℕ → Type 0) (found : Option Scanned) → LeadsToNext k old new found → Follows s reached (token_start new) → ItemFollows s reached new found
  next_follows k old new s reached None h f = close_follows k new s reached h.1 f
  next_follows k old new s reached (Some t) h f = f

  pub source_later : (old new : Context A) → Keeps old new → source_of old ≡ source_of new
  source_later old new kept = source_on old new (source_of old) kept refl

  -- behind a comma or colon that stands where a receiver has come to
  pub mark_behind : (old new : Context A) (reached : ℕ → Type 0) (c i : ℕ) → IsTrue (c == 0x2C || c == 0x3A) → Keeps old new → reached i → Between (text_in old) (One c) i (token_end new) → IsBehind (source_of new) reached (token_end new)
  mark_behind old new reached c i mark kept came here = behind_mark mark came (subst (λ b. Between b (One c) i (token_end new)) (sym kept.text) here)
