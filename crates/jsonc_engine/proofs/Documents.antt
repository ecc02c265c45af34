-- A document with a value, or without one.
use Rattle.std.proofs.Common.{ℕ, ◌≡◌, ◌≢◌, refl, subst, List, [], ◌∷◌, Option, None, Some, Result, Ok, Err, IfOk, IfErr, chars, String}
use Rattle.jsonc_text.specs.Gaps.{Gap}
use Rattle.jsonc_text.specs.Grammar.{IsDocument}
use Rattle.jsonc_text.specs.Options.{Options, all_on}
use Rattle.jsonc_text.specs.Plain.{Plain}
use Rattle.jsonc_text.specs.Text.{next}
use Rattle.jsonc_engine.specs.declared.json.JsonError.{JsonError}
use Rattle.jsonc_engine.specs.declared.json.JsonError.TheVariants.{NoValue, NonFinite, OutOfMemory, Text}
use Rattle.jsonc_engine.specs.Causes.{HasValue, IsJsonCause, IsJsonOf, Stops}
use Rattle.jsonc_engine.specs.Texts.{text_of}
use Rattle.jsonc_engine.specs.Rewritten.{ComesNext, Rewritten}
use Rattle.jsonc_engine.proofs.Rewriting.{comes, comes_once, document_after}

nothing_next : (t : List ℕ) → None ≡ next t → t ≡ []
nothing_next [] e = refl
nothing_next (c ∷ t) e = cc

pub no_value : {t : List ℕ} → ComesNext t None → IsDocument all_on t None
no_value {t} c = subst (λ r. Gap all_on t r) (nothing_next c.behind c.is) c.gap

pub some_value : {t : List ℕ} (w : Option Plain) (n : Option ℕ) → IsDocument all_on t w → ComesNext t n → n ≢ None → HasValue t
some_value (Some v) n h c f = (v, h)
some_value None n h c f = absurd (f (comes_once c (comes [] h refl)))

pub json_of : (t w : List ℕ) → HasValue t → Rewritten [] t w → IsJsonOf t w
json_of t w (v, h) m = let a = document_after h m in record { value = v; document = h; rewritten = m; new = a.0; json = a.1; same = a.2 }

module _ {A : Type 0} (text : List ℕ) (v : HasValue (chars text)) (r : Result (String A) JsonError) where
  pub ok_written : IfOk r (λ s. Rewritten [] (chars text) (text_of s)) → IfOk r (λ s. IsJsonOf (chars text) (text_of s))
  ok_written = go r
    where
      go : (r : Result (String A) JsonError) → IfOk r (λ s. Rewritten [] (chars text) (text_of s)) → IfOk r (λ s. IsJsonOf (chars text) (text_of s))
      go (Ok s) h = json_of (chars text) (text_of s) v h
      go (Err e) h = tt

  pub err_caused : (o : Options) → IfErr r (Stops text) → IfErr r (IsJsonCause o text)
  err_caused o = go r
    where
      of : (e : JsonError) → Stops text e → IsJsonCause o text e
      of (NonFinite place) h = (v, h)
      of OutOfMemory h = v
      of NoValue h = absurd h
      of (Text e) h = absurd h

      go : (r : Result (String A) JsonError) → IfErr r (Stops text) → IfErr r (IsJsonCause o text)
      go (Ok s) h = tt
      go (Err e) h = of e h
