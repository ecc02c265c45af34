-- A gap that was passed before a scanner goes on.
use Rattle.std.proofs.Common.{ℕ, ◌+◌, ◌≡◌, ◌∙◌, sym, ap, subst, refl, arith, Bool, true, false, List, [], ◌∷◌, ◌++◌, Option, None, Some, is_some, IfSome, IsTrue, IsUtf8, inl, inr}
use Rattle.std.proofs.lemmas.List.{append_assoc}
use Rattle.std.proofs.lemmas.List.Elements.{All-nil}
use Rattle.std.proofs.lemmas.Str.{IsUtf8-from_is_utf8}
use Rattle.jsonc_text.specs.Gaps.{Gap, is_blank, none, blank, comment, line, block, IsComment}
use Rattle.jsonc_text.specs.Lexemes.{Scanned, IsScanned, line_comment, block_comment}
use Rattle.jsonc_text.specs.Options.{Options}
use Rattle.jsonc_text.specs.Places as places
use Rattle.jsonc_text.specs.Places.{Placed, placed_at, AreTokens, is_comment}
use Rattle.jsonc_text.specs.Text.{rest, byte_length, Many, stop, step}
use Rattle.jsonc_text.proofs.BlockComments.{block_inside}
use Rattle.jsonc_text.proofs.Cuts.{byte_length-append, many_split, place_after, same_place, spans}
use Rattle.jsonc_walk.specs.declared.comments.GapComments.{GapComments}
use Rattle.jsonc_walk.specs.declared.context.Context.{Context}
use Rattle.jsonc_scan.specs.declared.scanner.Scanner.{Scanner}
use Rattle.jsonc_scan.specs.Scanner.{start_of, end_of, left, ComesNext, PassesBlanks}
use Rattle.jsonc_walk.specs.Located.{Between, One}
use Rattle.jsonc_walk.specs.Collected.{IsSilent, Collects}
use Rattle.jsonc_walk.specs.Comments.{HasPassed}
use Rattle.jsonc_walk.specs.Context.{text_in, options_in, token_start, token_end, tokens_asked, comments_asked, Finds, IsNoComment, Keeps}
use Rattle.jsonc_walk.specs.Handed.{Source, source_of, Follows, ReachesBehind}
use Rattle.jsonc_walk.specs.Lent.{AreLentIn}
use Rattle.jsonc_walk.specs.Refusals.{AtToken}
use Rattle.jsonc_walk.proofs.lemmas.Refusals.{found_token, gap_past, token_no_gap}

-- a comment as a scanner answers it
record ScannedComment (o : Options) (t r : List ℕ) : Type 0 where
  what : Scanned
  text : List ℕ
  scanned : IsScanned o what t r
  split : t ≡ text ++ r

scanned_comment : (o : Options) {t r : List ℕ} → IsComment t r → ScannedComment o t r
scanned_comment o (inl (line m n)) = let s = many_split _ m in
    let split = ap (λ x. 0x2F ∷ 0x2F ∷ x) s.1 in
    record { what = line_comment s.0; text = 0x2F ∷ 0x2F ∷ s.0; scanned = (line m n, split); split = split }
scanned_comment o {r = r} (inr (block g)) = let s = block_inside (block g) in
    record { what = block_comment s.0; text = (0x2F ∷ 0x2A ∷ s.0) ++ 0x2A ∷ 0x2F ∷ []; scanned = (block g, s.1); split = s.1 ∙ sym (append_assoc (0x2F ∷ 0x2A ∷ s.0) (0x2A ∷ 0x2F ∷ []) r) }

-- the comments of a gap that stands at a place
pub record GapTokens (o : Options) (place : ℕ) (t r : List ℕ) : Type 0 where
  pub comments : List Placed
  pub text : List ℕ
  pub split : t ≡ text ++ r
  pub stand : (ts : List Placed) → AreTokens o (place + byte_length text) r ts → AreTokens o place t (comments ++ ts)
  pub silent : IsSilent o comments

both : (b : Bool) → IsTrue b → b ≡ false → ⊥
both true h e = cc
both false h e = cc

pub gap_tokens : (o : Options) (place : ℕ) {t r : List ℕ} → Gap o t r → GapTokens o place t r
gap_tokens o place {r = r} none = record {
  comments = [];
  text = [];
  split = refl;
  stand = λ ts h. let P : ℕ → Type 0 = λ i. AreTokens o i r ts in let e : place + byte_length [] ≡ place = omega arith in subst P e h;
  silent = λ off. All-nil (λ p. is_comment p.what ≡ false);
}
gap_tokens o place {r = r} (blank {c = c} h g) =
    let more = gap_tokens o (place + byte_length (c ∷ [])) g in record {
      comments = more.comments;
      text = c ∷ more.text;
      split = ap (λ x. c ∷ x) more.split;
      stand = λ ts all.
          let P : ℕ → Type 0 = λ i. AreTokens o i r ts in
          let e : place + byte_length (c ∷ more.text) ≡ place + byte_length (c ∷ []) + byte_length more.text = omega (arith, byte_length-append (c ∷ []) more.text) in
          places.blank h (more.stand ts (subst P e all));
      silent = more.silent;
    }
gap_tokens o place {r = r} (comment a k g) =
    let one = scanned_comment o k in
    let more = gap_tokens o (place + byte_length one.text) g in record {
      comments = placed_at one.what place one.text ∷ more.comments;
      text = one.text ++ more.text;
      split = one.split ∙ ap (λ x. one.text ++ x) more.split ∙ sym (append_assoc one.text more.text r);
      stand = λ ts all.
          let P : ℕ → Type 0 = λ i. AreTokens o i r ts in
          let e : place + byte_length (one.text ++ more.text) ≡ place + byte_length one.text + byte_length more.text = omega (arith, byte_length-append one.text more.text) in
          places.one one.what one.text one.scanned one.split (more.stand ts (subst P e all));
      silent = λ off. absurd (both o.comments a off);
    }

-- what is left of a gap behind a part of it
pub gap_rest : (o : Options) (bytes : List ℕ) (i p j : ℕ) → IsUtf8 bytes → Between bytes (Gap o) i p → Between bytes (Gap o) i j → AtToken o (rest bytes j) → Between bytes (Gap o) p j
gap_rest o bytes i p j u g h there =
    let left = gap_past g.stands h.stands (token_no_gap o (rest bytes j) there) in
    let part = gap_tokens o p left in
    record { spans = spans bytes part.text p j u g.spans.to h.spans.to part.split; stands = left }

-- no blank is passed where none stands
nothing_passed : {c : ℕ} {t u r : List ℕ} → t ≡ c ∷ u → is_blank c ≡ false → Many is_blank t r → t ≡ r
nothing_passed e bare stop = refl
nothing_passed {c} e bare (step {c = d} h m) = let same : d ≡ c = cc in let wrong : true ≡ false = sym h ∙ ap is_blank same ∙ bare in cc

module _ {A : Type 0} (old new : Context A) where
  -- where nothing is collected, a gap is passed
  pub gap_collects : IsUtf8 (text_in old) → Between (text_in old) (Gap (options_in old)) (token_end old) (token_end new) → tokens_asked old ≡ false → new.tokens ≡ old.tokens → comments_asked new ≡ false → Collects old new
  gap_collects u g unasked tokens apart =
      let o = options_in old in
      let b = text_in old in
      let part = gap_tokens o (token_end old) g.stands in record {
        passed = part.comments;
        stand = λ ts h.
            let P : ℕ → Type 0 = λ i. AreTokens o i (rest b (token_end new)) ts in
            part.stand ts (subst P (place_after b part.text (token_end old) (token_end new) u g.spans.from g.spans.to part.split) h);
        more = λ asked. absurd (both (tokens_asked old) asked unasked);
        lent = λ h. subst (λ ts. AreLentIn b ts) (sym tokens) h;
        noted = λ ts h. no_comments new.comments apart (ts ++ part.comments);
        silent = part.silent;
      }
    where
      no_comments : (found : Option (GapComments A)) → is_some found ≡ false → (ts : List Placed) → IfSome found (HasPassed ts)
      no_comments None e ts = tt
      no_comments (Some c) e ts = cc

  -- a receiver that was told of the gap has come to the token behind it
  pub reaches_token : (reached : ℕ → Type 0) (f : Option Scanned) → Keeps old new → ReachesBehind (source_of old) reached (token_end old) → Finds (Gap (options_in old)) old new f → IsNoComment f → Follows (source_of old) reached (token_start new)
  reaches_token reached f kept (p, g, all) found no_comment =
      let o = options_in old in
      let b = text_in old in
      let there = found_token o b new.scanner f kept.text kept.options found.1 no_comment in
      record {
        reached = all (token_start new) (gap_rest o b (token_end old) p (token_start new) (IsUtf8-from_is_utf8 b old.utf8) g found.0 there);
        boundary = found.0.spans.to;
      }

-- a receiver that was told of the gap at an equal place of an equal source
pub told_gap : {s t : Source} {i j p : ℕ} {reached : ℕ → Type 0} → s ≡ t → i ≡ j → Between s.bytes (Gap s.options) i p → ((k : ℕ) → Between s.bytes (Gap s.options) p k → reached k) → ReachesBehind t reached j
told_gap {s} {t} {i} {j} {p} {reached} e f gap all = subst (λ x. ReachesBehind x reached j) e (subst (ReachesBehind s reached) f (p, gap, all))

pub gap_told : {s t : Source} {i j p : ℕ} → s ≡ t → i ≡ j → Between s.bytes (Gap s.options) i p → Between t.bytes (Gap t.options) j p
gap_told {s} {t} {i} {j} {p} e f gap = subst (λ x. Between x.bytes (Gap x.options) j p) e (subst (λ k. Between s.bytes (Gap s.options) k p) f gap)

module _ {A : Type 0} where
  -- a mark that comes next
  pub next_mark : (old : Context A) (s : Scanner A) (c : ℕ) → is_blank c ≡ false → ComesNext old.scanner c → PassesBlanks old.scanner s → Between (text_in old) (One c) (start_of s) (end_of s) → Between (text_in old) (One c) (token_end old) (end_of s)
  next_mark old s c bare comes blanks here =
      let many = subst (λ b. Many is_blank (left old.scanner) (rest b (start_of s))) blanks.text blanks.blanks in
      let same = same_place (text_in old) (token_end old) (start_of s) (IsUtf8-from_is_utf8 (text_in old) old.utf8) old.scanner.at_place here.spans.from (nothing_passed comes.0 bare many) in
      subst (λ i. Between (text_in old) (One c) i (end_of s)) (sym same) here
