-- The ranges of collected tokens and comments lie in their text.
use Rattle.std.proofs.Common.{ℕ, ◌+◌, ◌≡◌, ◌≢◌, ◌∙◌, ◌||◌, not, arith, sym, ap, subst, refl, Bool, true, false, cond, ◌==◌, List, [], ◌∷◌, ◌++◌, map, Option, None, Some, option_map, IfSome, Vec, IsUtf8, IsCharBoundary, chars, nat_eq}
use Rattle.std.specs.List.{All}
use Rattle.std.specs.HashMap.{get}
use Rattle.std.specs.declared.rc.Rc.{Rc}
use Rattle.std.proofs.lemmas.Bool.{eq-eqb}
use Rattle.std.proofs.lemmas.List.Elements.{All-nil, All-cons, All-head, All-tail, All-append, All-filter, All-weaker}
use Rattle.std.proofs.lemmas.Str.{IsCharBoundary-start}
use Rattle.jsonc_text.specs.declared.tokens.TokenAndRange.{TokenAndRange}
use Rattle.jsonc_text.specs.Options.{Options}
use Rattle.jsonc_text.specs.Places.{Placed, AreTokens, no_more, blank, one, is_comment, CommentGap, Gaps, gaps_of, noted}
use Rattle.jsonc_text.specs.Text.{rest, byte_length, Spans}
use Rattle.jsonc_text.proofs.Basics.{test_eq}
use Rattle.jsonc_text.proofs.Cuts.{rest_past}
use Rattle.jsonc_walk.specs.declared.comment.Comment.{Comment}
use Rattle.jsonc_walk.specs.declared.comment.Comment.TheVariants.{Line, Block}
use Rattle.jsonc_walk.specs.Comment.{comment_range}
use Rattle.jsonc_walk.specs.declared.collect.CommentCollectionStrategy.{CommentCollectionStrategy}
use Rattle.jsonc_walk.specs.Collected.{takes_comments, placed_of, AreCollected}
use Rattle.jsonc_walk.specs.Comments.{MapOf, comment_at, comments_in, comments_at, IsNoEnd, AreUnderEnds}
use Rattle.jsonc_walk.specs.Ranges.{LiesIn, TokensLieIn, CommentsLieIn}

-- what holds of all that a list is seen as
all_seen : {X Y : Type 0} (P : Y → Type 0) (f : X → Y) (xs : List X) → All P (map f xs) → All (λ x. P (f x)) xs
all_seen P f [] h = All-nil (λ x. P (f x))
all_seen P f (x ∷ xs) h = All-cons (λ x. P (f x)) x xs (All-head P (f x) (map f xs) h) (all_seen P f xs (All-tail P (f x) (map f xs) h))

not_same : (i j : ℕ) → (i == j) ≡ false → i ≢ j
not_same i j e same = absurd (true_false (sym (eq-eqb i j same)) e)
  where
    true_false : {b : Bool} → true ≡ b → b ≡ false → ⊥
    true_false f g = cc

module _ (P : Placed → Type 0) where
  -- all comments of these gaps
  abbrev InGaps : List CommentGap → Type 0
  InGaps gs = All (λ g. All P g.comments) gs

  noted_hold : (start end : ℕ) (held : List Placed) (gs : List CommentGap) → All P held → InGaps gs → InGaps (noted start end held gs)
  noted_hold start end [] gs h k = k
  noted_hold start end (c ∷ cs) gs h k = All-cons (λ g. All P g.comments) (record { start = start; end = end; comments = c ∷ cs }) gs h k

  gaps_hold : (len start : ℕ) (held ts : List Placed) → All P held → All P ts → InGaps (gaps_of len start held ts)
  gaps_hold len start held [] h k = noted_hold start len held [] h (All-nil (λ g. All P g.comments))
  gaps_hold len start held (x ∷ xs) h k =
      let later = All-tail P x xs k in
      each (is_comment x.what) _ _ (gaps_hold len start (held ++ x ∷ []) xs (All-append P held (x ∷ []) h (All-cons P x [] (All-head P x xs k) (All-nil P))) later)
      (noted_hold start x.start held (gaps_of len x.end [] xs) h (gaps_hold len x.end [] xs (All-nil P) later))
    where
      each : (b : Bool) (gs hs : List CommentGap) → InGaps gs → InGaps hs → InGaps (cond b gs hs)
      each true gs hs g h = g
      each false gs hs g h = h

  module _ {S A : Type 0} (m : MapOf S A) (place : ℕ) where
    found_hold : (cs : List Placed) → comments_at m place ≡ Some cs → All P cs → IfSome (comments_at m place) (All P)
    found_hold cs e h = subst (λ f. IfSome f (All P)) (sym e) h

    -- what stands under a place is a gap's, or nothing
    under_place : (gs : List CommentGap) → InGaps gs → All (λ g. comments_at m g.start ≡ Some g.comments) gs → All (λ g. comments_at m g.end ≡ Some g.comments) gs
        → (All (IsNoEnd place) gs → comments_at m place ≡ None) → IfSome (comments_at m place) (All P)
    under_place [] h starts ends others = subst (λ f. IfSome f (All P)) (sym (others (All-nil (IsNoEnd place)))) tt
    under_place (g ∷ gs) h starts ends others =
        each (place == g.start) (place == g.end) refl refl
        (λ n. under_place gs (All-tail (λ g. All P g.comments) g gs h) (All-tail (λ g. comments_at m g.start ≡ Some g.comments) g gs starts) (All-tail (λ g. comments_at m g.end ≡ Some g.comments) g gs ends) (λ k. others (All-cons (IsNoEnd place) g gs n k)))
      where
        here : All P g.comments
        here = All-head (λ g. All P g.comments) g gs h

        each : (b c : Bool) → (place == g.start) ≡ b → (place == g.end) ≡ c → (IsNoEnd place g → IfSome (comments_at m place) (All P)) → IfSome (comments_at m place) (All P)
        each true c e f later = found_hold g.comments (ap (comments_at m) (test_eq place g.start e) ∙ All-head (λ g. comments_at m g.start ≡ Some g.comments) g gs starts) here
        each false true e f later = found_hold g.comments (ap (comments_at m) (test_eq place g.end f) ∙ All-head (λ g. comments_at m g.end ≡ Some g.comments) g gs ends) here
        each false false e f later = later (not_same place g.start e, not_same place g.end f)

module _ (bytes : List ℕ) (u : IsUtf8 bytes) where
  abbrev Lies : Placed → Type 0
  Lies p = Spans bytes p.start p.end

  placed_lie : {o : Options} {at : ℕ} {t : List ℕ} {ts : List Placed} → IsCharBoundary bytes at → rest bytes at ≡ t → AreTokens o at t ts → All Lies ts
  placed_lie b e no_more = All-nil Lies
  placed_lie {at = at} b e (blank {c = c} {t = t} x more) = let past = rest_past bytes (c ∷ []) t at u b e in placed_lie past.1 past.0 more
  placed_lie {at = at} b e (one w s {r = r} {ts = ts} x split more) =
      let past = rest_past bytes s r at u b (e ∙ split) in
      All-cons Lies (record { what = w; start = at; end = at + byte_length s }) ts (record { from = b; to = past.1; order = omega arith }) (placed_lie past.1 past.0 more)

  -- what is placed in the whole text
  all_lie : {o : Options} {ts : List Placed} → AreTokens o 0 (chars bytes) ts → All Lies ts
  all_lie h = placed_lie (IsCharBoundary-start bytes u) refl h

  pub tokens_lie : {A : Type 0} (o : Options) (k : CommentCollectionStrategy) (found : Option (Vec (TokenAndRange A) A)) → IfSome found (AreCollected o (chars bytes) k) → TokensLieIn bytes found
  tokens_lie o k None h = tt
  tokens_lie o k (Some tokens) (ts, stand, same) =
      all_seen Lies placed_of tokens.items (subst (All Lies) (sym same) (All-filter (λ p. takes_comments k || not (is_comment p.what)) Lies ts (all_lie stand)))

  gaps_lie : (o : Options) (gs : List CommentGap) → Gaps o (chars bytes) gs → InGaps Lies gs
  gaps_lie o gs (ts, stand, same) = subst (InGaps Lies) (sym same) (each o.comments)
    where
      each : (b : Bool) → InGaps Lies (cond b (gaps_of (byte_length (chars bytes)) 0 [] ts) [])
      each true = gaps_hold Lies (byte_length (chars bytes)) 0 [] ts (All-nil Lies) (all_lie stand)
      each false = All-nil (λ g. All Lies g.comments)

  comment_lies : (c : Comment) → Lies (comment_at c) → LiesIn bytes (comment_range c)
  comment_lies (Line c) h = h
  comment_lies (Block c) h = h

  shared_lie : {Z : Type 0} (f : Option (Rc (Vec Comment Z) Z)) → IfSome (option_map (λ shared. comments_in shared.value) f) (All Lies) → IfSome f (λ shared. All (λ c. LiesIn bytes (comment_range c)) shared.value.items)
  shared_lie None h = tt
  shared_lie (Some shared) h = All-weaker (λ c. Lies (comment_at c)) (λ c. LiesIn bytes (comment_range c)) comment_lies shared.value.items (all_seen Lies comment_at shared.value.items h)

  pub comments_lie : {S A : Type 0} (o : Options) (found : Option (MapOf S A)) → IfSome found (λ m. (gs : List CommentGap) × Gaps o (chars bytes) gs × AreUnderEnds gs m) → CommentsLieIn bytes found
  comments_lie o None h = tt
  comments_lie o (Some m) (gs, stand, under) = λ place.
      shared_lie (get nat_eq m place) (under_place Lies m place gs (gaps_lie o gs stand) under.starts under.ends (under.no_others place))
