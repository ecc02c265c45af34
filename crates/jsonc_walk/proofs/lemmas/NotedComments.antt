-- What a parser notes of comments on its way.
use Rattle.std.proofs.Common.{ℕ, ◌≡◌, ◌∙◌, sym, ap, refl, false, List, [], ◌∷◌, ◌++◌, append_assoc, map, Option, None}
use Rattle.std.proofs.lemmas.List.{append-nil}
use Rattle.jsonc_text.specs.Places.{Placed, CommentGap, gaps_of, noted, is_comment}
use Rattle.jsonc_walk.specs.declared.comments.GapComments.{GapComments}
use Rattle.jsonc_walk.specs.Comments.{comment_at, comments_at, put_one, put, ShowsGaps, held_in, HasPassed, PassesOne, PutsHeld}

put_append : (gs hs : List CommentGap) (place : ℕ) (before : Option (List Placed)) → put (gs ++ hs) place before ≡ put hs place (put gs place before)
put_append [] hs place before = refl
put_append (g ∷ gs) hs place before = put_append gs hs place (put_one g.start g.end g.comments place before)

noted_before : (start end : ℕ) (held : List Placed) (gs : List CommentGap) → noted start end held gs ≡ noted start end held [] ++ gs
noted_before start end [] gs = refl
noted_before start end (x ∷ xs) gs = refl

-- what follows a lexeme
go_lexeme : (len start : ℕ) (held : List Placed) (x : Placed) (us : List Placed) → is_comment x.what ≡ false → gaps_of len start held (x ∷ us) ≡ noted start x.start held [] ++ gaps_of len x.end [] us
go_lexeme len start held x us e = rw e (noted_before start x.start held (gaps_of len x.end [] us))

module _ {A : Type 0} where
  -- one more, where the map shows one gap more and what follows goes on as it must
  passes_on : (old new : GapComments A) (x : Placed) (more : List CommentGap) → ((place : ℕ) → comments_at new.places place ≡ put more place (comments_at old.places place))
      → ((len : ℕ) (us : List Placed) → gaps_of len old.start (held_in old) (x ∷ us) ≡ more ++ gaps_of len new.start (held_in new) us) → PassesOne old new x
  passes_on old new x more shown on ts h = record {
    gaps = h.gaps ++ more;
    shown = λ place. shown place ∙ ap (put more place) (h.shown place) ∙ sym (put_append h.gaps more place None);
    goes_on = λ len us.
        ap (gaps_of len 0 []) (append_assoc ts (x ∷ []) us) ∙ h.goes_on len (x ∷ us) ∙ ap (λ l. h.gaps ++ l) (on len us)
        ∙ sym (append_assoc h.gaps more (gaps_of len new.start (held_in new) us));
  }

  pub passes_lexeme : (old mid new : GapComments A) (x : Placed) → PutsHeld old mid x.start → new.places ≡ mid.places → new.held ≡ mid.held → new.start ≡ x.end → is_comment x.what ≡ false → PassesOne old new x
  passes_lexeme old mid new x puts same held start lexeme =
      let none : held_in new ≡ [] = ap (λ v. map comment_at v.items) held ∙ ap (map comment_at) puts.none_held in
      passes_on old new x (noted old.start x.start (held_in old) []) (λ place. ap (λ m. comments_at m place) same ∙ puts.put_there place)
      (λ len us. go_lexeme len old.start (held_in old) x us lexeme ∙ ap (λ l. noted old.start x.start (held_in old) [] ++ l) (ap (λ i. gaps_of len i [] us) (sym start) ∙ ap (λ h. gaps_of len new.start h us) (sym none)))

  -- the end of the text
  pub shows_all : (old mid : GapComments A) (end : ℕ) → PutsHeld old mid end → (ts : List Placed) → HasPassed ts old → ShowsGaps (gaps_of end 0 [] ts) mid.places
  shows_all old mid end puts ts h place =
      let last = noted old.start end (held_in old) [] in
      let whole : gaps_of end 0 [] ts ≡ h.gaps ++ last = ap (gaps_of end 0 []) (sym (append-nil ts)) ∙ h.goes_on end [] in
      puts.put_there place ∙ ap (put last place) (h.shown place) ∙ sym (put_append h.gaps last place None) ∙ ap (λ gs. put gs place None) (sym whole)
