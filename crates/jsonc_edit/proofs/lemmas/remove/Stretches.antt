-- What leaves with an element is a stretch of its row: whitespace and comments, the element, and what stands behind it.
use Rattle.std.proofs.Common.{◌≡◌, ◌⊎◌, inl, inr, ℕ, Bool, true, false, not, ◌&&◌, ◌||◌, List, [], ◌∷◌, ◌++◌, map, reverse, Option, Some, None, IsTrue, if◌then◌else◌, refl, sym, ap, subst, ◌∙◌, append-nil}
use Rattle.std.proofs.lemmas.List.{append_assoc, map-append, reverse-append}
use Rattle.std.specs.List.{find}
use Rattle.jsonc_tree.specs.Content.{Content}
use Rattle.jsonc_tree.specs.Tree.{Node, content_at}
use Rattle.jsonc_layout.specs.nodes.Kinds.{is_inline_trivia, is_inline_trivia_at, is_newline, is_newline_at, is_trivia, is_trivia_at, is_whitespace, is_whitespace_at, is_comma_at, is_comma}
use Rattle.jsonc_layout.specs.lines.Siblings.{is_no_trivia_at, if_comma}
use Rattle.jsonc_sound.specs.TriviaChanges.{AreTrivia}
use Rattle.jsonc_sound.specs.Leaving.{AreInlineTrivia, IsRestOfLine, without_end, with_end}
use Rattle.jsonc_sound.proofs.RowParts.{beside_trivia, newline_trivia}
use Rattle.jsonc_layout.specs.nodes.Comments.{first_not_inline_trivia}
use Rattle.jsonc_edit.specs.remove.Leaving.{begins_other, line_end, newline_there, outermost}
use Rattle.jsonc_edit.specs.SeamRemovals.{EndsLine}
use Rattle.jsonc_edit.proofs.lemmas.remove.Contents.{apart, no_commas, comma_first, comment_first, line_first, apart_last, beside_append}

beside_line : (c : Content) (ls : List Content) → IsTrue (is_inline_trivia c) → IsRestOfLine ls → IsRestOfLine (c ∷ ls)
beside_line c ls f (without_end line h) = without_end (c ∷ line) (f, h)
beside_line c ls f (with_end line end h n) = with_end (c ∷ line) end (f, h) n

module _ (ns : List Node) where
  abbrev pub contents : List ℕ → List Content
  contents xs = map (content_at ns) xs

  -- a row up to a node: away from it, and whitespace and comments directly before it, the farthest of which is the first
  pub record Near (row : List ℕ) (n first : ℕ) : Type 0 where
    pub away : List ℕ
    pub near : List ℕ
    pub tail : List ℕ
    pub split : row ≡ away ++ near
    pub beside : AreInlineTrivia (contents near)
    pub apart : IsTrue (apart (contents away))
    pub first_is : near ++ n ∷ [] ≡ first ∷ tail

  pub near_of : (n : ℕ) (back : List ℕ) → Near (reverse back) n (outermost ns n back)
  near_of n [] = record { away = []; near = []; tail = []; split = refl; beside = tt; apart = refl; first_is = refl }
  near_of n (m ∷ rest) = by (is_inline_trivia_at ns m) refl (near_of m rest)
    where
      turned : reverse (m ∷ rest) ≡ reverse rest ++ m ∷ []
      turned = reverse-append (m ∷ []) rest

      by : (b : Bool) → is_inline_trivia_at ns m ≡ b → Near (reverse rest) m (outermost ns m rest) → Near (reverse (m ∷ rest)) n (if b then outermost ns m rest else n)
      by true e r =
          record {
            away = r.away;
            near = r.near ++ m ∷ [];
            tail = r.tail ++ n ∷ [];
            split = turned ∙ ap (λ l. l ++ m ∷ []) r.split ∙ append_assoc r.away r.near (m ∷ []);
            beside = subst AreInlineTrivia (sym (map-append (content_at ns) r.near (m ∷ []))) (beside_append (contents r.near) (contents (m ∷ [])) r.beside (e, tt));
            apart = r.apart;
            first_is = ap (λ l. l ++ n ∷ []) r.first_is;
          }
      by false e r = record {
        away = reverse (m ∷ rest);
        near = [];
        tail = [];
        split = sym (append-nil (reverse (m ∷ rest)));
        beside = tt;
        apart = ap apart (ap contents turned ∙ map-append (content_at ns) (reverse rest) (m ∷ [])) ∙ apart_last (contents (reverse rest)) (content_at ns m) ∙ ap not e;
        first_is = refl;
      }

  -- a row behind a node: the rest of its line, or less of it, and what stands behind that
  pub record Line (row : List ℕ) (n last : ℕ) : Type 0 where
    pub line : List ℕ
    pub rest : List ℕ
    pub init : List ℕ
    pub split : row ≡ line ++ rest
    pub ended : IsRestOfLine (contents line)
    pub last_is : n ∷ line ≡ init ++ last ∷ []

  abbrev pub no_line : (row : List ℕ) (n : ℕ) → Line row n n
  no_line row n = record { line = []; rest = row; init = []; split = refl; ended = without_end [] tt; last_is = refl }

  -- all of it, up to where the line ends or something else comes
  pub record WholeLine (row : List ℕ) (n last : ℕ) : Type 0 where
    pub stretch : Line row n last
    pub none_left : EndsLine (contents stretch.line) ⊎ (comment_first (contents stretch.rest) ≡ false)

  -- no comment comes where what is first is none, and no whitespace
  other_first : (c : Content) (rest : List Content) → is_inline_trivia c ≡ false → comment_first (c ∷ rest) ≡ false
  other_first (Content.whitespace s) rest h = cc
  other_first (Content.comment s) rest h = cc
  other_first c rest h = refl

  no_trivia_beside : (c : Content) → is_trivia c ≡ false → is_inline_trivia c ≡ false
  no_trivia_beside (Content.whitespace s) h = cc
  no_trivia_beside (Content.comment s) h = cc
  no_trivia_beside c h = refl

  past_space : (m : ℕ) (rest : List ℕ) → not (is_whitespace_at ns m && begins_other ns rest) ≡ false → comment_first (contents (m ∷ rest)) ≡ false
  past_space m [] h = by (content_at ns m) h
    where
      by : (c : Content) → not (is_whitespace c && false) ≡ false → comment_first (c ∷ []) ≡ false
      by (Content.whitespace s) k = refl
      by (Content.comment s) k = cc
      by c k = refl
  past_space m (p ∷ rest) h = by (content_at ns m) (is_trivia_at ns p) refl h
    where
      by : (c : Content) (b : Bool) → is_trivia_at ns p ≡ b → not (is_whitespace c && not b) ≡ false → comment_first (c ∷ contents (p ∷ rest)) ≡ false
      by (Content.whitespace s) false e k = other_first (content_at ns p) (contents rest) (no_trivia_beside (content_at ns p) e)
      by (Content.whitespace s) true e k = cc
      by (Content.comment s) b e k = cc
      by c b e k = refl

  pub line_of : (n : ℕ) (row : List ℕ) → WholeLine row n (line_end ns n row)
  line_of n [] = record { stretch = no_line [] n; none_left = inr refl }
  line_of n (m ∷ rest) = by (is_newline_at ns m) refl (is_inline_trivia_at ns m) refl (not (is_whitespace_at ns m && begins_other ns rest)) refl (line_of m rest)
    where
      longer : (line : List ℕ) (more : List ℕ) → EndsLine (contents line) ⊎ (comment_first (contents more) ≡ false) → EndsLine (contents (m ∷ line)) ⊎ (comment_first (contents more) ≡ false)
      longer line more (inl (front, end, is, h)) = inl (content_at ns m ∷ front, end, ap (λ (l : List Content). content_at ns m ∷ l) is, h)
      longer line more (inr e) = inr e

      by : (a : Bool) → is_newline_at ns m ≡ a → (b : Bool) → is_inline_trivia_at ns m ≡ b → (d : Bool) → not (is_whitespace_at ns m && begins_other ns rest) ≡ d → WholeLine rest m (line_end ns m rest)
          → WholeLine (m ∷ rest) n (if a then m else (if b && d then line_end ns m rest else n))
      by true e b f d g r =
          record {
            stretch = record { line = m ∷ []; rest = rest; init = n ∷ []; split = refl; ended = with_end [] (content_at ns m) tt e; last_is = refl };
            none_left = inl ([], content_at ns m, refl, e);
          }
      by false e true f true g r =
          let l = r.stretch in
          record {
            stretch = record {
              line = m ∷ l.line;
              rest = l.rest;
              init = n ∷ l.init;
              split = ap (λ (x : List ℕ). m ∷ x) l.split;
              ended = beside_line (content_at ns m) (contents l.line) f l.ended;
              last_is = ap (λ (x : List ℕ). n ∷ x) l.last_is;
            };
            none_left = longer l.line l.rest r.none_left;
          }
      by false e true f false g r = record { stretch = no_line (m ∷ rest) n; none_left = inr (past_space m rest g) }
      by false e false f d g r = record { stretch = no_line (m ∷ rest) n; none_left = inr (other_first (content_at ns m) (contents rest) f) }

  -- a newline is what comes past whitespace and comments
  pub newline_comes : (row : List ℕ) → newline_there ns (first_not_inline_trivia ns row) ≡ line_first (contents row)
  newline_comes [] = refl
  newline_comes (m ∷ rest) = by (is_inline_trivia_at ns m) refl (newline_comes rest)
    where
      never : (c : Content) → is_inline_trivia c ≡ true → (b : Bool) → b ≡ (is_newline c || (is_inline_trivia c && b))
      never (Content.whitespace s) e b = refl
      never (Content.comment s) e b = refl
      never c e b = cc

      only : (a : Bool) → a ≡ (a || false)
      only true = refl
      only false = refl

      by : (b : Bool) → is_inline_trivia_at ns m ≡ b → newline_there ns (first_not_inline_trivia ns rest) ≡ line_first (contents rest)
          → newline_there ns (if not b then Some m else first_not_inline_trivia ns rest) ≡ (is_newline_at ns m || (is_inline_trivia_at ns m && line_first (contents rest)))
      by true e r = r ∙ never (content_at ns m) e (line_first (contents rest))
      by false e r = only (is_newline_at ns m) ∙ ap (λ b. is_newline_at ns m || (b && line_first (contents rest))) (sym e)

  -- the same where whitespace and comments stand before the newline that ends it
  pub record Ended (row : List ℕ) (last : ℕ) : Type 0 where
    pub line : List ℕ
    pub rest : List ℕ
    pub split : row ≡ (line ++ last ∷ []) ++ rest
    pub beside : AreInlineTrivia (contents line)
    pub newline : IsTrue (is_newline_at ns last)

  abbrev pub line_through : {row : List ℕ} {last : ℕ} (n : ℕ) → Ended row last → Line row n last
  line_through {last = last} n e = record {
    line = e.line ++ last ∷ [];
    rest = e.rest;
    init = n ∷ e.line;
    split = e.split;
    ended = subst IsRestOfLine (sym (map-append (content_at ns) e.line (last ∷ []))) (with_end (contents e.line) (content_at ns last) e.beside e.newline);
    last_is = refl;
  }

  newline_next : (rest : List ℕ) → IsTrue (newline_there ns (first_not_inline_trivia ns rest)) → begins_other ns rest ≡ false
  newline_next [] h = refl
  newline_next (p ∷ rest) h = by (is_inline_trivia_at ns p) refl h
    where
      by : (b : Bool) → is_inline_trivia_at ns p ≡ b → IsTrue (newline_there ns (if not b then Some p else first_not_inline_trivia ns rest)) → not (is_trivia_at ns p) ≡ false
      by true e k = ap not (beside_trivia (content_at ns p ∷ []) (e, tt)).0
      by false e k = ap not (newline_trivia (content_at ns p) k)

  pub ended_of : (n : ℕ) (row : List ℕ) → IsTrue (newline_there ns (first_not_inline_trivia ns row)) → Ended row (line_end ns n row)
  ended_of n [] h = absurd (let wrong : false ≡ true = h in cc)
  ended_of n (m ∷ rest) h = by (is_newline_at ns m) refl (is_inline_trivia_at ns m) refl h (newline_next rest) (ended_of m rest)
    where
      through : is_inline_trivia_at ns m ≡ true → Ended rest (line_end ns m rest) → Ended (m ∷ rest) (line_end ns m rest)
      through f r = record { line = m ∷ r.line; rest = r.rest; split = ap (λ (l : List ℕ). m ∷ l) r.split; beside = (f, r.beside); newline = r.newline }

      trailing : (is_whitespace_at ns m && begins_other ns rest) ≡ false → is_inline_trivia_at ns m ≡ true → Ended rest (line_end ns m rest) → Ended (m ∷ rest) (if true && not (is_whitespace_at ns m && begins_other ns rest) then line_end ns m rest else n)
      trailing g f r = subst (λ d. Ended (m ∷ rest) (if not d then line_end ns m rest else n)) (sym g) (through f r)

      by : (a : Bool) → is_newline_at ns m ≡ a → (b : Bool) → is_inline_trivia_at ns m ≡ b → IsTrue (newline_there ns (if not b then Some m else first_not_inline_trivia ns rest))
          → (IsTrue (newline_there ns (first_not_inline_trivia ns rest)) → begins_other ns rest ≡ false) → (IsTrue (newline_there ns (first_not_inline_trivia ns rest)) → Ended rest (line_end ns m rest))
          → Ended (m ∷ rest) (if a then m else (if b && not (is_whitespace_at ns m && begins_other ns rest) then line_end ns m rest else n))
      by true e b f k g r = record { line = []; rest = rest; split = refl; beside = tt; newline = e }
      by false e true f k g r = trailing (both (is_whitespace_at ns m) (g k)) f (r k)
        where
          both : (w : Bool) {d : Bool} → d ≡ false → (w && d) ≡ false
          both true q = q
          both false q = refl
      by false e false f k g r = absurd (let wrong : true ≡ false = sym k ∙ e in cc)

  -- trivia before something else, with no newline first past whitespace and comments, are whitespace and comments
  pub beside_between : (between after : List ℕ) (k : ℕ) → AreTrivia (contents between) → newline_there ns (first_not_inline_trivia ns (between ++ k ∷ after)) ≡ false → AreInlineTrivia (contents between)
  beside_between [] after k t h = tt
  beside_between (m ∷ between) after k t h = by (is_inline_trivia_at ns m) refl h (beside_between between after k t.1)
    where
      newline_or : (c : Content) → IsTrue (is_trivia c) → is_inline_trivia c ≡ false → is_newline c ≡ true
      newline_or (Content.newline x) u e = refl
      newline_or (Content.whitespace s) u e = absurd (let wrong : true ≡ false = e in cc)
      newline_or (Content.comment s) u e = absurd (let wrong : true ≡ false = e in cc)
      newline_or c u e = cc

      by : (b : Bool) → is_inline_trivia_at ns m ≡ b → newline_there ns (if not b then Some m else first_not_inline_trivia ns (between ++ k ∷ after)) ≡ false
          → (newline_there ns (first_not_inline_trivia ns (between ++ k ∷ after)) ≡ false → AreInlineTrivia (contents between)) → AreInlineTrivia (contents (m ∷ between))
      by true e q r = (e, r q)
      by false e q r = absurd (let wrong : true ≡ false = sym (newline_or (content_at ns m) t.0 e) ∙ q in cc)

  -- past trivia a comma comes, or none
  pub data Past (row : List ℕ) : Option ℕ → Type 0 where
    comma_past : (between rest : List ℕ) {k : ℕ} → row ≡ between ++ k ∷ rest → AreTrivia (contents between) → IsTrue (is_comma_at ns k) → Past row (Some k)
    none_past : comma_first (contents row) ≡ false → Past row None

  pub past_of : (row : List ℕ) → Past row (if_comma ns (find (is_no_trivia_at ns) row))
  past_of [] = none_past refl
  past_of (m ∷ rest) = by (is_trivia_at ns m) refl (past_of rest)
    where
      one_more : IsTrue (is_trivia_at ns m) → {o : Option ℕ} → Past rest o → Past (m ∷ rest) o
      one_more t (comma_past between after e f g) = comma_past (m ∷ between) after (ap (λ (l : List ℕ). m ∷ l) e) (t, f) g
      one_more t (none_past e) = none_past (ap (λ b. if b then comma_first (contents rest) else is_comma (content_at ns m)) t ∙ e)

      here : (d : Bool) → is_comma_at ns m ≡ d → is_trivia_at ns m ≡ false → Past (m ∷ rest) (if d then Some m else None)
      here true f e = comma_past [] rest refl tt f
      here false f e = none_past (ap (λ b. if b then comma_first (contents rest) else is_comma (content_at ns m)) e ∙ f)

      by : (b : Bool) → is_trivia_at ns m ≡ b → Past rest (if_comma ns (find (is_no_trivia_at ns) rest)) → Past (m ∷ rest) (if_comma ns (if not b then Some m else find (is_no_trivia_at ns) rest))
      by true e r = one_more e r
      by false e r = here (is_comma_at ns m) refl e

  -- before a node the nearest comma stands, or none
  pub data Ahead (row : List ℕ) : Option ℕ → Type 0 where
    comma_ahead : (front mid : List ℕ) {k : ℕ} → row ≡ front ++ k ∷ mid → IsTrue (is_comma_at ns k) → IsTrue (no_commas (contents mid)) → Ahead row (Some k)
    none_ahead : IsTrue (no_commas (contents row)) → Ahead row None

  no_commas_push : (xs : List Content) (x : Content) → IsTrue (no_commas xs) → is_comma x ≡ false → IsTrue (no_commas (xs ++ x ∷ []))
  no_commas_push [] x h e = ap (λ b. not b && true) e
  no_commas_push (y ∷ xs) x h e = by (is_comma y) h (λ k. no_commas_push xs x k e)
    where
      by : (b : Bool) → IsTrue (not b && no_commas xs) → (IsTrue (no_commas xs) → IsTrue (no_commas (xs ++ x ∷ []))) → IsTrue (not b && no_commas (xs ++ x ∷ []))
      by true k rest = k
      by false k rest = rest k

  pub ahead_of : (back : List ℕ) → Ahead (reverse back) (find (is_comma_at ns) back)
  ahead_of [] = none_ahead refl
  ahead_of (m ∷ rest) = by (is_comma_at ns m) refl (ahead_of rest)
    where
      turned : reverse (m ∷ rest) ≡ reverse rest ++ m ∷ []
      turned = reverse-append (m ∷ []) rest

      pushed : (xs : List ℕ) → IsTrue (no_commas (contents xs)) → is_comma_at ns m ≡ false → IsTrue (no_commas (contents (xs ++ m ∷ [])))
      pushed xs h e = subst (λ l. IsTrue (no_commas l)) (sym (map-append (content_at ns) xs (m ∷ []))) (no_commas_push (contents xs) (content_at ns m) h e)

      one_more : is_comma_at ns m ≡ false → {o : Option ℕ} → Ahead (reverse rest) o → Ahead (reverse (m ∷ rest)) o
      one_more e (comma_ahead front mid {k = k} f g h) = comma_ahead front (mid ++ m ∷ []) (turned ∙ ap (λ l. l ++ m ∷ []) f ∙ append_assoc front (k ∷ mid) (m ∷ [])) g (pushed mid h e)
      one_more e (none_ahead h) = none_ahead (subst (λ l. IsTrue (no_commas (contents l))) (sym turned) (pushed (reverse rest) h e))

      by : (b : Bool) → is_comma_at ns m ≡ b → Ahead (reverse rest) (find (is_comma_at ns) rest) → Ahead (reverse (m ∷ rest)) (if b then Some m else find (is_comma_at ns) rest)
      by true e r = comma_ahead (reverse rest) [] turned e refl
      by false e r = one_more e r
