-- A text with the contents of a document is a document with its value.
use Rattle.std.proofs.Common.{ℕ, ◌≡◌, ◌∙◌, sym, ap, subst, refl, not, List, [], ◌∷◌, ◌++◌, Option, Some, None, IsTrue, inl, inr}
use Rattle.jsonc_text.specs.Options.{Options}
use Rattle.jsonc_text.specs.Text.{next, no, starts, Many, stop, step}
use Rattle.jsonc_text.specs.Gaps.{is_blank, IsComment, Gap}
use Rattle.jsonc_text.specs.Places.{is_comment}
use Rattle.jsonc_text.specs.Lexemes.{LexemeKind, Lexeme, Scanned, lexeme, line_comment, block_comment, is_punctuation, IsScanned}
use Rattle.jsonc_text.specs.Grammar.{IsName, IsValue, AreElements, AreProperties, IsProperty, IsDocument, Separates, Closes}
use Rattle.jsonc_text.specs.Plain.{Plain, Items, Members}
use Rattle.jsonc_text.proofs.Basics.{clash, tails, text_same}
use Rattle.jsonc_text.proofs.LexemesAlone.{own_text}
use Rattle.jsonc_text.proofs.UniqueGaps.{many_unique}
use Rattle.jsonc_text.proofs.UniqueTokens.{scanned_no_blank}
use Rattle.jsonc_format.specs.Format.{Piece, IsPieces, no_more, piece}
use Rattle.jsonc_format.specs.Laws.{ended, content, contents, HasContents}
use Rattle.jsonc_format.proofs.DocumentPieces.{comment_scanned, comment_next}
use Rattle.jsonc_format.proofs.Steps.{front}
use Rattle.jsonc_format.proofs.Unique.{starts_no, no_piece}

first_same : {A : Type 0} {c d : A} {r s : List A} → c ∷ r ≡ d ∷ s → c ≡ d
first_same e = cc

others_same : {A : Type 0} {c d : A} {r s : List A} → c ∷ r ≡ d ∷ s → r ≡ s
others_same e = cc

blanks_past : {c : ℕ} {t s r : List ℕ} → Many is_blank t r → r ≡ [] → t ≡ c ∷ s → Many is_blank s []
blanks_past stop e f = cc
blanks_past (step h m) e f = rw (e, tails f) at m

same_lexeme : (what : Scanned) (text : List ℕ) (k : LexemeKind) (s : List ℕ) → content what text ≡ content (lexeme k) s → (what ≡ lexeme k) × (text ≡ s)
same_lexeme (lexeme l) text k s e = (ap (λ (p : Piece). p.what) e, ap (λ (p : Piece). p.text) e)
same_lexeme (line_comment c) text k s e = let z : ended (line_comment c) ≡ lexeme k = ap (λ (p : Piece). p.what) e in cc
same_lexeme (block_comment c) text k s e = let z : block_comment c ≡ lexeme k = ap (λ (p : Piece). p.what) e in cc

ended_comment : (w : Scanned) → is_comment (ended w) ≡ is_comment w
ended_comment (lexeme k) = refl
ended_comment (line_comment c) = refl
ended_comment (block_comment c) = refl

same_comment : (v w : Scanned) (s u : List ℕ) → content v s ≡ content w u → IsTrue (is_comment w) → IsTrue (is_comment v)
same_comment v w s u e h = sym (ended_comment v) ∙ ap (λ (p : Piece). is_comment p.what) e ∙ ended_comment w ∙ h

module _ (o : Options) where
  comment_there : (w : Scanned) (t u : List ℕ) → IsTrue (is_comment w) → IsScanned o w t u → IsComment t u
  comment_there (lexeme k) t u h x = cc
  comment_there (line_comment c) t u h x = inl x.0
  comment_there (block_comment c) t u h x = inr x.0

  -- no blank is first
  abbrev IsClear : List ℕ → Type 0
  IsClear t = IsTrue (no is_blank (next t))

  shorter : (c : ℕ) (t tail u g : List ℕ) (cs ps : List Piece) (p : Piece) → IsTrue (is_blank c) → Many is_blank g [] → IsScanned o p.what (p.text ++ u) u → IsPieces o tail u ps
      → content p.what p.text ∷ contents ps ≡ cs → g ++ (p.text ++ u) ≡ c ∷ t → HasContents o t cs
  shorter c t tail u [] cs ps p b m x l k e =
      let a : IsTrue (starts (λ d. not (is_blank d)) (next (p.text ++ u))) = scanned_no_blank o p.what (p.text ++ u) u x in
      absurd (clash (is_blank c) (rw e at a) b)
  shorter c t tail u (d ∷ g) cs ps p b m x l k e =
      let q : Piece = record p { gap = g } in
      record { tail = tail; pieces = q ∷ ps; parts = piece q (blanks_past m refl refl) x (sym (tails e)) l; same = k }

  un_blank : {c : ℕ} {t : List ℕ} {cs : List Piece} → IsTrue (is_blank c) → HasContents o (c ∷ t) cs → HasContents o t cs
  un_blank {c} {t} {cs} b h = by_parts h.parts refl h.same
    where
      by_parts : {tail s : List ℕ} {ps : List Piece} → IsPieces o tail s ps → s ≡ c ∷ t → contents ps ≡ cs → HasContents o t cs
      by_parts (no_more m) e k = record { tail = t; pieces = []; parts = no_more (blanks_past m refl e); same = k }
      by_parts {tail} (piece p {u = u} {ps = ps} g x f l) e k = shorter c t tail u p.gap cs ps p b g x l k (sym f ∙ e)

  -- what stands at the front of a text, and what is left
  record Taken (w : Scanned) (t u : List ℕ) (cs : List Piece) : Type 0 where
    text : List ℕ
    split : t ≡ text ++ u
    others : List Piece
    same : cs ≡ content w text ∷ others
    left : HasContents o u others

  taken : (w : Scanned) {t u : List ℕ} {cs : List Piece} → IsScanned o w t u → HasContents o t cs → Taken w t u cs
  taken w {t} {u} {cs} x h =
      let s = own_text o w t u x in
      let f = front h.parts w [] s.0 u stop (rw s.1 at x) s.1 in
      record {
        text = s.0;
        split = s.1;
        others = contents f.others;
        same = sym h.same ∙ ap contents f.same;
        left = record { tail = h.tail; pieces = f.others; parts = f.parts; same = refl };
      }

  -- the first piece of a text
  record First (c : Piece) (t : List ℕ) (others : List Piece) : Type 0 where
    gap : List ℕ
    what : Scanned
    text : List ℕ
    after : List ℕ
    blanks : Many is_blank gap []
    split : t ≡ gap ++ (text ++ after)
    scanned : IsScanned o what (text ++ after) after
    same : content what text ≡ c
    right : HasContents o after others

  first : {c : Piece} {t : List ℕ} {cs : List Piece} → HasContents o t (c ∷ cs) → First c t cs
  first {c} {t} {cs} h = by_parts h.parts h.same
    where
      by_parts : {tail s : List ℕ} {ps : List Piece} → IsPieces o tail s ps → contents ps ≡ c ∷ cs → First c s cs
      by_parts (no_more m) k = cc
      by_parts {tail} (piece p {u = u} {ps = ps} g x e l) k = record {
        gap = p.gap;
        what = p.what;
        text = p.text;
        after = u;
        blanks = g;
        split = e;
        scanned = x;
        same = first_same k;
        right = record { tail = tail; pieces = ps; parts = l; same = others_same k };
      }

  blanks_then : (t : List ℕ) {g r u : List ℕ} → Many is_blank g r → Gap o (r ++ t) u → Gap o (g ++ t) u
  blanks_then t stop k = k
  blanks_then t (step h m) k = Gap.blank h (blanks_then t m k)

  blanks_to : {t u : List ℕ} → Many is_blank t u → Gap o t u
  blanks_to stop = Gap.none
  blanks_to (step h m) = Gap.blank h (blanks_to m)

  -- past a gap of both texts
  record After (u z : List ℕ) : Type 0 where
    place : List ℕ
    gap : Gap o z place
    others : List Piece
    left : HasContents o u others
    right : HasContents o place others
    clear : IsClear place

  cleared : {u z : List ℕ} {cs : List Piece} → HasContents o u cs → HasContents o z cs → After u z
  cleared {u} {z} {cs} h k = by_parts k.parts k.same
    where
      by_parts : {tail s : List ℕ} {ps : List Piece} → IsPieces o tail s ps → contents ps ≡ cs → After u s
      by_parts (no_more m) e = record { place = []; gap = blanks_to m; others = cs; left = h; right = record { tail = []; pieces = []; parts = no_more stop; same = e }; clear = refl }
      by_parts {tail} (piece p {u = v} {ps = ps} g x e l) f =
          let q : Piece = record p { gap = [] } in
          record {
            place = p.text ++ v;
            gap = subst (λ s. Gap o s (p.text ++ v)) (sym e) (blanks_then (p.text ++ v) g Gap.none);
            others = cs;
            left = h;
            right = record { tail = tail; pieces = q ∷ ps; parts = piece q stop x refl l; same = f };
            clear = starts_no (next (p.text ++ v)) (scanned_no_blank o p.what (p.text ++ v) v x);
          }

  past_gap : {t u z : List ℕ} {cs : List Piece} → Gap o t u → HasContents o t cs → HasContents o z cs → After u z
  past_gap Gap.none h k = cleared h k
  past_gap (Gap.blank b g) h k = past_gap g (un_blank b h) k
  past_gap {z = z} (Gap.comment {t = t} {u = v} a c g) h k =
      let w = comment_scanned o c in
      let one = taken w.0 w.1 h in
      let f = first (subst (λ cs. HasContents o z cs) one.same k) in
      let n = past_gap g one.left f.right in
      let there = comment_there f.what (f.text ++ f.after) f.after (same_comment f.what w.0 f.text one.text f.same (comment_next o c)) f.scanned in
      record {
        place = n.place;
        gap = subst (λ s. Gap o s n.place) (sym f.split) (blanks_then (f.text ++ f.after) f.blanks (Gap.comment a there n.gap));
        others = n.others;
        left = n.left;
        right = n.right;
        clear = n.clear;
      }

  -- past a lexeme of both texts
  record Read (k : LexemeKind) (t u z : List ℕ) : Type 0 where
    text : List ℕ
    was : t ≡ text ++ u
    place : List ℕ
    now : z ≡ text ++ place
    there : Lexeme o k z place
    others : List Piece
    left : HasContents o u others
    right : HasContents o place others

  no_gap : (g t z : List ℕ) → Many is_blank g [] → z ≡ g ++ t → IsClear z → z ≡ t
  no_gap [] t z m e n = e
  no_gap (c ∷ g) t z m e n = absurd (clash (is_blank c) (rw e at n) (first_blank m refl refl))
    where
      first_blank : {s r : List ℕ} → Many is_blank s r → {c : ℕ} {t : List ℕ} → r ≡ [] → s ≡ c ∷ t → IsTrue (is_blank c)
      first_blank stop e f = cc
      first_blank (step h m) e f = rw (first_same f) at h

  read : (k : LexemeKind) {t u z : List ℕ} {cs : List Piece} → Lexeme o k t u → HasContents o t cs → HasContents o z cs → IsClear z → Read k t u z
  read k {t} {u} {z} {cs} x h i n =
      let one = taken (lexeme k) x h in
      let f = first (subst (λ cs. HasContents o z cs) one.same i) in
      let same = same_lexeme f.what f.text k one.text f.same in
      let now : z ≡ f.text ++ f.after = no_gap f.gap (f.text ++ f.after) z f.blanks f.split n in
      record {
        text = one.text;
        was = one.split;
        place = f.after;
        now = now ∙ ap (λ s. s ++ f.after) same.1;
        there = subst (λ t. IsScanned o (lexeme k) t f.after) (sym now) (subst (λ w. IsScanned o w (f.text ++ f.after) f.after) same.0 f.scanned);
        others = one.others;
        left = one.left;
        right = f.right;
      }

  -- past a gap and punctuation
  record Marked (c : ℕ) (u z : List ℕ) : Type 0 where
    place : List ℕ
    gap : Gap o z (c ∷ place)
    others : List Piece
    left : HasContents o u others
    right : HasContents o place others

  past_mark : (c : ℕ) {t u z : List ℕ} {cs : List Piece} → IsTrue (is_punctuation c) → Gap o t (c ∷ u) → HasContents o t cs → HasContents o z cs → Marked c u z
  past_mark c {t} {u} {z} p g h k =
      let a = past_gap g h k in
      let r = read (LexemeKind.punctuation c) (p, refl) a.left a.right a.clear in
      record { place = r.place; gap = subst (λ s. Gap o z s) r.there.1 a.gap; others = r.others; left = r.left; right = r.right }

  -- past what is said of a text, to where no blank is first
  record Past (R : List ℕ → List ℕ → Type 0) (u z : List ℕ) : Type 0 where
    place : List ℕ
    there : R z place
    others : List Piece
    left : HasContents o u others
    right : HasContents o place others

  record PastClear (R : List ℕ → List ℕ → Type 0) (u z : List ℕ) : Type 0 where
    place : List ℕ
    there : R z place
    others : List Piece
    left : HasContents o u others
    right : HasContents o place others
    clear : IsClear place

  separated : {t u z : List ℕ} {cs : List Piece} → Separates o t u → HasContents o t cs → HasContents o z cs → PastClear (Separates o) u z
  separated (Separates.comma g k) h i =
      let m = past_mark 0x2C refl g h i in
      let a = past_gap k m.left m.right in
      record { place = a.place; there = Separates.comma m.gap a.gap; others = a.others; left = a.left; right = a.right; clear = a.clear }
  separated (Separates.no_comma p g) h i =
      let a = past_gap g h i in
      record { place = a.place; there = Separates.no_comma p a.gap; others = a.others; left = a.left; right = a.right; clear = a.clear }

  closed : (b : ℕ) {t u z : List ℕ} {cs : List Piece} → IsTrue (is_punctuation b) → Closes o b t u → HasContents o t cs → HasContents o z cs → Past (Closes o b) u z
  closed b p (Closes.plain g) h i =
      let m = past_mark b p g h i in
      record { place = m.place; there = Closes.plain m.gap; others = m.others; left = m.left; right = m.right }
  closed b p (Closes.trailing_comma q g k) h i =
      let m = past_mark 0x2C refl g h i in
      let n = past_mark b p k m.left m.right in
      record { place = n.place; there = Closes.trailing_comma q m.gap n.gap; others = n.others; left = n.left; right = n.right }

  named : {t name u z : List ℕ} {cs : List Piece} → IsName o t name u → HasContents o t cs → HasContents o z cs → IsClear z → Past (λ a b. IsName o a name b) u z
  named {name = name} (inl x) h i n =
      let r = read (LexemeKind.string name) x h i n in
      record { place = r.place; there = inl r.there; others = r.others; left = r.left; right = r.right }
  named {name = name} (inr (a, e, k, b, x)) h i n =
      let r = read k x h i n in
      let same : r.text ≡ name = text_same r.was e refl in
      record { place = r.place; there = inr (a, r.now ∙ ap (λ s. s ++ r.place) same, k, b, r.there); others = r.others; left = r.left; right = r.right }

  mutual
    valued : {t r z : List ℕ} {v : Plain} {cs : List Piece} → IsValue o t v r → HasContents o t cs → HasContents o z cs → IsClear z → Past (λ a b. IsValue o a v b) r z
    valued (IsValue.literal k x e) h i n =
        let r = read k x h i n in
        record { place = r.place; there = IsValue.literal k r.there e; others = r.others; left = r.left; right = r.right }
    valued {v = v} (IsValue.empty_array g) h i n =
        let r = read (LexemeKind.punctuation 0x5B) (refl, refl) h i n in
        let m = past_mark 0x5D refl g r.left r.right in
        record { place = m.place; there = subst (λ s. IsValue o s v m.place) (sym r.there.1) (IsValue.empty_array m.gap); others = m.others; left = m.left; right = m.right }
    valued {v = v} (IsValue.array g x) h i n =
        let r = read (LexemeKind.punctuation 0x5B) (refl, refl) h i n in
        let a = past_gap g r.left r.right in
        let e = elements x a.left a.right a.clear in
        record { place = e.place; there = subst (λ s. IsValue o s v e.place) (sym r.there.1) (IsValue.array a.gap e.there); others = e.others; left = e.left; right = e.right }
    valued {v = v} (IsValue.empty_object g) h i n =
        let r = read (LexemeKind.punctuation 0x7B) (refl, refl) h i n in
        let m = past_mark 0x7D refl g r.left r.right in
        record { place = m.place; there = subst (λ s. IsValue o s v m.place) (sym r.there.1) (IsValue.empty_object m.gap); others = m.others; left = m.left; right = m.right }
    valued {v = v} (IsValue.object g x) h i n =
        let r = read (LexemeKind.punctuation 0x7B) (refl, refl) h i n in
        let a = past_gap g r.left r.right in
        let e = properties x a.left a.right a.clear in
        record { place = e.place; there = subst (λ s. IsValue o s v e.place) (sym r.there.1) (IsValue.object a.gap e.there); others = e.others; left = e.left; right = e.right }

    elements : {t r z : List ℕ} {vs : Items} {cs : List Piece} → AreElements o t vs r → HasContents o t cs → HasContents o z cs → IsClear z → Past (λ a b. AreElements o a vs b) r z
    elements (AreElements.last_element x c) h i n =
        let a = valued x h i n in
        let b = closed 0x5D refl c a.left a.right in
        record { place = b.place; there = AreElements.last_element a.there b.there; others = b.others; left = b.left; right = b.right }
    elements (AreElements.element x s y) h i n =
        let a = valued x h i n in
        let b = separated s a.left a.right in
        let c = elements y b.left b.right b.clear in
        record { place = c.place; there = AreElements.element a.there b.there c.there; others = c.others; left = c.left; right = c.right }

    properties : {t r z : List ℕ} {ms : Members} {cs : List Piece} → AreProperties o t ms r → HasContents o t cs → HasContents o z cs → IsClear z → Past (λ a b. AreProperties o a ms b) r z
    properties (AreProperties.last_property x c) h i n =
        let a = property x h i n in
        let b = closed 0x7D refl c a.left a.right in
        record { place = b.place; there = AreProperties.last_property a.there b.there; others = b.others; left = b.left; right = b.right }
    properties (AreProperties.property x s y) h i n =
        let a = property x h i n in
        let b = separated s a.left a.right in
        let c = properties y b.left b.right b.clear in
        record { place = c.place; there = AreProperties.property a.there b.there c.there; others = c.others; left = c.left; right = c.right }

    property : {t name r z : List ℕ} {v : Plain} {cs : List Piece} → IsProperty o t name v r → HasContents o t cs → HasContents o z cs → IsClear z → Past (λ a b. IsProperty o a name v b) r z
    property (IsProperty.named m g k x) h i n =
        let a = named m h i n in
        let b = past_mark 0x3A refl g a.left a.right in
        let c = past_gap k b.left b.right in
        let d = valued x c.left c.right c.clear in
        record { place = d.place; there = IsProperty.named a.there b.gap c.gap d.there; others = d.others; left = d.left; right = d.right }

  -- where one text ends, so does the other
  no_others : {tail t : List ℕ} {ps : List Piece} → IsPieces o tail t ps → t ≡ [] → ps ≡ []
  no_others (no_more m) e = refl
  no_others (piece p {u = u} g x f l) e = absurd (no_piece o p.what p.text u stop g x (sym e ∙ f))

  ended_here : {z : List ℕ} {cs : List Piece} → HasContents o [] cs → HasContents o z cs → IsClear z → z ≡ []
  ended_here {z} {cs} h k n = by_parts k.parts (k.same ∙ sym h.same ∙ ap contents (no_others h.parts refl)) n
    where
      by_parts : {tail s : List ℕ} {ps : List Piece} → IsPieces o tail s ps → contents ps ≡ [] → IsClear s → s ≡ []
      by_parts (no_more m) e n = many_unique stop m n refl
      by_parts (piece p g x f l) e n = cc

  gap_to_end : {t z : List ℕ} {cs : List Piece} → Gap o t [] → HasContents o t cs → HasContents o z cs → Gap o z []
  gap_to_end {t} {z} g h k = let a = past_gap g h k in subst (λ s. Gap o z s) (ended_here a.left a.right a.clear) a.gap

  pub same_document : {t z : List ℕ} {cs : List Piece} (v : Option Plain) → IsDocument o t v → HasContents o t cs → HasContents o z cs → IsDocument o z v
  same_document None g h k = gap_to_end g h k
  same_document (Some v) (u, r, g, x, e) h k =
      let a = past_gap g h k in
      let b = valued x a.left a.right a.clear in
      (a.place, b.place, a.gap, b.there, gap_to_end e b.left b.right)
