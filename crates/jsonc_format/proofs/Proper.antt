-- What a text tells of its style, and what may be asked of one, are ends of lines and blanks.
use Rattle.std.proofs.Common.{ℕ, ◌≡◌, sym, subst, refl, Bool, true, false, ◌&&◌, ◌==◌, List, [], ◌∷◌, IsTrue, Option, Some, None, option_map, take, codes, if◌then◌else◌}
use Rattle.jsonc_text.specs.Options.{Options}
use Rattle.jsonc_text.specs.Text.{next, starts, Many, stop, step, is_line_end}
use Rattle.jsonc_text.specs.Gaps.{is_blank, is_in_line}
use Rattle.jsonc_format.specs.declared.style.LineEnd.{LineEnd}
use Rattle.jsonc_format.specs.declared.style.LineEnd.TheVariants as end
use Rattle.jsonc_format.specs.declared.style.Level.{Level}
use Rattle.jsonc_format.specs.declared.style.Level.TheVariants as level
use Rattle.jsonc_format.specs.declared.style.Style as code
use Rattle.jsonc_format.specs.Format.{Style, Piece, IsPieces, no_more, piece, in_line, opens, closes}
use Rattle.jsonc_format.specs.Styles.{IsLineEnd, line_feed, carriage_return, both, IsProper, or_else, first_end, line_end_of, last_line, tells_level, depth_after, level_of, IsStyleFor}
use Rattle.jsonc_format.specs.Wishes.{line_end_text, level_text, wish_of}
use Rattle.jsonc_format.proofs.Sounds.{many_take}
use Rattle.jsonc_format.proofs.Trims.{run_in_line}

first_proper : (s other : List ℕ) → IsLineEnd other → IsLineEnd (first_end s other)
first_proper [] other h = h
first_proper (c ∷ s) other h = each (c == 0x0A) (c == 0x0D) (starts (λ d. d == 0x0A) (next s)) (first_proper s other h)
  where
    each : (x y z : Bool) {u : List ℕ} → IsLineEnd u → IsLineEnd (if x then 0x0A ∷ [] else (if y then (if z then 0x0D ∷ 0x0A ∷ [] else 0x0D ∷ []) else u))
    each true y z k = line_feed
    each false true true k = both
    each false true false k = carriage_return
    each false false z k = k

told_end : (ps : List Piece) (tail : List ℕ) → IsLineEnd (line_end_of ps tail)
told_end [] tail = first_proper tail (0x0A ∷ []) line_feed
told_end (p ∷ ps) tail = first_proper p.gap (line_end_of ps tail) (told_end ps tail)

asked_end : (e : LineEnd) → IsLineEnd (line_end_text e)
asked_end end.Lf = line_feed
asked_end end.CrLf = both
asked_end end.Cr = carriage_return

end_proper : (e : Option LineEnd) (s : List ℕ) → IsLineEnd s → IsLineEnd (or_else (option_map line_end_text e) s)
end_proper None s h = h
end_proper (Some e) s h = asked_end e

-- a level of indent is blanks in which no line ends
record Levels (s : List ℕ) : Type 0 where
  stays : IsTrue (in_line s)
  blank : Many is_blank s []

last_in_line : (s : List ℕ) → IsTrue (in_line (last_line s))
last_in_line [] = refl
last_in_line (c ∷ s) = each (is_line_end c) (in_line s) refl (last_in_line s)
  where
    each : (x y : Bool) → in_line s ≡ y → IsTrue (in_line (last_line s)) → IsTrue (in_line (if x && y then s else last_line s))
    each true true e h = e
    each true false e h = h
    each false y e h = h

last_blank : (s : List ℕ) → Many is_blank s [] → Many is_blank (last_line s) []
last_blank s m = by_many m refl
  where
    some_last : (c : ℕ) (t : List ℕ) → Many is_blank t [] → Many is_blank (last_line t) [] → Many is_blank (last_line (c ∷ t)) []
    some_last c t m h = each (is_line_end c && in_line t)
      where
        each : (x : Bool) → Many is_blank (if x then t else last_line t) []
        each true = m
        each false = h

    by_many : {t r : List ℕ} → Many is_blank t r → r ≡ [] → Many is_blank (last_line t) []
    by_many stop e = rw e stop
    by_many (step {c = c} {t = t} h m) e = some_last c t (rw e at m) (by_many m e)

told_level : {o : Options} {tail t : List ℕ} {ps : List Piece} (n : ℕ) → IsPieces o tail t ps → Levels (level_of n ps)
told_level n (no_more h) = record { stays = refl; blank = step refl (step refl stop) }
told_level n (piece p {ps = ps} g x e l) = each (tells_level n (last_line p.gap)) (record { stays = last_in_line p.gap; blank = last_blank p.gap g }) (told_level (depth_after (opens p.what) (closes p.what) n) l)
  where
    each : (b : Bool) {s u : List ℕ} → Levels s → Levels u → Levels (if b then s else u)
    each true h k = h
    each false h k = k

spaces_blank : Many is_blank (codes "        ") []
spaces_blank = step refl (step refl (step refl (step refl (step refl (step refl (step refl (step refl stop)))))))

spaces_in_line : Many is_in_line (codes "        ") []
spaces_in_line = step refl (step refl (step refl (step refl (step refl (step refl (step refl (step refl stop)))))))

some_levels : (n : ℕ) → Levels (take n (codes "        "))
some_levels n = record { stays = run_in_line (many_take n spaces_in_line) refl; blank = many_take n spaces_blank }

asked_level : (l : Level) → Levels (level_text l)
asked_level (level.Spaces n) = some_levels n
asked_level level.Tab = record { stays = refl; blank = step refl stop }

level_proper : (l : Option Level) (s : List ℕ) → Levels s → Levels (or_else (option_map level_text l) s)
level_proper None s h = h
level_proper (Some l) s h = asked_level l

-- the style that is asked for, or that a text tells, is one in which texts are laid out
pub style_proper : (o : Options) (s : code.Style) (tail t : List ℕ) (ps : List Piece) (y : Style) → IsPieces o tail t ps → IsStyleFor (wish_of s) tail ps y → IsProper y
style_proper o s tail t ps y h f =
    let a : IsLineEnd y.line_end = subst IsLineEnd (sym f.ends) (end_proper s.line_end (line_end_of ps tail) (told_end ps tail)) in
    let b : Levels y.level = subst Levels (sym f.level) (level_proper s.level (level_of 0 ps) (told_level 0 h)) in
    record { ends = a; stays = b.stays; blank = b.blank }
