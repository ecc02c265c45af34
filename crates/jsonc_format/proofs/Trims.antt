-- Pieces are laid out alike without the blanks that end line comments.
use Rattle.std.specs.List.{cons_option}
use Rattle.std.proofs.Common.{ℕ, ◌≡◌, ◌∙◌, sym, ap, refl, Bool, true, false, not, ◌&&◌, ◌||◌, ◌==◌, nat_lt, List, [], ◌∷◌, ◌++◌, Some, if◌then◌else◌}
use Rattle.jsonc_text.specs.Options.{Options}
use Rattle.jsonc_text.specs.Text.{Many, stop, step}
use Rattle.jsonc_text.specs.Gaps.{is_in_line, LineComment, line}
use Rattle.jsonc_text.specs.Places.{is_comment}
use Rattle.jsonc_text.specs.Marks.{Mark, mark_of}
use Rattle.jsonc_text.specs.Lexemes.{LexemeKind, Scanned, lexeme, line_comment, block_comment, IsScanned}
use Rattle.jsonc_text.proofs.LexemesAlone.{scanned_alone}
use Rattle.jsonc_format.specs.Format.{Style, Frame, State, Piece, IsPieces, no_more, piece, mark, opens, closes, separates, is_line_comment, in_line, lines, is_last, left_open, on_one_line, is_flat, leads, new_line, gap_in, without_first, is_object, past, after, start, written, layout_after, layout}
use Rattle.jsonc_format.specs.Laws.{marks_of, content, contents}
use Rattle.jsonc_format.proofs.Trim.{kept, kept_again}
use Rattle.jsonc_format.proofs.Sounds.{trim_what, trimmed_pieces, many_take}

-- a line ends in what is written of a piece where one does in the piece
abbrev pub AreTidy : List Piece → Type 0
AreTidy [] = Unit {0}
AreTidy (p ∷ ps) = (in_line (written p.what p.text) ≡ in_line p.text) × AreTidy ps

pub run_in_line : {s r : List ℕ} → Many is_in_line s r → r ≡ [] → in_line s ≡ true
run_in_line stop e = rw e refl
run_in_line (step {c = c} {t = t} h m) e = rw h (run_in_line m e)

text_tidy : (o : Options) (w : Scanned) (s u : List ℕ) → IsScanned o w (s ++ u) u → in_line (written w s) ≡ in_line s
text_tidy o (lexeme k) s u x = refl
text_tidy o (block_comment c) s u x = refl
text_tidy o (line_comment c) s u x = by_line s (scanned_alone o (line_comment c) s u x).0.0
  where
    slashes : {t r : List ℕ} → Many is_in_line t r → Many is_in_line (0x2F ∷ 0x2F ∷ t) r
    slashes m = step refl (step refl m)

    by_line : (s : List ℕ) → LineComment s [] → in_line (kept s) ≡ in_line s
    by_line s (line g n) = run_in_line (many_take _ (slashes g)) refl ∙ sym (run_in_line (slashes g) refl)

pub pieces_tidy : (o : Options) {tail t : List ℕ} {ps : List Piece} → IsPieces o tail t ps → AreTidy ps
pieces_tidy o (no_more h) = tt
pieces_tidy o (piece p {u = u} g x e l) = (text_tidy o p.what p.text u x, pieces_tidy o l)

opens_trimmed : (w : Scanned) → opens (trim_what w) ≡ opens w
opens_trimmed (lexeme k) = refl
opens_trimmed (line_comment c) = refl
opens_trimmed (block_comment c) = refl

closes_trimmed : (w : Scanned) → closes (trim_what w) ≡ closes w
closes_trimmed (lexeme k) = refl
closes_trimmed (line_comment c) = refl
closes_trimmed (block_comment c) = refl

one_line_trimmed : (n : ℕ) (ps : List Piece) → AreTidy ps → on_one_line n (trimmed_pieces ps) ≡ on_one_line n ps
one_line_trimmed n [] h = refl
one_line_trimmed n (p ∷ ps) (e, h) =
    ap (λ b. in_line p.gap && (b && (is_last (opens (trim_what p.what)) (closes (trim_what p.what)) n || on_one_line (left_open (opens (trim_what p.what)) (closes (trim_what p.what)) n) (trimmed_pieces ps)))) e
    ∙ ap (λ op. in_line p.gap && (in_line p.text && (is_last op (closes (trim_what p.what)) n || on_one_line (left_open op (closes (trim_what p.what)) n) (trimmed_pieces ps)))) (opens_trimmed p.what)
    ∙ ap (λ cl. in_line p.gap && (in_line p.text && (is_last (opens p.what) cl n || on_one_line (left_open (opens p.what) cl n) (trimmed_pieces ps)))) (closes_trimmed p.what)
    ∙ ap (λ b. in_line p.gap && (in_line p.text && (is_last (opens p.what) (closes p.what) n || b))) (one_line_trimmed (left_open (opens p.what) (closes p.what) n) ps h)

flat_trimmed : (ps : List Piece) → AreTidy ps → is_flat (trimmed_pieces ps) ≡ is_flat ps
flat_trimmed [] h = refl
flat_trimmed (p ∷ ps) h = ap (λ b. b || on_one_line 0 (trimmed_pieces (p ∷ ps))) (closes_trimmed p.what) ∙ ap (λ b. closes p.what || b) (one_line_trimmed 0 (p ∷ ps) h)

leads_trimmed : (w : Scanned) (ps : List Piece) → leads (trim_what w) (trimmed_pieces ps) ≡ leads w ps
leads_trimmed (lexeme k) ps = refl
leads_trimmed (line_comment c) ps = refl
leads_trimmed (block_comment c) [] = refl
leads_trimmed (block_comment c) (p ∷ ps) = ap (λ b. in_line p.gap && b) (leads_trimmed p.what ps)

-- the state after a piece, by whether a container that it opens is on one line
abbrev after_flat : Style → State → Scanned → Bool → State
after_flat y s w flat =
    if opens w then past (record { object = mark w == 0x7B; spread = y.expands || not flat; shifted = s.shifted } ∷ s.around) true false false
    else (if closes w then past (without_first s.around) false false false
    else (if separates w then past s.around false (mark w == 0x3A) (mark w == 0x3A && s.shifted)
    else (if is_comment w then record s { bare = false; shifted = (is_line_comment w && s.in_property) || s.shifted; comment = true; line = is_line_comment w }
    else past s.around false (is_object s.around && not s.in_property) false)))

after_trimmed : (y : Style) (s : State) (w : Scanned) (ps : List Piece) → AreTidy ps → after y s (trim_what w) (trimmed_pieces ps) ≡ after y s w ps
after_trimmed y s (lexeme k) ps h = ap (after_flat y s (lexeme k)) (flat_trimmed ps h)
after_trimmed y s (line_comment c) ps h = refl
after_trimmed y s (block_comment c) ps h = refl

-- the gap before a block comment, by whether an entry follows it on its line
abbrev gap_led : Style → State → List Frame → List ℕ → Bool → List ℕ
gap_led y s [] g lead =
    if s.line then new_line y s.around s.shifted (nat_lt 1 (lines g) && not s.in_property)
    else (if s.in_property || (in_line g && (s.comment || not lead)) then 0x20 ∷ []
    else new_line y s.around s.shifted (nat_lt 1 (lines g) && not s.bare))
gap_led y s (f ∷ fs) g lead =
    if s.bare && false then []
    else (if not f.spread then (if (s.bare || false) && not f.object then [] else 0x20 ∷ [])
    else (if s.line then new_line y s.around s.shifted (nat_lt 1 (lines g) && not s.in_property)
    else (if s.in_property || (in_line g && (s.comment || not lead)) then 0x20 ∷ []
    else new_line y s.around s.shifted (nat_lt 1 (lines g) && not s.bare))))

gap_trimmed : (y : Style) (s : State) (fs : List Frame) (g : List ℕ) (w : Scanned) (text other : List ℕ) (ps : List Piece)
    → gap_in y s fs (record { gap = g; what = trim_what w; text = other }) (trimmed_pieces ps) ≡ gap_in y s fs (record { gap = g; what = w; text = text }) ps
gap_trimmed y s [] g (lexeme k) text other ps = refl
gap_trimmed y s [] g (line_comment c) text other ps = refl
gap_trimmed y s [] g (block_comment c) text other ps = ap (gap_led y s [] g) (leads_trimmed (block_comment c) ps)
gap_trimmed y s (f ∷ fs) g (lexeme k) text other ps = refl
gap_trimmed y s (f ∷ fs) g (line_comment c) text other ps = refl
gap_trimmed y s (f ∷ fs) g (block_comment c) text other ps = ap (gap_led y s (f ∷ fs) g) (leads_trimmed (block_comment c) ps)

pub written_trimmed : (w : Scanned) (s : List ℕ) → written (trim_what w) (written w s) ≡ written w s
written_trimmed (lexeme k) s = refl
written_trimmed (line_comment c) s = kept_again s
written_trimmed (block_comment c) s = refl

after_layout : (y : Style) (s : State) (ps : List Piece) → AreTidy ps → layout_after y s (trimmed_pieces ps) ≡ layout_after y s ps
after_layout y s [] h = refl
after_layout y s (p ∷ ps) (e, h) =
    ap (λ g. g ++ (written (trim_what p.what) (written p.what p.text) ++ layout_after y (after y s (trim_what p.what) (trimmed_pieces ps)) (trimmed_pieces ps))) (gap_trimmed y s s.around p.gap p.what p.text (written p.what p.text) ps)
    ∙ ap (λ t. gap_in y s s.around p ps ++ (t ++ layout_after y (after y s (trim_what p.what) (trimmed_pieces ps)) (trimmed_pieces ps))) (written_trimmed p.what p.text)
    ∙ ap (λ z. gap_in y s s.around p ps ++ (written p.what p.text ++ layout_after y z (trimmed_pieces ps))) (after_trimmed y s p.what ps h)
    ∙ ap (λ l. gap_in y s s.around p ps ++ (written p.what p.text ++ l)) (after_layout y (after y s p.what ps) ps h)

pub layout_trimmed : (y : Style) (ps : List Piece) → AreTidy ps → layout y (trimmed_pieces ps) ≡ layout y ps
layout_trimmed y [] h = refl
layout_trimmed y (p ∷ ps) (e, h) =
    ap (λ t. t ++ layout_after y (after y start (trim_what p.what) (trimmed_pieces ps)) (trimmed_pieces ps)) (written_trimmed p.what p.text)
    ∙ ap (λ z. written p.what p.text ++ layout_after y z (trimmed_pieces ps)) (after_trimmed y start p.what ps h)
    ∙ ap (λ l. written p.what p.text ++ l) (after_layout y (after y start p.what ps) ps h)

mark_trimmed : (w : Scanned) (s : List ℕ) → mark_of (trim_what w) (written w s) ≡ mark_of w s
mark_trimmed (lexeme (LexemeKind.string v)) s = refl
mark_trimmed (lexeme (LexemeKind.number v)) s = refl
mark_trimmed (lexeme (LexemeKind.word v)) s = refl
mark_trimmed (lexeme (LexemeKind.keyword v)) s = refl
mark_trimmed (lexeme (LexemeKind.punctuation v)) s = refl
mark_trimmed (line_comment c) s = ap (λ t. Some (Mark.comment t)) (kept_again s)
mark_trimmed (block_comment c) s = refl

pub marks_trimmed : (ps : List Piece) → marks_of (trimmed_pieces ps) ≡ marks_of ps
marks_trimmed [] = refl
marks_trimmed (p ∷ ps) = ap (λ m. cons_option m (marks_of (trimmed_pieces ps))) (mark_trimmed p.what p.text) ∙ ap (cons_option (mark_of p.what p.text)) (marks_trimmed ps)

abbrev bare : Scanned → List ℕ → Piece
bare w s = record { gap = []; what = w; text = s }

both_same : {w v : Scanned} {s u : List ℕ} → w ≡ v → s ≡ u → bare w s ≡ bare v u
both_same p q = cc

content_trimmed : (w : Scanned) (s : List ℕ) → content (trim_what w) (written w s) ≡ content w s
content_trimmed (lexeme k) s = refl
content_trimmed (line_comment c) s = both_same (ap line_comment (kept_again c)) (kept_again s)
content_trimmed (block_comment c) s = refl

pub contents_trimmed : (ps : List Piece) → contents (trimmed_pieces ps) ≡ contents ps
contents_trimmed [] = refl
contents_trimmed (p ∷ ps) = ap (λ c. c ∷ contents (trimmed_pieces ps)) (content_trimmed p.what p.text) ∙ ap (λ r. content p.what p.text ∷ r) (contents_trimmed ps)
