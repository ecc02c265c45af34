-- What is known of a text after each of its pieces.
use Rattle.std.specs.Prelude.{ℕ, ◌≡◌, Bool, true, false, not, ◌||◌, ◌==◌, List, [], ◌∷◌, ◌++◌, if◌then◌else◌}
use Rattle.jsonc_text.specs.Lexemes.{Scanned}
use Rattle.jsonc_format.specs.declared.track.Track.{Track}
use Rattle.jsonc_format.specs.Flags.{flats}
use Rattle.jsonc_format.specs.Format.{Style, Frame, State, Piece, opens, closes, mark, is_flat, without_first, after, gap_in, written, layout_after}
use Rattle.jsonc_format.specs.Writing.{open_frames, state_of}

-- the containers that are open after a piece that these follow
abbrev pub frames_after : Bool → List Frame → Bool → Scanned → List Piece → List Frame
frames_after expands around shifted w ps =
    if opens w then record { object = mark w == 0x7B; spread = expands || not (is_flat ps); shifted = shifted } ∷ around
    else (if closes w then without_first around else around)

-- the gap before a piece, which is none before the first one
abbrev pub gap_here : Bool → Style → State → Piece → List Piece → List ℕ
gap_here begun y s p ps = if begun then gap_in y s s.around p ps else []

-- the rest of a text, after a first piece or before it
abbrev pub layout_by : Bool → Style → State → List Piece → List ℕ
layout_by true y s ps = layout_after y s ps
layout_by false y s [] = []
layout_by false y s (p ∷ ps) = written p.what p.text ++ layout_after y (after y s p.what ps) ps

module _ {A : Type 0} where
  abbrev pub track_state : Track A → State
  track_state t = state_of (open_frames t.frames) t.beside

  -- the containers that the piece opens or closes are noted
  pub record Nests (expands : Bool) (w : Scanned) (ps : List Piece) (old new : Track A) : Type 0 where
    pub frames : open_frames new.frames ≡ frames_after expands (open_frames old.frames) old.beside.shifted w ps
    pub flat : new.flat.now ≡ flats ps
    pub beside : new.beside ≡ old.beside

  -- a piece that these follow is passed
  pub record PassesPiece (y : Style) (w : Scanned) (ps : List Piece) (old new : Track A) : Type 0 where
    pub begun : new.begun ≡ true
    pub state : track_state new ≡ after y (track_state old) w ps
    pub flat : new.flat.now ≡ flats ps

  -- what is written of a piece and before it, and what is known then
  pub record PutsPiece (y : Style) (p : Piece) (ps : List Piece) (old new : Track A) (was now : List ℕ) : Type 0 where
    pub text : now ≡ was ++ (gap_here old.begun y (track_state old) p ps ++ written p.what p.text)
    pub passed : PassesPiece y p.what ps old new
